use Rattle.std.proofs.Common.{◌≡◌, subst, inr, rules}
use Rattle.std.specs.Io.KnownBytes.{Appends}
use Rattle.std.specs.String.{string_bytes}
use Rattle.serial_command.specs.Serial.{IsReportOf}
use Rattle.serial_command.proofs.answer.report.Goals as goal

pub returns-in-Ok-clause-done : goal.returns-in-Ok-clause-done
returns-in-Ok-clause-done g c = λ done plan_text sessions_text known.
    let text = string_bytes c.in-Ok.ended.text in
    let e : c.deref.result.now ≡ text = search rules in
    let it = c.in-Ok.ensures.report plan_text sessions_text known in
    let reported : IsReportOf c.args.form plan_text sessions_text text =
    record { both = record { p = c.in-Ok.ended.plan; programs = it.programs; is_plan = it.is_plan; are_sessions = it.are_sessions }; is_report = it.is_report } in
    (text, reported, subst (λ t. Appends (g.W.Write.contents c.args.out.now) (g.W.Write.contents c.write_out.new.out) t) e (c.write_out.ensures.written done))

pub returns-in-Ok-clause-unwritten : goal.returns-in-Ok-clause-unwritten
returns-in-Ok-clause-unwritten g c = inr c.in-Ok.ensures.accepted
