use Rattle.std.proofs.Common.{◌≡◌, [], ◌∷◌, length, refl, ap, sym, subst, ◌∙◌, inr, rules}
use Rattle.std.specs.Io.KnownBytes.{Appends}
use Rattle.std.specs.String.{string_bytes}
use Rattle.std.proofs.lemmas.Result.{err_from_is_err_and}
use Rattle.serial_replay.specs.Serial.{ListsValues, map_of, start_map}
use Rattle.serial_command.specs.declared.reading.input.Input.TheVariants as inputs
use Rattle.drink_commands.proofs.SerialTold.{judged_as, written_as}
use Rattle.drink_commands.proofs.commands.serial.run.Goals as goal

pub returns-in_err-ended-clause-judged : goal.returns-in_err-ended-clause-judged
returns-in_err-ended-clause-judged g c =
    let e = err_from_is_err_and c.from_residual.result c.from_residual.ensures.1 in
    rw (e.1, e.2)
    (judged_as (g.S.Sources.file_text c.args.sources.now) (g.S.Sources.standard_text c.args.sources.now) (c.args.plan.now ∷ c.args.sessions.now ∷ []) (inputs.Plan ∷ inputs.Sessions ∷ []) c.in_err-ended.field-0.0
    c.in_err-ended.ensures.judged)

pub returns-in_err-ended-clause-input : goal.returns-in_err-ended-clause-input
returns-in_err-ended-clause-input g c =
    let e = err_from_is_err_and c.from_residual.result c.from_residual.ensures.1 in
    rw (e.1, e.2) c.in_err-ended.ensures.input

pub returns-in_err-ended-clause-unwritten : goal.returns-in_err-ended-clause-unwritten
returns-in_err-ended-clause-unwritten g c =
    let e = err_from_is_err_and c.from_residual.result c.from_residual.ensures.1 in
    rw (e.1, e.2) (inr (refl, refl))

pub returns-in_err-write_whole-clause-judged : goal.returns-in_err-write_whole-clause-judged
returns-in_err-write_whole-clause-judged g c =
    let e = err_from_is_err_and c.from_residual-in_err-write_whole.result c.from_residual-in_err-write_whole.ensures.1 in
    rw (e.1, e.2)
    (written_as (g.S.Sources.file_text c.args.sources.now) (g.S.Sources.standard_text c.args.sources.now) (c.args.plan.now ∷ c.args.sessions.now ∷ []) (inputs.Plan ∷ inputs.Sessions ∷ []) c.in_err-write_whole.field-0.0
    c.in_err-write_whole.ensures.fault c.in_ok-ended.ensures.accepted)

pub returns-in_err-write_next_plan-clause-judged : goal.returns-in_err-write_next_plan-clause-judged
returns-in_err-write_next_plan-clause-judged g c =
    let e = err_from_is_err_and c.from_residual-in_err-write_next_plan.result c.from_residual-in_err-write_next_plan.ensures.1 in
    rw (e.1, e.2)
    (written_as (g.S.Sources.file_text c.args.sources.now) (g.S.Sources.standard_text c.args.sources.now) (c.args.plan.now ∷ c.args.sessions.now ∷ []) (inputs.Plan ∷ inputs.Sessions ∷ []) c.in_err-write_next_plan.field-0.0
    c.in_err-write_next_plan.ensures.fault c.in_ok-ended.ensures.accepted)

pub write_next_plan-requires : goal.write_next_plan-requires
write_next_plan-requires g c = let values : c.deref-2.result.now ≡ c.in_ok-ended.ended.values.items = search rules in ap length values ∙ c.in_ok-ended.ensures.size

pub returns-clause-reports : goal.returns-clause-reports
returns-clause-reports g c = λ plan_text sessions_text known.
    let done = c.in_ok-ended.ended in
    let text : c.deref.result.now ≡ string_bytes done.text = search rules in
    let values : c.deref-2.result.now ≡ done.values.items = search rules in
    let it = c.in_ok-ended.ensures.report plan_text sessions_text known in
    let m = map_of (start_map done.plan) it.programs in
    record {
      both = record { p = done.plan; programs = it.programs; is_plan = it.is_plan; are_sessions = it.are_sessions };
      written = subst (Appends (g.W.Write.contents c.args.out.now) (g.W.Write.contents c.write_whole.new.out)) (text ∙ it.is_report) c.in_ok-write_whole.ensures.written;
      day = c.in_ok-write_next_plan.ensures.written m (subst (λ l. ListsValues l (length done.plan.records) m) (sym values) it.are_values);
    }

pub returns-clause-status : goal.returns-clause-status
returns-clause-status g c = refl
