use Rattle.std.proofs.Common.{◌≡◌, ◌++◌, false}
use Rattle.std.specs.List.{flat_map}
use Rattle.std.specs.String.{string_bytes}
use Rattle.std.specs.Io.KnownBytes.{Appends, Keeps, append_known}
use Rattle.std.proofs.lemmas.Result.{err_from_is_err_and, on_ok_weaker}
use Rattle.frame_world.specs.Headline.{outcomes}
use Rattle.session_reports.specs.form.Forms.{outcome_as, unfinished_as, values_as}
use Rattle.world_schedule.specs.reports.WorldReport.{bottle_value, world_report}
use Rattle.world_schedule.proofs.reports_lemmas.Outgoings.{told_last, unwritten_more, unwritten_of}
use Rattle.world_schedule.proofs.reports.telling.tell_world.Goals as goal

pub returns-in_err-tell_finished-clause-unwritten : goal.returns-in_err-tell_finished-clause-unwritten
returns-in_err-tell_finished-clause-unwritten g c =
    let e = err_from_is_err_and c.from_residual.result c.from_residual.ensures.1 in
    rw (e.1, e.2)
    (unwritten_more (c.tell_finished.new.told.went ≡ false) ((c.args.told.went ≡ false) × (c.tell_finished.new.out ≡ c.args.out.now)) c.in_err-tell_finished.field-0.0
    (λ h. (c.tell_finished.ensures.before h, c.tell_finished.ensures.still h)) c.in_err-tell_finished.ensures.fault)

pub returns-in-Ok-clause-written : goal.returns-in-Ok-clause-written
returns-in-Ok-clause-written g c =
    let w = c.args.world.now in
    let start = append_known (g.W.Write.contents c.args.out.now) (string_bytes c.args.told.text) in
    let held = g.W.Write.contents c.tell_finished.new.out in
    let now = g.W.Write.contents c.write_out.new.out in
    let finished = flat_map (outcome_as c.args.form w.plan) (outcomes w) in
    let rest = unfinished_as c.args.form c.args.unfinished ++ values_as c.args.form w.plan (bottle_value w) in
    let mid = string_bytes c.tell_finished.new.told.text in
    let new = string_bytes c.add_rest.new.text in
    let more : Keeps (append_known held new) now → Appends start now (world_report c.args.form w c.args.unfinished) = told_last start held now finished rest mid new c.in_ok-tell_finished.ensures.lines c.in-Ok.ensures in
    on_ok_weaker c.write_out.result more c.write_out.ensures.bytes

pub returns-in-Ok-clause-unwritten : goal.returns-in-Ok-clause-unwritten
returns-in-Ok-clause-unwritten g c = unwritten_of c.write_out.result ⊥ ((c.args.told.went ≡ false) × (c.write_out.new.out ≡ c.args.out.now)) (λ h. absurd h) c.write_out.ensures.fault

pub returns-in-Err-clause-unwritten : goal.returns-in-Err-clause-unwritten
returns-in-Err-clause-unwritten g c =
    unwritten_more (c.tell_finished.new.told.went ≡ false) ((c.args.told.went ≡ false) × (c.tell_finished.new.out ≡ c.args.out.now)) c.out_of_memory.result
    (λ h. (c.tell_finished.ensures.before h, c.tell_finished.ensures.still h)) c.out_of_memory.ensures
