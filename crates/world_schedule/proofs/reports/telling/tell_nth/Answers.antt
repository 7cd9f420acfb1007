use Rattle.std.proofs.Common.{◌≡◌, false, Some, refl}
use Rattle.std.specs.Prelude.{slice_get}
use Rattle.std.specs.String.{string_bytes}
use Rattle.std.specs.Io.KnownBytes.{Appends, Keeps, append_known}
use Rattle.std.proofs.lemmas.Result.{on_ok_weaker}
use Rattle.session_meaning.specs.declared.ending.Outcome.{Outcome}
use Rattle.frame_world.specs.Headline.{outcomes}
use Rattle.session_reports.specs.form.Forms.{outcome_as}
use Rattle.world_schedule.proofs.reports_lemmas.Outgoings.{told_more, unwritten_of}
use Rattle.world_schedule.proofs.reports.telling.tell_nth.Goals as goal

pub returns-in-Ok-clause-line : goal.returns-in-Ok-clause-line
returns-in-Ok-clause-line g c =
    let w = c.args.world.now in
    let held = g.W.Write.contents c.args.out.now in
    let now = g.W.Write.contents c.write_on.new.out in
    let old = string_bytes c.args.told.now.text in
    let mid = string_bytes c.add_nth.new.text in
    let new = string_bytes c.write_on.new.told.text in
    let more : Keeps (append_known held mid) (append_known now new) → (o : Outcome) → slice_get (outcomes w) c.args.i ≡ Some o → Appends (append_known held old) (append_known now new) (outcome_as c.args.form w.plan o) =
    λ kept o here. told_more held now old mid new (outcome_as c.args.form w.plan o) (c.in-Ok.ensures o here) kept in
    on_ok_weaker c.write_on.result more c.write_on.ensures.bytes

pub returns-in-Ok-clause-before : goal.returns-in-Ok-clause-before
returns-in-Ok-clause-before g c = c.write_on.ensures.before

pub returns-in-Ok-clause-still : goal.returns-in-Ok-clause-still
returns-in-Ok-clause-still g c = c.write_on.ensures.still

pub returns-in-Ok-clause-fault : goal.returns-in-Ok-clause-fault
returns-in-Ok-clause-fault g c = unwritten_of c.write_on.result ⊥ (c.write_on.new.told.went ≡ false) (λ h. absurd h) c.write_on.ensures.fault

pub returns-in-Err-clause-before : goal.returns-in-Err-clause-before
returns-in-Err-clause-before g c = λ h. h

pub returns-in-Err-clause-still : goal.returns-in-Err-clause-still
returns-in-Err-clause-still g c = λ h. refl

pub returns-in-Err-clause-fault : goal.returns-in-Err-clause-fault
returns-in-Err-clause-fault g c = c.out_of_memory.ensures
