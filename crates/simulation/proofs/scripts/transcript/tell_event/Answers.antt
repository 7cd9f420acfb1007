use Rattle.std.proofs.Common.{◌≡◌, [], ◌∷◌, false, refl}
use Rattle.std.specs.String.{string_bytes}
use Rattle.std.specs.Io.KnownBytes.{Appends, Keeps, append_known}
use Rattle.std.proofs.lemmas.Result.{on_ok_weaker}
use Rattle.world_schedule.proofs.reports_lemmas.Outgoings.{on_ok_so, told_more, unwritten_of}
use Rattle.simulation.specs.scripts.Script.{acts_with}
use Rattle.simulation.specs.scripts.Runs.{run_of}
use Rattle.simulation.proofs.scripts_lemmas.Steps.{lines_of}
use Rattle.simulation.proofs.scripts.transcript.tell_event.Goals as goal

pub returns-in-Ok-clause-line : goal.returns-in-Ok-clause-line
returns-in-Ok-clause-line g c =
    let held = g.W.Write.contents c.args.out.now in
    let now = g.W.Write.contents c.write_on.new.out in
    let old = string_bytes c.args.told.now.text in
    let mid = string_bytes c.add_event.new.text in
    let new = string_bytes c.write_on.new.told.text in
    let line = lines_of c.args.form c.args.world.now (acts_with c.args.programs.now (c.args.event ∷ [])) in
    let more : Keeps (append_known held mid) (append_known now new) → Appends (append_known held old) (append_known now new) line = told_more held now old mid new line c.in-Ok.ensures.line in
    on_ok_weaker c.write_on.result more c.write_on.ensures.bytes

pub returns-in-Ok-clause-world : goal.returns-in-Ok-clause-world
returns-in-Ok-clause-world g c =
    on_ok_so c.write_on.result (c.add_event.new.world ≡ run_of c.args.world.now (acts_with c.args.programs.now (c.args.event ∷ []))) c.in-Ok.ensures.world

pub returns-in-Ok-clause-before : goal.returns-in-Ok-clause-before
returns-in-Ok-clause-before g c = c.write_on.ensures.before

pub returns-in-Ok-clause-still : goal.returns-in-Ok-clause-still
returns-in-Ok-clause-still g c = c.write_on.ensures.still

pub returns-in-Ok-clause-fault : goal.returns-in-Ok-clause-fault
returns-in-Ok-clause-fault g c = unwritten_of c.write_on.result ⊥ (c.write_on.new.told.went ≡ false) (λ h. absurd h) c.write_on.ensures.fault

pub returns-in-Err-clause-before : goal.returns-in-Err-clause-before
returns-in-Err-clause-before g c = λ h. h

pub returns-in-Err-clause-still : goal.returns-in-Err-clause-still
returns-in-Err-clause-still g c = λ h. refl

pub returns-in-Err-clause-fault : goal.returns-in-Err-clause-fault
returns-in-Err-clause-fault g c = c.out_of_memory.ensures
