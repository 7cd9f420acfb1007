use Rattle.std.proofs.Common.{◌≡◌, List, [], ◌∷◌, ◌++◌, OnOk, sym, ap, subst}
use Rattle.std.specs.List.{flat_map}
use Rattle.std.specs.String.{string_bytes}
use Rattle.session_meaning.specs.ProgramValue.{ProgramValue}
use Rattle.simulation.specs.declared.scripts.event.ScriptEvent.{ScriptEvent}
use Rattle.simulation.specs.declared.scripts.event.ScriptEvent.TheVariants as event
use Rattle.simulation.specs.scripts.Script.{Settles, acts_with}
use Rattle.simulation.specs.scripts.Runs.{run_of, all_told}
use Rattle.simulation.specs.scripts.Transcript.{told_line}
use Rattle.simulation.proofs.scripts.transcript.add_event.Goals as goal

-- what is asked for without a number
to_the_end : (programs : List ProgramValue) (e : ScriptEvent) → e ≡ event.SettleToTheEnd → Settles 16000001 ∷ [] ≡ acts_with programs (e ∷ [])
to_the_end programs e is = ap (λ x. acts_with programs (x ∷ [])) (sym is)

pub returns-in-SettleToTheEnd-clause-line : goal.returns-in-SettleToTheEnd-clause-line
returns-in-SettleToTheEnd-clause-line c =
    let call = c.add_settle-in-SettleToTheEnd in
    subst (λ acts. OnOk call.result (string_bytes call.new.text ≡ string_bytes c.args.text.now ++ flat_map (told_line c.args.form) (all_told c.args.world.now acts)))
    (to_the_end c.args.programs.now c.args.event c.in-SettleToTheEnd.is) call.ensures.line

pub returns-in-SettleToTheEnd-clause-world : goal.returns-in-SettleToTheEnd-clause-world
returns-in-SettleToTheEnd-clause-world c =
    let call = c.add_settle-in-SettleToTheEnd in
    subst (λ acts. OnOk call.result (call.new.world ≡ run_of c.args.world.now acts)) (to_the_end c.args.programs.now c.args.event c.in-SettleToTheEnd.is) call.ensures.world
