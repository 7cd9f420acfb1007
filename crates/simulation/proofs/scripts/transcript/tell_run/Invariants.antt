use Rattle.std.proofs.Common.{◌≡◌, false, take}
use Rattle.std.specs.String.{string_bytes}
use Rattle.std.specs.Io.KnownBytes.{Appends, append_known}
use Rattle.simulation.specs.scripts.Script.{acts_with}
use Rattle.simulation.specs.scripts.Runs.{run_of}
use Rattle.simulation.proofs.scripts_lemmas.Steps.{lines_of}
use Rattle.simulation.proofs.scripts.transcript.tell_run.Given as goal

-- the events so far were answered, and their lines are written or on their way
abbrev pub invariant-loop-event : goal.invariant-loop-event
invariant-loop-event g l = record {
  lines : Appends (g.W.Write.contents l.fn.out) (append_known (g.W.Write.contents l.out) (string_bytes l.told.text)) (lines_of l.form l.fn.world (acts_with l.programs (take l.event-index l.events)));
  world : l.world ≡ run_of l.fn.world (acts_with l.programs (take l.event-index l.events));
  still : l.told.went ≡ false → l.out ≡ l.fn.out;
}
