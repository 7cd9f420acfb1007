use Rattle.std.proofs.Common.{◌+◌, ◌<◌, ◌≤◌, ◌^◌, length}
use Rattle.text_lines.specs.Text.{statements, statements_from, lines}
use Rattle.simulation.proofs.scripts_lemmas.Scripts.{Walked}
use Rattle.simulation.proofs.scripts.script.events.Given as goal

abbrev pub invariant-loop-line : goal.invariant-loop-line
invariant-loop-line l = record {
  short : length l.text ≤ 16777216;
  fits : l.left.number + length l.left.rest.now < 2 ^ 64;
  walked : Walked l.plan l.programs (statements l.text) (statements_from l.left.number (lines l.left.rest.now)) l.events.items;
}

abbrev pub decreases-loop-line : goal.decreases-loop-line
decreases-loop-line l = length l.left.rest.now
