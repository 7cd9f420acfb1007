use Rattle.std.proofs.Common.{◌≡◌, ◌<◌, ◌≤◌, ◌-◌, ℕ, length, get_or, true}
use Rattle.text_lines.specs.marked.refinement.Marks.{is_printable}
use Rattle.text_lines.proofs.marked.marks.printable_run.Given as goal

abbrev pub invariant-loop-run : goal.invariant-loop-run
invariant-loop-run l = record {
  within : l.run ≤ length l.text;
  printable : (k : ℕ) → k < l.run → is_printable (get_or l.text k 0) ≡ true;
}

abbrev pub decreases-loop-run : goal.decreases-loop-run
decreases-loop-run l = length l.text - l.run
