use Rattle.std.proofs.Common.{◌≡◌, ◌≤◌, false, length, drop}
use Rattle.journal_texts.specs.Growing.{has_end}
use Rattle.journal_texts.proofs.torn.whole_lines.Given as goal

-- no LF stands in the rest
abbrev pub invariant-loop-end : goal.invariant-loop-end
invariant-loop-end l = record {
  within : l.end ≤ length l.text;
  torn : has_end (drop l.end l.text) ≡ false;
}

abbrev pub decreases-loop-end : goal.decreases-loop-end
decreases-loop-end l = l.end
