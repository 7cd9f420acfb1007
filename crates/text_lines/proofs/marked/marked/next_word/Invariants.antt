use Rattle.std.proofs.Common.{◌≡◌, take}
use Rattle.text_lines.specs.Text.{words_of}
use Rattle.text_lines.specs.marked.refinement.Marks.{IsMarked}
use Rattle.text_lines.proofs.marked.marked.next_word.Given as goal

abbrev pub invariant-loop-left : goal.invariant-loop-left
invariant-loop-left l = record {
  marked : IsMarked l.left.text.now l.left.end l.left.low l.left.seen;
  same : words_of (take l.left.end l.left.text.now) ≡ words_of (take l.fn.left.end l.fn.left.text.now);
}

abbrev pub decreases-loop-left : goal.decreases-loop-left
decreases-loop-left l = l.left.end
