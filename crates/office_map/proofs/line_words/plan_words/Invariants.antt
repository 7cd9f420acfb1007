use Rattle.std.proofs.Common.{◌≡◌, ◌++◌, map, length}
use Rattle.office_map.specs.PlanWords.{plan_words}
use Rattle.office_map.proofs.line_words.plan_words.Given as goal

abbrev pub invariant-loop-word : goal.invariant-loop-word
invariant-loop-word l = map (λ w. w.now) l.words.items ++ plan_words l.left ≡ plan_words l.fn.line

abbrev pub decreases-loop-word : goal.decreases-loop-word
decreases-loop-word l = length l.left
