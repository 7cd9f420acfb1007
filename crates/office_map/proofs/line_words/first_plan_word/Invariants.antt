use Rattle.std.proofs.Common.{◌≡◌, ◌≤◌, length}
use Rattle.office_map.specs.PlanWords.{plan_words}
use Rattle.office_map.proofs.line_words.first_plan_word.Given as goal

abbrev pub invariant-loop-first : goal.invariant-loop-first
invariant-loop-first l = record { same : plan_words l.left ≡ plan_words l.fn.line; within : length l.left ≤ length l.fn.line }

abbrev pub decreases-loop-first : goal.decreases-loop-first
decreases-loop-first l = length l.left
