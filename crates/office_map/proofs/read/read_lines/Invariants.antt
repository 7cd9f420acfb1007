use Rattle.std.proofs.Common.{◌≡◌, ◌+◌, ◌<◌, ◌^◌, length, Result, ℕ}
use Rattle.text_lines.specs.Text.{statements_from, lines}
use Rattle.office_map.specs.PlanText.{read_lines}
use Rattle.office_map.specs.PlanValue.{PlanValue}
use Rattle.office_map.specs.declared.fault.PlanRefusal.{PlanRefusal}
use Rattle.office_map.proofs.read.read_lines.Given as goal

-- what is left, read on the plan so far, is what all of it is on the first
pub record Reads (left all : Result PlanValue PlanRefusal) (room : ℕ) : Type 0 where
  pub same : left ≡ all
  pub fits : room < 2 ^ 64

abbrev pub invariant-loop-number : goal.invariant-loop-number
invariant-loop-number l = Reads (read_lines l.tables (statements_from l.left.number (lines l.left.rest.now))) (read_lines l.fn.tables (statements_from l.fn.statements.number (lines l.fn.statements.rest.now))) (l.left.number + length l.left.rest.now)

abbrev pub decreases-loop-number : goal.decreases-loop-number
decreases-loop-number l = length l.left.rest.now
