use Rattle.std.proofs.Common.{◌≡◌, ◌+◌, ◌≤◌, length, ℕ, List}
use Rattle.text_lines.specs.Text.{statements_from, lines}
use Rattle.text_lines.proofs.statements.Statements.next.Given as goal

-- what is left says what all of it does, and each line takes a byte at least
pub record Reads (number left all_number all_left : ℕ) (says all_says : List (ℕ × List ℕ)) : Type 0 where
  pub same : says ≡ all_says
  pub shorter : left ≤ all_left
  pub counted : number + left ≤ all_number + all_left

abbrev pub invariant-loop-first : goal.invariant-loop-first
invariant-loop-first l = Reads l.self.number (length l.self.rest.now) l.fn.self.number (length l.fn.self.rest.now) (statements_from l.self.number (lines l.self.rest.now)) (statements_from l.fn.self.number (lines l.fn.self.rest.now))

abbrev pub decreases-loop-first : goal.decreases-loop-first
decreases-loop-first l = length l.self.rest.now
