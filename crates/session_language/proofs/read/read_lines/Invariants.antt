use Rattle.std.proofs.Common.{◌≡◌, ◌+◌, ◌<◌, ◌^◌, length, Result, ℕ}
use Rattle.text_lines.specs.Text.{statements_from, lines}
use Rattle.session_language.specs.Reading.{Reading, read_lines}
use Rattle.session_language.specs.refinement.ReaderRefinement.{reading_of}
use Rattle.session_language.specs.declared.fault.SessionRefusal.{SessionRefusal}
use Rattle.session_language.proofs.read.read_lines.Given as goal

-- what is left, read on what was read so far, is what all of it is from the first
pub record Reads (left all : Result Reading SessionRefusal) (room : ℕ) : Type 0 where
  pub same : left ≡ all
  pub fits : room < 2 ^ 64

abbrev pub invariant-loop-number : goal.invariant-loop-number
invariant-loop-number l = Reads (read_lines l.plan (reading_of l.reader) (statements_from l.left.number (lines l.left.rest.now))) (read_lines l.plan (reading_of l.fn.reader) (statements_from l.fn.statements.number (lines l.fn.statements.rest.now))) (l.left.number + length l.left.rest.now)

abbrev pub decreases-loop-number : goal.decreases-loop-number
decreases-loop-number l = length l.left.rest.now
