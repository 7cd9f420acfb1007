use Rattle.std.proofs.Common.{◌≡◌, ◌≤◌, ◌+◌, min, drop, length}
use Rattle.session_meaning.specs.refinement.TreeOfStatements.{block_of}
use Rattle.session_programs.specs.Text.{wide_words, block_text}
use Rattle.session_programs.proofs.sizes.sizes.+size.Given as goal

-- the bytes so far, and those of the statements that are left, make those of all
abbrev pub invariant-block_size-loop-statement : goal.invariant-block_size-loop-statement
invariant-block_size-loop-statement l = (l.size ≤ 16385) × (min 16385 (l.size + length (block_text (wide_words l.variables) (block_of (drop l.statement-index l.statements)))) ≡ min 16385 (length (block_text (wide_words l.variables) (block_of l.statements))))
