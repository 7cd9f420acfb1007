use Rattle.std.proofs.Common.{◌≡◌, ◌++◌, drop}
use Rattle.std.specs.String.{string_bytes}
use Rattle.session_meaning.specs.refinement.TreeOfStatements.{block_of}
use Rattle.session_programs.specs.Text.{words_of, block_text}
use Rattle.session_programs.proofs.listing.+listing.Given as goal

-- what was written, and the statements that are left, are all of them
abbrev pub invariant-write_block-loop-statement : goal.invariant-write_block-loop-statement
invariant-write_block-loop-statement l = string_bytes l.out ++ block_text (words_of l.words) (block_of (drop l.statement-index l.statements)) ≡ string_bytes l.fn.out ++ block_text (words_of l.words) (block_of l.statements)
