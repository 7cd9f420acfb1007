use Rattle.std.proofs.Common.{◌≡◌, drop}
use Rattle.bottle_values.specs.declared.version.Version.TheVariants.{One}
use Rattle.session_meaning.specs.Fitting.{block_fits}
use Rattle.session_meaning.specs.refinement.TreeOfStatements.{block_of}
use Rattle.session_programs.proofs.measures.fitting.+fitting.Given as goal

-- all are, if those are that are left
abbrev pub invariant-are_of_numbers-loop-statement : goal.invariant-are_of_numbers-loop-statement
invariant-are_of_numbers-loop-statement l = block_fits One (block_of (drop l.statement-index l.statements)) ≡ block_fits One (block_of l.statements)
