use Rattle.std.proofs.Common.{◌≡◌, ◌≤◌, ◌+◌, min, drop}
use Rattle.session_meaning.specs.refinement.TreeOfStatements.{block_of}
use Rattle.session_programs.specs.measures.Measures.{block_cost, block_gives, block_statements}
use Rattle.session_programs.specs.measures.refinement.Extent.{block_extent}
use Rattle.session_programs.proofs.measures.measures.+measures.Given as goal

-- what those so far have, and the statements that are left, make what all have
abbrev pub invariant-block_measures-loop-statement : goal.invariant-block_measures-loop-statement
invariant-block_measures-loop-statement l = record {
  cost : (l.all.cost ≤ 10001) × (min 10001 (l.all.cost + block_cost (block_of (drop l.statement-index l.statements))) ≡ min 10001 (block_cost (block_of l.statements)));
  gives : (l.all.gives ≤ 10001) × (min 10001 (l.all.gives + block_gives (block_of (drop l.statement-index l.statements))) ≡ min 10001 (block_gives (block_of l.statements)));
  statements : (l.all.statements ≤ 10001) × (min 10001 (l.all.statements + block_statements (block_of (drop l.statement-index l.statements))) ≡ min 10001 (block_statements (block_of l.statements)));
  extent : (l.all.extent ≤ 10001) × (min 10001 (l.all.extent + block_extent (block_of (drop l.statement-index l.statements))) ≡ min 10001 (block_extent (block_of l.statements)));
}
