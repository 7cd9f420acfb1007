-- Laws of the measures and the needs that contracts cite.
use Rattle.std.specs.Prelude.{◌≤◌, ◌+◌, ◌↔◌, ℕ, List, Contains}
use Rattle.std.specs.List.Sorted.{IsStrictlyIncreasing}
use Rattle.bottle_values.specs.declared.Value.{Value}
use Rattle.session_meaning.specs.Tree.{Block}
use Rattle.session_meaning.specs.ProgramValue.{ProgramValue}
use Rattle.session_meaning.specs.Length.{length_on}
use Rattle.session_programs.specs.measures.Needs.{needs_of}
use Rattle.session_programs.specs.measures.Naming.{BlockNames}
use Rattle.session_programs.specs.measures.Measures.{block_cost}

-- a session does something, and at most one more than its cost
abbrev pub EndsWithinItsCost : Type 0
EndsWithinItsCost = (p : ProgramValue) (reads : List (ℕ × Value)) → (1 ≤ length_on p reads) × (length_on p reads ≤ block_cost p.body + 1)

-- the records that statements need are just those that they name, each once, in order of number
abbrev pub NeedsWhatItNames : Type 0
NeedsWhatItNames = (b : Block) → IsStrictlyIncreasing (needs_of b) × ((r : ℕ) → Contains (needs_of b) r ↔ BlockNames r b)
