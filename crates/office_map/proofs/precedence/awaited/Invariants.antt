use Rattle.std.proofs.Common.{◌≡◌, ℕ, ◌<◌, false, get_or}
use Rattle.office_map.specs.declared.entries.PairEntry.{PairEntry}
use Rattle.office_map.proofs.precedence.awaited.Given as goal
use Rattle.office_map.specs.refinement.OrderSearch.{awaits}

abbrev pub invariant-loop-pair : goal.invariant-loop-pair
invariant-loop-pair l = (k : ℕ) (d : PairEntry) → k < l.pair-index → awaits l.placed l.office (get_or l.tables.pairs k d) ≡ false
