-- What the search for an order looks at.
use Rattle.std.specs.Prelude.{ℕ, List, Bool, ◌&&◌, ◌==◌, not}
use Rattle.office_map.specs.declared.entries.PairEntry.{PairEntry}
use Rattle.office_map.specs.PlanValue.{fork_end}
use Rattle.bottle_values.specs.Lists.{is_among}
use Rattle.office_map.specs.Precedence.{preceding_end}

-- the office has this pair's fork, and the other end isn't one of these
abbrev pub awaits : List ℕ → ℕ → PairEntry → Bool
awaits placed v pair = fork_end pair == v && not (is_among placed (preceding_end pair))
