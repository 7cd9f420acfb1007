use Rattle.std.proofs.Common.{◌≡◌, ℕ, ◌<◌, true}
use Rattle.office_map.proofs.precedence.first_left.Given as goal
use Rattle.bottle_values.specs.Lists.{is_among}

abbrev pub invariant-loop-number : goal.invariant-loop-number
invariant-loop-number l = (a : ℕ) → a < l.number → is_among l.placed a ≡ true
