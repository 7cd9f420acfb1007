-- Lists of numbers, and a truth as a number.
use Rattle.std.specs.Prelude.{ℕ, List, Bool, true, false, ◌==◌}
use Rattle.std.specs.List.{list_any}

-- 1 where it is true
abbrev pub num : Bool → ℕ
num true = 1
num false = 0

-- the number stands in the list
abbrev pub is_among : List ℕ → ℕ → Bool
is_among xs v = list_any (λ x. x == v) xs
