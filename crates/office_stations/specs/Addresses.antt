-- Which offices of a plan lack an address.
use Rattle.std.specs.Prelude.{ℕ, [], ◌==◌, ◌||◌, ◌&&◌, Bool, codes, bytes_eq, unwrap_or}
use Rattle.office_map.specs.PlanValue.{PlanValue, are_neighbours, address_of}

-- the plan has - in place of its address
abbrev pub has_no_address : PlanValue → ℕ → Bool
has_no_address p v = bytes_eq (unwrap_or (address_of p v) []) (codes "-")

-- it is this office or a neighbour of it, and has no address
abbrev pub is_without : PlanValue → ℕ → ℕ → Bool
is_without p me v = (v == me || are_neighbours p me v) && has_no_address p v
