-- What a plan keeps for each office.
use Rattle.std.specs.Prelude.{ℕ, List, length, map}
use Rattle.std.specs.List.{range_with_len}
use Rattle.office_map.specs.PlanValue.{PlanValue, neighbours_of, records_of}

-- each office's neighbours and records
abbrev pub index_of : PlanValue → List (List ℕ × List ℕ)
index_of p = map (λ office. (neighbours_of p office, records_of p office)) (range_with_len 0 (length p.offices))
