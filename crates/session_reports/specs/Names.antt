-- The names of a plan, for any number.
use Rattle.std.specs.Prelude.{ℕ, List, [], unwrap_or}
use Rattle.office_map.specs.PlanValue.{PlanValue, office_name_of, record_name_of}

-- the name that a plan gives an office; nothing for a number that it doesn't have
abbrev pub office_name : PlanValue → ℕ → List ℕ
office_name p o = unwrap_or (office_name_of p o) []

-- the name that a plan gives a record; nothing for a number that it doesn't have
abbrev pub record_name : PlanValue → ℕ → List ℕ
record_name p r = unwrap_or (record_name_of p r) []
