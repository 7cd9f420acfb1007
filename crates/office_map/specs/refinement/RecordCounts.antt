-- Of any two offices, by their numbers: how many records they share, and whether they are neighbours.
use Rattle.std.specs.Prelude.{◌≡◌, ℕ, ◌+◌, ◌*◌, ◌<◌, List, Bool, false, get_or, count_by, nat_lt, if◌then◌else◌}
use Rattle.std.specs.List.{list_any}
use Rattle.office_map.specs.declared.entries.PairEntry.{PairEntry}
use Rattle.office_map.specs.declared.entries.RecordEntry.{RecordEntry}
use Rattle.office_map.specs.PlanValue.{joins, lies_between}

-- one place for two numbers, in either order
abbrev pub pair_index : ℕ → ℕ → ℕ
pair_index a b = if nat_lt a b then 16 * a + b else 16 * b + a

-- at the place of two offices stands the number of their records
abbrev pub CountsRecords : List RecordEntry → List ℕ → Type 0
CountsRecords records counts = (a b : ℕ) → a < 16 → b < 16 → get_or counts (pair_index a b) 0 ≡ count_by (lies_between a b) records

-- at the place of two offices stands whether a pair joins them
abbrev pub MarksPairs : List PairEntry → List Bool → Type 0
MarksPairs pairs marks = (a b : ℕ) → a < 16 → b < 16 → get_or marks (pair_index a b) false ≡ list_any (joins a b) pairs
