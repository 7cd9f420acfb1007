-- A plan as contracts see it: its tables, and what can be asked of them.
-- Offices and records go by number: the count of the lines of their kind before theirs.
use Rattle.std.specs.Prelude.{ℕ, List, ◌++◌, [], ◌∷◌, length, map, filter, find, position, count_by, slice_get, Bool, false, ◌&&◌, ◌||◌, ◌==◌, Option, if◌then◌else◌, option_map, codes}
use Rattle.std.specs.List.{list_any, range_with_len}
use Rattle.std.specs.Option.{option_map_or}
use Rattle.std.specs.Str.{bytes_eq}
use Rattle.bottle_values.specs.declared.Value.{Value}
use Rattle.bottle_values.specs.declared.version.Version.{Version}
use Rattle.office_map.specs.declared.entries.OfficeEntry.{OfficeEntry}
use Rattle.office_map.specs.declared.entries.PairEntry.{PairEntry}
use Rattle.office_map.specs.declared.entries.RecordEntry.{RecordEntry}

-- the version, the run's number, and the offices, pairs and records in the order of their lines
pub record PlanValue : Type 0 where
  pub version : Version
  pub run : ℕ
  pub offices : List OfficeEntry
  pub pairs : List PairEntry
  pub records : List RecordEntry

-- the number of the office with this name
abbrev pub office_named : PlanValue → List ℕ → Option ℕ
office_named p name = position (λ (o : OfficeEntry). bytes_eq o.name name) p.offices

-- the number of the record with this name
abbrev pub record_named : PlanValue → List ℕ → Option ℕ
record_named p name = position (λ (r : RecordEntry). bytes_eq r.name name) p.records

-- the name that stands on an office's line
abbrev pub office_name_of : PlanValue → ℕ → Option (List ℕ)
office_name_of p o = option_map (λ (e : OfficeEntry). e.name) (slice_get p.offices o)

-- the address that stands there
abbrev pub address_of : PlanValue → ℕ → Option (List ℕ)
address_of p o = option_map (λ (e : OfficeEntry). e.address) (slice_get p.offices o)

-- the name that stands on a record's line
abbrev pub record_name_of : PlanValue → ℕ → Option (List ℕ)
record_name_of p r = option_map (λ (e : RecordEntry). e.name) (slice_get p.records r)

-- the pair joins these two, in either order
abbrev pub joins : ℕ → ℕ → PairEntry → Bool
joins a b pair = (pair.first == a && pair.second == b) || (pair.first == b && pair.second == a)

-- some pair joins these two
abbrev pub are_neighbours : PlanValue → ℕ → ℕ → Bool
are_neighbours p a b = list_any (joins a b) p.pairs

-- the neighbours of an office, the least number first
abbrev pub neighbours_of : PlanValue → ℕ → List ℕ
neighbours_of p a = filter (are_neighbours p a) (range_with_len 0 (length p.offices))

-- where a pair's fork starts
abbrev pub fork_end : PairEntry → ℕ
fork_end pair = if pair.fork_at_first then pair.first else pair.second

-- the end of the pair of these two at which its fork starts
abbrev pub fork_end_of : PlanValue → ℕ → ℕ → Option ℕ
fork_end_of p a b = option_map fork_end (find (joins a b) p.pairs)

-- these two are the record's ends, in either order
abbrev pub lies_between : ℕ → ℕ → RecordEntry → Bool
lies_between a b r = (r.first == a && r.second == b) || (r.first == b && r.second == a)

-- how many records these two share
abbrev pub records_between : PlanValue → ℕ → ℕ → ℕ
records_between p a b = count_by (lies_between a b) p.records

abbrev pub has_end : RecordEntry → ℕ → Bool
has_end r office = r.first == office || r.second == office

-- the plan has this record, and the office is one of its ends
abbrev pub is_end : PlanValue → ℕ → ℕ → Bool
is_end p r office = option_map_or (λ e. has_end e office) (slice_get p.records r) false

-- the records of an office, the least number first
abbrev pub records_of : PlanValue → ℕ → List ℕ
records_of p office = filter (λ r. is_end p r office) (range_with_len 0 (length p.records))

-- the ends of a record, in the order of its line
abbrev pub ends_of : PlanValue → ℕ → Option (ℕ × ℕ)
ends_of p r = option_map (λ (e : RecordEntry). (e.first, e.second)) (slice_get p.records r)

-- the plan has this record, and these two are its ends
abbrev pub has_ends : PlanValue → ℕ → ℕ → ℕ → Bool
has_ends p r a b = option_map_or (lies_between a b) (slice_get p.records r) false

-- the end of a record other than this one
abbrev pub other_end : ℕ → RecordEntry → ℕ
other_end a r = if r.first == a then r.second else r.first

-- the office at the other end of a record, or 0 of a record that the plan doesn't have
abbrev pub peer : PlanValue → ℕ → ℕ → ℕ
peer p a r = option_map_or (other_end a) (slice_get p.records r) 0

-- whether the fork of two neighbours starts at this office
abbrev pub fork_starts_at : PlanValue → ℕ → ℕ → ℕ → Bool
fork_starts_at p a b x = option_map_or (λ e. e == x) (fork_end_of p a b) false

-- where a record's bottle starts
abbrev pub start_end : RecordEntry → ℕ
start_end r = if r.starts_at_first then r.first else r.second

-- the end of a record at which its bottle starts
abbrev pub start_end_of : PlanValue → ℕ → Option ℕ
start_end_of p r = option_map start_end (slice_get p.records r)

-- whether the bottle of a record starts at this office
abbrev pub bottle_starts_at : PlanValue → ℕ → ℕ → Bool
bottle_starts_at p r x = option_map_or (λ e. start_end e == x) (slice_get p.records r) false

-- the values with which the records' bottles start, in order
abbrev pub start_values : PlanValue → List Value
start_values p = map (λ (e : RecordEntry). e.value) p.records

-- the plan with one more office, pair or record
abbrev pub with_office : PlanValue → OfficeEntry → PlanValue
with_office p o = record p { offices = p.offices ++ o ∷ [] }

abbrev pub with_pair : PlanValue → PairEntry → PlanValue
with_pair p pair = record p { pairs = p.pairs ++ pair ∷ [] }

abbrev pub with_record : PlanValue → RecordEntry → PlanValue
with_record p r = record p { records = p.records ++ r ∷ [] }

-- the word of an office that has no address
abbrev pub no_address : List ℕ
no_address = codes "-"
