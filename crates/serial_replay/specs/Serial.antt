-- The serial run of a list of sessions: the first one on a map from records to values, and each next one on the map
-- that the one before left. It has no offices that wait, no messages and no moments.
use Rattle.std.specs.Prelude.{◌≡◌, ℕ, ◌+◌, ◌<◌, List, [], ◌∷◌, ◌++◌, length, count_by, ◌==◌, slice_get, Some}
use Rattle.std.specs.List.{slice_index_or}
use Rattle.bottle_values.specs.declared.Value.{Value}
use Rattle.bottle_values.specs.Operations.{nought}
use Rattle.bottle_values.specs.Maps.{reads_of, write_all}
use Rattle.office_map.specs.PlanValue.{PlanValue, start_values}
use Rattle.session_meaning.specs.declared.ending.Ending.{Ending}
use Rattle.session_meaning.specs.declared.ending.Outcome.{Outcome}
use Rattle.session_meaning.specs.ProgramValue.{ProgramValue}
use Rattle.session_programs.specs.measures.Needs.{needs_of}
use Rattle.session_meaning.specs.Meaning.{alone}

-- how a session ends where these are the records' values
abbrev pub ending_on : ProgramValue → (ℕ → Value) → Ending
ending_on p m = alone p (reads_of (needs_of p.body) m)

-- the values that it leaves
abbrev pub map_after : ProgramValue → (ℕ → Value) → ℕ → Value
map_after p m = write_all (ending_on p m).writes m

-- the tickets of an office count its sessions from 1
abbrev pub ticket_of : List ProgramValue → ProgramValue → ℕ
ticket_of before p = count_by (λ (q : ProgramValue). q.office == p.office) before + 1

-- the outcomes of sessions, after those that came before
abbrev pub outcomes_after : List ProgramValue → (ℕ → Value) → List ProgramValue → List Outcome
outcomes_after before m [] = []
outcomes_after before m (p ∷ ps) = record { office = p.office; ticket = ticket_of before p; ending = ending_on p m } ∷ outcomes_after (before ++ p ∷ []) (map_after p m) ps

-- The sessions one after another, each on the map that the one before left, with tickets that count each office's
-- sessions from 1.
abbrev pub outcomes_of : (ℕ → Value) → List ProgramValue → List Outcome
outcomes_of = outcomes_after []

-- the values after all of them
abbrev pub map_of : (ℕ → Value) → List ProgramValue → ℕ → Value
map_of m [] = m
map_of m (p ∷ ps) = map_of (map_after p m) ps

-- the values that a plan starts with
abbrev pub start_map : PlanValue → ℕ → Value
start_map p r = slice_index_or (start_values p) r nought

-- the list has the map's values for the first n records, in order of number
pub record ListsValues (values : List Value) (n : ℕ) (m : ℕ → Value) : Type 0 where
  pub size : length values ≡ n
  pub each : (r : ℕ) → r < n → slice_get values r ≡ Some (m r)
