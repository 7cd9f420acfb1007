-- The plan of the next day: the same offices, pairs and records, with the values that a serial run left, and another run number.
use Rattle.std.specs.Prelude.{◌≡◌, ℕ, suc, ◌<◌, List, [], ◌∷◌, ◌++◌, length, map, All, IsTrue}
use Rattle.bottle_values.specs.declared.Value.{Value}
use Rattle.office_map.specs.PlanValue.{PlanValue}
use Rattle.office_map.specs.declared.entries.RecordEntry.{RecordEntry}
use Rattle.session_meaning.specs.ProgramValue.{ProgramValue}
use Rattle.session_meaning.specs.declared.ending.Ending.{Ending}
use Rattle.session_meaning.specs.declared.ending.Outcome.{Outcome}
use Rattle.session_programs.specs.Program.{fits}
use Rattle.serial_replay.specs.Serial.{start_map, map_of, outcomes_of}

-- the records from number r on, with a map's values
abbrev pub with_values : (ℕ → Value) → ℕ → List RecordEntry → List RecordEntry
with_values m r [] = []
with_values m r (x ∷ xs) = record x { value = m r } ∷ with_values m (suc r) xs

-- a plan with other values and another run number, and all else as it was
abbrev pub carried : PlanValue → ℕ → (ℕ → Value) → PlanValue
carried p run m = record { version = p.version; run = run; offices = p.offices; pairs = p.pairs; records = with_values m 0 p.records }

-- it starts with these values
abbrev pub CarriedStartsWith : Type 0
CarriedStartsWith = (p : PlanValue) (run : ℕ) (m : ℕ → Value) (r : ℕ) → r < length p.records → start_map (carried p run m) r ≡ m r

-- how sessions end, one after the other
abbrev pub endings : (ℕ → Value) → List ProgramValue → List Ending
endings m ps = map (λ (o : Outcome). o.ending) (outcomes_of m ps)

-- the plan that carries on what these sessions leave
abbrev pub next_day : PlanValue → ℕ → List ProgramValue → PlanValue
next_day p run ps = carried p run (map_of (start_map p) ps)

-- sessions of one day and of the next end, and leave values, as in one serial run
pub record AreOneRun (p : PlanValue) (run : ℕ) (today tomorrow : List ProgramValue) : Type 0 where
  pub ended : endings (start_map p) (today ++ tomorrow) ≡ endings (start_map p) today ++ endings (start_map (next_day p run today)) tomorrow
  pub left : (r : ℕ) → r < length p.records → map_of (start_map p) (today ++ tomorrow) r ≡ map_of (start_map (next_day p run today)) tomorrow r

-- so it is where the sessions of the next day fit the plan
abbrev pub DaysAreOneRun : Type 0
DaysAreOneRun = (p : PlanValue) (run : ℕ) (today tomorrow : List ProgramValue) → All (λ (x : ProgramValue). IsTrue (fits p x)) tomorrow → AreOneRun p run today tomorrow
