-- Which schedules are woven from what offices tell: what each office accepted in them, with its replies, is what it tells.
use Rattle.std.specs.Prelude.{◌≡◌, ℕ, List, ◌++◌, map}
use Rattle.office_map.specs.PlanValue.{PlanValue}
use Rattle.office_journal.specs.declared.event.Entry.{Entry}
use Rattle.frame_world.specs.declared.event.WorldEvent.{WorldEvent}
use Rattle.frame_world.specs.Worlds.{World, opening, site_at, run_of, AreAccepted}

-- an entry without its tag: a world hands in each event with the tag 0
abbrev pub untagged : Entry → Entry
untagged x = record { tag = 0; event = x.event; reply = x.reply }

-- what an office of a world accepted; the entry of an arrival has the frame
abbrev pub entries_at : World → ℕ → List Entry
entries_at w a = (site_at w a).entries

-- every event is accepted, and what each office accepted is what it tells, without tags
pub record IsWoven (plan : PlanValue) (told : ℕ → List Entry) (events : List WorldEvent) : Type 0 where
  pub accepted : AreAccepted (opening plan) events
  pub as_told : (a : ℕ) → entries_at (run_of (opening plan) events) a ≡ map untagged (told a)

-- what each office accepted begins what it tells
abbrev pub Begins : World → (ℕ → List Entry) → Type 0
Begins w told = (a : ℕ) → (rest : List Entry) × (map untagged (told a) ≡ entries_at w a ++ rest)

-- every event is accepted, and what each office accepted begins what it tells
pub record GoesAlong (plan : PlanValue) (told : ℕ → List Entry) (events : List WorldEvent) : Type 0 where
  pub accepted : AreAccepted (opening plan) events
  pub begins : Begins (run_of (opening plan) events) told
