-- Journals as they are given: of which schedules they are the record, which entry no schedule has, and which office is named.
use Rattle.std.specs.Prelude.{◌≡◌, ◌⊎◌, ℕ, ◌+◌, ◌<◌, ◌≤◌, IsTrue, if◌then◌else◌, List, [], length, map, take, get_or, slice_get, Some, All, Any}
use Rattle.office_map.specs.PlanValue.{PlanValue}
use Rattle.frame_codec.specs.Frame.{Fields}
use Rattle.office_journal.specs.declared.event.Entry.{Entry}
use Rattle.office_journal.specs.declared.event.Event.TheVariants as event
use Rattle.office_journal.specs.declared.reply.Reply.{Reply}
use Rattle.office_journal.specs.declared.reply.Reply.TheVariants as reply
use Rattle.frame_world.specs.declared.event.WorldEvent.{WorldEvent}
use Rattle.frame_world.specs.Worlds.{opening, run_of}
use Rattle.journal_weave.specs.declared.given.GivenJournal.{GivenJournal}
use Rattle.journal_weave.specs.declared.fault.WeaveFault.{WeaveFault}
use Rattle.journal_weave.specs.declared.fault.WeaveFault.TheVariants as fault
use Rattle.journal_weave.specs.Weaving.{entries_at, IsWoven, GoesAlong}

abbrev pub entries_in : GivenJournal → List Entry
entries_in j = j.entries.items

-- what each office tells; one that no journal is given of tells nothing
abbrev pub told_in : List GivenJournal → ℕ → List Entry
told_in journals a = get_or (map entries_in journals) a []

-- how many entries a journal tells: one that doesn't end has one more, which no office makes
abbrev pub lines_in : GivenJournal → ℕ
lines_in j = length j.entries.items + (if j.ends then 0 else 1)

abbrev pub lines_of : List GivenJournal → ℕ → ℕ
lines_of journals a = get_or (map lines_in journals) a 0

-- the journals are given to their ends, and the schedule is woven from them
pub record IsWovenFrom (plan : PlanValue) (journals : List GivenJournal) (events : List WorldEvent) : Type 0 where
  pub whole : All (λ (j : GivenJournal). IsTrue j.ends) journals
  pub woven : IsWoven plan (told_in journals) events

-- how many entries of an office a schedule has
abbrev pub entries_of : PlanValue → List WorldEvent → ℕ → ℕ
entries_of plan events a = length (entries_at (run_of (opening plan) events) a)

-- so many entries of each office are the most that a schedule has which goes along with what is told, and one has all of them
pub record AreFurthest (plan : PlanValue) (told : ℕ → List Entry) (at : ℕ → ℕ) : Type 0 where
  pub had : (events : List WorldEvent) × GoesAlong plan told events × ((a : ℕ) → entries_of plan events a ≡ at a)
  pub most : (events : List WorldEvent) → GoesAlong plan told events → (a : ℕ) → entries_of plan events a ≤ at a

-- ---- which office is named

-- an office stands before the end of its journal
abbrev pub Stands : List GivenJournal → (ℕ → ℕ) → ℕ → Type 0
Stands journals at a = at a < lines_of journals a

-- the reply is a frame for that office, with that number
abbrev pub IsFrameFor : ℕ → ℕ → Reply → Type 0
IsFrameFor to number (reply.Frame f) = (f.to ≡ to) × (f.number ≡ number)
IsFrameFor to number r = ⊥

-- some of these entries made such a frame
abbrev pub HasMade : List Entry → ℕ → ℕ → Type 0
HasMade entries to number = Any (λ (x : Entry). IsFrameFor to number x.reply) entries

-- the entry after the first n takes that frame
abbrev pub TakesNext : List Entry → ℕ → Fields → Type 0
TakesNext entries n f = (x : Entry) × (slice_get entries n ≡ Some x) × (x.event ≡ event.Took f)

-- the office's next entry takes a frame whose sender stands too, and has made it none of that number
pub record Waits (journals : List GivenJournal) (at : ℕ → ℕ) (a : ℕ) : Type 0 where
  pub frame : Fields
  pub takes : TakesNext (told_in journals a) (at a) frame
  pub sender_stands : Stands journals at frame.from
  pub none_made : HasMade (take (at frame.from) (told_in journals frame.from)) a frame.number → ⊥

-- of all offices of which that holds it is the least
abbrev pub IsLeastOffice : (ℕ → Type 0) → ℕ → Type 0
IsLeastOffice P a = P a × ((b : ℕ) → b < a → P b → ⊥)

-- it is the least that stands and doesn't wait; or, where all wait that stand, the least of them
abbrev pub IsNamed : List GivenJournal → (ℕ → ℕ) → ℕ → Type 0
IsNamed journals at a =
    IsLeastOffice (λ b. Stands journals at b × (Waits journals at b → ⊥)) a
    ⊎ (((b : ℕ) → Stands journals at b → Waits journals at b) × IsLeastOffice (Stands journals at) a)

-- ---- why there is no schedule

-- the office is the one to be named, and tells an entry of that number, from 1, and no schedule that goes along with the journals
-- has it, though one has all those before it
pub record IsLeft (plan : PlanValue) (journals : List GivenJournal) (a entry : ℕ) : Type 0 where
  pub at : ℕ → ℕ
  pub furthest : AreFurthest plan (told_in journals) at
  pub stands : Stands journals at a
  pub named : IsNamed journals at a
  pub next : entry ≡ at a + 1

-- an entry is left of an office, or memory ran out
abbrev pub IsUnwoven : PlanValue → List GivenJournal → WeaveFault → Type 0
IsUnwoven plan journals (fault.Unwoven a entry) = IsLeft plan journals a entry
IsUnwoven plan journals fault.Memory = Unit {0}
