-- What holds of schedules beside what offices tell.
use Rattle.std.specs.Prelude.{◌≡◌, ℕ, List, ◌++◌, IsOk, ◌⊎◌}
use Rattle.office_map.specs.PlanValue.{PlanValue}
use Rattle.office_map.specs.Consistency.{IsConsistent}
use Rattle.office_journal.specs.declared.event.Entry.{Entry}
use Rattle.frame_world.specs.declared.event.WorldEvent.{WorldEvent}
use Rattle.frame_world.specs.Worlds.{World, opening, happens, run_of}
use Rattle.frame_world.specs.Headline.{HasSerialSessions, HasSerialValues}
use Rattle.journal_weave.specs.Weaving.{entries_at, Begins, IsWoven, GoesAlong}

-- what each office accepted in the one world begins what it accepted in the other
abbrev pub IsBehind : World → World → Type 0
IsBehind v w = (a : ℕ) → (rest : List Entry) × (entries_at w a ≡ entries_at v a ++ rest)

-- some event is accepted, and leaves beginnings of what is told
abbrev pub CanGoOn : World → (ℕ → List Entry) → Type 0
CanGoOn w told = (e : WorldEvent) × IsOk (happens w e).0 × Begins (happens w e).1 told

-- A schedule that goes along with what is told can go on, or it has of each office all that any such schedule has: so where
-- one is woven, it is woven too.
abbrev pub NoneGoesFurther : Type 0
NoneGoesFurther = (plan : PlanValue) (told : ℕ → List Entry) (events others : List WorldEvent) → GoesAlong plan told events → GoesAlong plan told others →
    CanGoOn (run_of (opening plan) events) told ⊎ IsBehind (run_of (opening plan) others) (run_of (opening plan) events)

-- the finished sessions of a woven schedule are those of a serial run, in its finishing order, and so are the records' values
abbrev pub WovenIsSerial : Type 0
WovenIsSerial = (plan : PlanValue) (told : ℕ → List Entry) (events : List WorldEvent) → IsConsistent plan → IsWoven plan told events →
    HasSerialSessions (run_of (opening plan) events) × HasSerialValues (run_of (opening plan) events)
