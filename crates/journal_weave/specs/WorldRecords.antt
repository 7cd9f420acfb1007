-- Worlds and their journals, both ways: each world leaves journals that are woven, and whichever schedule is woven from them leads
-- to the same offices.
use Rattle.std.specs.Prelude.{◌≡◌, ◌==◌, ◌↔◌, ℕ, Bool, IsTrue, List, map, filter, count_by, All}
use Rattle.frame_codec.specs.Frame.{Fields}
use Rattle.office_map.specs.PlanValue.{PlanValue}
use Rattle.office_map.specs.Consistency.{IsConsistent}
use Rattle.office_journal.specs.declared.event.Entry.{Entry}
use Rattle.frame_world.specs.declared.event.WorldEvent.{WorldEvent}
use Rattle.frame_world.specs.Worlds.{World, Finished, opening, run_of, AreAccepted}
use Rattle.frame_world.specs.Ways.{bottles_of}
use Rattle.journal_weave.specs.declared.given.GivenJournal.{GivenJournal}
use Rattle.journal_weave.specs.Weaving.{untagged, entries_at, IsWoven}
use Rattle.journal_weave.specs.Given.{told_in, IsWovenFrom}

-- the journals are given to their ends, and tell of each office what it accepted in the world, tags aside
pub record AreRecordOf (w : World) (journals : List GivenJournal) : Type 0 where
  pub whole : All (λ (j : GivenJournal). IsTrue j.ends) journals
  pub told : (a : ℕ) → map untagged (told_in journals a) ≡ map untagged (entries_at w a)

-- the sessions that an office finished, in finishing order
abbrev pub finished_at : World → ℕ → List Finished
finished_at w a = filter (λ (f : Finished). f.outcome.office == a) w.finished

-- Two worlds of a plan have the same offices, with their journals; each office finished the same sessions, in the same order, with
-- the same told of them; as many frames that were sent pass a test, whatever it is; and each record's bottles are the same. What one
-- office did before another may differ, and so sessions of two offices may have finished the other way round.
pub record DifferInOrder (v w : World) : Type 0 where
  pub plan : v.plan ≡ w.plan
  pub offices : v.sites ≡ w.sites
  pub sessions : (a : ℕ) → finished_at v a ≡ finished_at w a
  pub frames : (test : Fields → Bool) → count_by test v.frames ≡ count_by test w.frames
  pub bottles : (r : ℕ) → bottles_of v r ≡ bottles_of w r

-- ---- laws

-- Journals are woven from a schedule just where all its events are accepted, and they are the record of the world to which these
-- lead.
abbrev pub WovenIsRecord : Type 0
WovenIsRecord = (plan : PlanValue) (journals : List GivenJournal) (events : List WorldEvent) →
    IsWovenFrom plan journals events ↔ (AreAccepted (opening plan) events × AreRecordOf (run_of (opening plan) events) journals)

-- Whichever events led to a world, good or refused, its journals are woven from a schedule, which leads to that very world. So of
-- what `weave` may answer to them a schedule is left, or that memory ran out.
abbrev pub WorldsAreWoven : Type 0
WorldsAreWoven = (plan : PlanValue) (events : List WorldEvent) (journals : List GivenJournal) → AreRecordOf (run_of (opening plan) events) journals →
    (schedule : List WorldEvent) × IsWovenFrom plan journals schedule × (run_of (opening plan) schedule ≡ run_of (opening plan) events)

-- two schedules that are woven from what offices tell lead to worlds that differ in order alone
abbrev pub SchedulesDifferInOrder : Type 0
SchedulesDifferInOrder = (plan : PlanValue) (told : ℕ → List Entry) (events others : List WorldEvent) → IsConsistent plan → IsWoven plan told events → IsWoven plan told others →
    DifferInOrder (run_of (opening plan) events) (run_of (opening plan) others)

-- so a world differs in order alone from each to which a schedule leads that is woven from its journals
abbrev pub WorldsAreFoundAgain : Type 0
WorldsAreFoundAgain = (plan : PlanValue) (events schedule : List WorldEvent) (journals : List GivenJournal) → IsConsistent plan → AreRecordOf (run_of (opening plan) events) journals →
    IsWovenFrom plan journals schedule → DifferInOrder (run_of (opening plan) events) (run_of (opening plan) schedule)
