-- What holds of offices that are lost and opened again.
use Rattle.std.specs.Prelude.{◌≡◌, ℕ, List, ◌++◌, slice_get, Some}
use Rattle.frame_codec.specs.Frame.{Fields}
use Rattle.office_map.specs.PlanValue.{PlanValue}
use Rattle.office_map.specs.Consistency.{IsConsistent}
use Rattle.office_journal.specs.declared.event.Entry.{Entry}
use Rattle.frame_world.specs.declared.event.WorldEvent.{WorldEvent}
use Rattle.frame_world.specs.Worlds.{World, opening, run_of}
use Rattle.frame_world.specs.Headline.{HasSerialSessions, HasSerialValues}
use Rattle.journal_weave.specs.Weaving.{IsWoven}
use Rattle.office_restarts.specs.Lives.{Lives, Happening, standing, goes_on, lived}

-- each frame that left is one that the world sent
abbrev pub WereSent : List Fields → World → Type 0
WereSent left w = (k : ℕ) (f : Fields) → slice_get left k ≡ Some f → (j : ℕ) × (slice_get w.frames j ≡ Some f)

-- The journals are those of one schedule of offices that are never lost, in which every frame that left was sent; and the
-- headline holds of it.
pub record IsOneWorld (l : Lives) (events : List WorldEvent) : Type 0 where
  pub woven : IsWoven l.plan l.journal events
  pub sent : WereSent l.left (run_of (opening l.plan) events)
  pub sessions : HasSerialSessions (run_of (opening l.plan) events)
  pub values : HasSerialValues (run_of (opening l.plan) events)

-- So it is after every history: whatever is lost with an office, what is left is a world from which nothing was ever lost.
abbrev pub RestartsAreOneWorld : Type 0
RestartsAreOneWorld = (plan : PlanValue) (history : List Happening) → IsConsistent plan → (events : List WorldEvent) × IsOneWorld (lived plan history) events

-- And what stood once stands for good: so whatever is told of entries that stand holds on.
abbrev pub WhatStoodStands : Type 0
WhatStoodStands = (plan : PlanValue) (history more : List Happening) (a : ℕ) → (rest : List Entry) × (standing (goes_on (lived plan history) more) a ≡ standing (lived plan history) a ++ rest)
