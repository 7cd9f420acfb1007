-- Two days of a network: the world of the first, and that of the second, whose plan carries on what the first left.
use Rattle.std.specs.Prelude.{◌≡◌, ℕ, ◌<◌, [], ◌∷◌, ◌++◌, length, map, All, IsTrue}
use Rattle.bottle_values.specs.declared.Value.{Value}
use Rattle.session_meaning.specs.ProgramValue.{ProgramValue}
use Rattle.session_meaning.specs.declared.ending.Outcome.{Outcome}
use Rattle.session_programs.specs.Program.{fits}
use Rattle.serial_replay.specs.Serial.{start_map, map_of}
use Rattle.frame_world.specs.Worlds.{World}
use Rattle.frame_world.specs.Ways.{bottles_of}
use Rattle.frame_world.specs.Headline.{programs, outcomes, HasSerialSessions, HasSerialValues}
use Rattle.day_audits.specs.carried.Days.{endings}
use Rattle.day_audits.specs.plans.NextPlans.{next_plan}

-- a world as an audit finds it: its sessions are serial, its bottles have that run's values, and its sessions fit its plan
pub record IsSerial (w : World) : Type 0 where
  pub sessions : HasSerialSessions w
  pub values : HasSerialValues w
  pub fit : All (λ (x : ProgramValue). IsTrue (fits w.plan x)) (programs w)

-- the plan of tomorrow is the next one after today's, with the values of today's bottles
pub record FollowsOn (today tomorrow : World) (m : ℕ → Value) : Type 0 where
  pub left : (r : ℕ) → r < length today.plan.records → bottles_of today r ≡ m r ∷ []
  pub planned : tomorrow.plan ≡ next_plan today.plan m

-- The sessions that finished on both days end as in one serial run of all of them from the values of today's plan, and the bottles of
-- tomorrow have that run's values.
pub record AreOneSerialRun (today tomorrow : World) : Type 0 where
  pub sessions : map (λ (o : Outcome). o.ending) (outcomes today ++ outcomes tomorrow) ≡ endings (start_map today.plan) (programs today ++ programs tomorrow)
  pub values : (r : ℕ) → r < length today.plan.records → bottles_of tomorrow r ≡ map_of (start_map today.plan) (programs today ++ programs tomorrow) r ∷ []

-- so it is of two worlds that follow on
abbrev pub WorldsOfTwoDaysAreOneRun : Type 0
WorldsOfTwoDaysAreOneRun = (today tomorrow : World) (m : ℕ → Value) → IsSerial today → IsSerial tomorrow → FollowsOn today tomorrow m → AreOneSerialRun today tomorrow
