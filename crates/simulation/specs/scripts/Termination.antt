-- A world that is left to itself comes to its end.
use Rattle.std.specs.Prelude.{ℕ, ◌+◌, ◌<◌, ◌≤◌, ◌⊎◌, List, [], ◌∷◌, length, Ok, Err}
use Rattle.office_map.specs.PlanValue.{PlanValue}
use Rattle.office_map.specs.Consistency.{IsAccepted}
use Rattle.site_core.specs.Limits.{most_entries}
use Rattle.frame_world.specs.Worlds.{World, opening, site_at}
use Rattle.frame_world.specs.Headline.{IsReached}
use Rattle.frame_world.specs.Standstill.{AllAreFinished, HasRoom}
use Rattle.frame_world.specs.WorkLeft.{work_left}
use Rattle.simulation.specs.declared.scripts.said.Said.TheVariants.{Replied, Rules, Settled, Open}
use Rattle.simulation.specs.scripts.Limits.{steps_to_the_end}
use Rattle.simulation.specs.scripts.Script.{Act}
use Rattle.simulation.specs.scripts.Script as scripts
use Rattle.simulation.specs.scripts.Runs.{Told, does}

-- after at most so many steps no office has a session that is current or waits
abbrev pub IsFinishedWithin : ℕ → Told → Type 0
IsFinishedWithin most (Ok (Settled n), v) = (n ≤ most) × AllAreFinished v
IsFinishedWithin most (Ok (Open n), v) = ⊥
IsFinishedWithin most (Ok (Replied r), v) = ⊥
IsFinishedWithin most (Ok (Rules n), v) = ⊥
IsFinishedWithin most (Err r, v) = ⊥

-- so it is, or a journal is full
abbrev pub IsAtItsEnd : ℕ → Told → Type 0
IsAtItsEnd most (Ok said, v) = IsFinishedWithin most (Ok said, v)
IsAtItsEnd most (Err r, v) = ((a : ℕ) → HasRoom v a) → ⊥

-- more steps than there is work left, or than the journals of all offices have room for
abbrev pub AreEnough : World → ℕ → Type 0
AreEnough w most = (work_left w < most) ⊎ (steps_to_the_end ≤ most)

-- From every accepted plan, in every world that a list of events leads to: its next steps, one after the other, end so, where
-- enough of them may be done.
abbrev pub SettleEnds : Type 0
SettleEnds = (w : World) (most : ℕ) → IsReached w → IsAccepted w.plan → AreEnough w most → IsAtItsEnd (work_left w) (does w (scripts.Settles most))

-- and each journal with room for as many entries as there is work left is enough
abbrev pub SettleFinishes : Type 0
SettleFinishes = (w : World) (most : ℕ) → IsReached w → IsAccepted w.plan → AreEnough w most → ((a : ℕ) → length (site_at w a).entries + work_left w ≤ most_entries) →
    IsFinishedWithin (work_left w) (does w (scripts.Settles most))

-- ---- in scripts

-- where an act settles the world by enough steps, these end so
abbrev pub EndsWhereItSettles : World → Act → Type 0
EndsWhereItSettles w (scripts.Happens e) = Unit {0}
EndsWhereItSettles w (scripts.Advances a n) = Unit {0}
EndsWhereItSettles w (scripts.Settles most) = AreEnough w most → IsAtItsEnd (work_left w) (does w (scripts.Settles most))

-- each of these acts, where it stands
abbrev pub EachSettleEnds : World → List Act → Type 0
EachSettleEnds w [] = Unit {0}
EachSettleEnds w (x ∷ xs) = EndsWhereItSettles w x × EachSettleEnds (does w x).1 xs

-- so it is of all acts, from the opening of every accepted plan
abbrev pub ScriptsSettleToTheirEnds : Type 0
ScriptsSettleToTheirEnds = (plan : PlanValue) (acts : List Act) → IsAccepted plan → EachSettleEnds (opening plan) acts
