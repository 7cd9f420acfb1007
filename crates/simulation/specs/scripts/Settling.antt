-- What a world does that is left to itself: the steps that come next, one after the other, until no session is left.
use Rattle.std.specs.Prelude.{◌≡◌, ◌≢◌, ℕ, suc, ◌≤◌, ◌<◌, ◌⊎◌, List, [], ◌∷◌, length, Ok, Err, IsOk}
use Rattle.office_map.specs.Consistency.{IsAccepted}
use Rattle.frame_world.specs.declared.event.WorldEvent.{WorldEvent}
use Rattle.frame_world.specs.declared.event.WorldEvent.TheVariants as happening
use Rattle.frame_world.specs.declared.refusal.WorldRefusal.{WorldRefusal}
use Rattle.frame_world.specs.declared.next_step.NextStep.{NextStep}
use Rattle.frame_world.specs.declared.next_step.NextStep.TheVariants as next
use Rattle.frame_world.specs.Worlds.{World, happens, AreAccepted}
use Rattle.frame_world.specs.Worlds as worlds
use Rattle.frame_world.specs.Headline.{IsReached}
use Rattle.frame_world.specs.Standstill.{next_step, place_of, AllAreFinished, HasRoom}
use Rattle.simulation.specs.declared.scripts.said.Said.TheVariants.{Replied, Rules, Settled, Open}
use Rattle.simulation.specs.scripts.Script as scripts
use Rattle.simulation.specs.scripts.Runs.{Told, does}

-- what happens in a step: an office does a rule; or the message is sent, and its frame, one past all that were sent, comes
abbrev pub events_of : World → NextStep → List WorldEvent
events_of w (next.Rule a r) = happening.Do a r ∷ []
events_of w (next.Message a b number) = happening.Send a b (place_of w a b number) ∷ happening.Deliver (suc (length w.frames)) ∷ []
events_of w next.AllFinished = []

-- events of which one is refused so, after those before it were accepted; and the world then
abbrev pub IsRefused : World → List WorldEvent → WorldRefusal → World → Type 0
IsRefused w [] r v = ⊥
IsRefused w (e ∷ es) r v = (happens w e ≡ (Err r, v)) ⊎ (IsOk (happens w e).0 × IsRefused (happens w e).1 es r v)

-- steps of which each is the one that comes next in the world that those before it led to, where a session is left, and is
-- accepted there; and the world that all of them lead to
abbrev pub Lead : World → List NextStep → World → Type 0
Lead w [] v = v ≡ w
Lead w (s ∷ ss) v = (next_step w ≡ s) × (s ≢ next.AllFinished) × AreAccepted w (events_of w s) × Lead (worlds.run_of w (events_of w s)) ss v

-- Where so many steps of the most led to a world: they are told as finished, and no office has a session left; or all that
-- were asked for are told as open, and some office has one left; or the next step is refused, and some journal is full.
abbrev pub Ends : ℕ → ℕ → World → Told → Type 0
Ends most done w (Ok (Settled n), v) = (v ≡ w) × (n ≡ done) × (n ≤ most) × AllAreFinished w
Ends most done w (Ok (Open n), v) = (v ≡ w) × (n ≡ done) × (n ≡ most) × (AllAreFinished w → ⊥)
Ends most done w (Ok (Replied r), v) = ⊥
Ends most done w (Ok (Rules n), v) = ⊥
Ends most done w (Err r, v) = (done < most) × IsRefused w (events_of w (next_step w)) r v × (((a : ℕ) → HasRoom w a) → ⊥)

-- What a world does that is left to itself: such steps, just as many as are told, and then it ends so.
pub record Settles (w : World) (most : ℕ) (told : Told) : Type 0 where
  pub steps : List NextStep
  pub world : World
  pub lead : Lead w steps world
  pub ends : Ends most (length steps) world told

-- a world of an accepted plan settles so, if a list of events leads to it
abbrev pub WorldsSettleByTheirNextSteps : Type 0
WorldsSettleByTheirNextSteps = (w : World) (most : ℕ) → IsReached w → IsAccepted w.plan → Settles w most (does w (scripts.Settles most))

-- and whatever is told so of a world is the one thing that can be told of it: so many steps, and what came of them
abbrev pub WorldsSettleInOneWay : Type 0
WorldsSettleInOneWay = (w : World) (most : ℕ) (t u : Told) → Settles w most t → Settles w most u → t ≡ u
