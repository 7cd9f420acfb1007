-- All offices of a plan, of which some keep to no rule: these may send any frame, to anybody.
use Rattle.std.specs.Prelude.{ℕ, Bool, true, false, List, [], ◌∷◌, ◌++◌}
use Rattle.frame_codec.specs.Frame.{Fields}
use Rattle.frame_world.specs.declared.event.WorldEvent.{WorldEvent}
use Rattle.frame_world.specs.Worlds.{World, happens}

-- an event as in any world, of whichever office; or a frame that its sender has made up
pub data HostileEvent : Type 0 where
  AsEver : (e : WorldEvent) → HostileEvent
  MadeUp : (f : Fields) → HostileEvent

-- What is made up is among the frames that were sent, and may come from then on as any other. In the name of an office that keeps to the rules nothing is made up.
abbrev pub makes_up : Bool → World → Fields → World
makes_up true w f = w
makes_up false w f = record { plan = w.plan; sites = w.sites; frames = w.frames ++ f ∷ []; finished = w.finished }

-- what an event leaves, where these offices keep to the rules
abbrev pub leaves : (ℕ → Bool) → World → HostileEvent → World
leaves honest w (AsEver e) = (happens w e).1
leaves honest w (MadeUp f) = makes_up (honest f.from) w f

-- one event after the other
abbrev pub goes_on : (ℕ → Bool) → World → List HostileEvent → World
goes_on honest w [] = w
goes_on honest w (e ∷ es) = goes_on honest (leaves honest w e) es
