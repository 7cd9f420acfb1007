-- Which offices are known to have nothing to do, so that they needn't be asked.
use Rattle.std.specs.Prelude.{◌≡◌, ℕ, Bool, true, false, List, length, get_or, None, IsOk}
use Rattle.frame_world.specs.declared.event.WorldEvent.TheVariants as happening
use Rattle.frame_world.specs.declared.next_step.NextStep.{NextStep}
use Rattle.frame_world.specs.declared.next_step.NextStep.TheVariants as next
use Rattle.frame_world.specs.Worlds.{World, happens}
use Rattle.frame_world.specs.Standstill.{rule_at, message_from, place_of}

-- a mark for each office: that it has no rule next, and that it has no message
pub record Resting : Type 0 where
  pub rules : List Bool
  pub messages : List Bool

-- whose mark is set has no rule next in this world, or no message
pub record RestIn (w : World) (r : Resting) : Type 0 where
  pub rules : (a : ℕ) → get_or r.rules a false ≡ true → rule_at w a ≡ None
  pub messages : (a : ℕ) → get_or r.messages a false ≡ true → message_from w a ≡ None

-- and so it is once the step is done; of a message when its frame is made, and when that frame, the last of all, has come
abbrev pub RestAfter : World → NextStep → Resting → Type 0
RestAfter w (next.Rule a rule) r = RestIn (happens w (happening.Do a rule)).1 r
RestAfter w (next.Message a b number) r =
    let made = happens w (happening.Send a b (place_of w a b number)) in
    RestIn made.1 r × (IsOk made.0 → RestIn (happens made.1 (happening.Deliver (length made.1.frames))).1 r)
RestAfter w next.AllFinished r = RestIn w r
