-- Messages that wait, one after the other.
use Rattle.std.proofs.Common.{◌≡◌, ℕ, ◌+◌, ◌||◌, List, drop, Some, ap, ◌∙◌}
use Rattle.std.specs.Prelude.{slice_get}
use Rattle.std.proofs.lemmas.List.{at_drop_more}
use Rattle.std.proofs.lemmas.Option.{slice_get_within, get_or_from_slice_get}
use Rattle.frame_codec.specs.declared.message.Msg.{Msg}
use Rattle.token_channel.specs.declared.thing.Thing.{Thing}
use Rattle.token_channel.specs.Things.{same, thing_of}
use Rattle.token_channel.specs.Places.{waits}

-- a thing waits from a message on where that one carries it, or it waits after it
pub waits_more : (t : Thing) (ms : List Msg) (i : ℕ) (m : Msg) → slice_get ms i ≡ Some m → waits t (drop i ms) ≡ (same t (thing_of m) || waits t (drop (i + 1) ms))
waits_more t ms i m at =
    at_drop_more (waits t) ms i m (slice_get_within ms i m at) ∙ ap (λ x. same t (thing_of x) || waits t (drop (i + 1) ms)) (get_or_from_slice_get ms i m m at)
