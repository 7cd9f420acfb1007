-- What a channel answers to a frame that it takes.
use Rattle.std.specs.Prelude.{◌≡◌, Bool, false, ◌||◌, List, ◌∷◌}
use Rattle.frame_codec.specs.declared.message.Msg.{Msg}
use Rattle.window_link.specs.declared.arrival.Arrival.{Arrival}
use Rattle.window_link.specs.declared.arrival.Arrival.TheVariants as arrival
use Rattle.token_channel.specs.declared.taken.Taken.{Taken}
use Rattle.token_channel.specs.declared.taken.Taken.TheVariants.{Acked, Fresh, Repeat, Kept, Early}
use Rattle.token_channel.specs.declared.thing.Thing.{Thing}
use Rattle.token_channel.specs.Channels.{ChannelState}
use Rattle.token_channel.specs.Places.{holds, waits}

-- the answer tells what the frame was, and where it brought a message, that one and those that follow it
abbrev pub Tells : Taken → Arrival → List Msg → Type 0
Tells (Fresh taken) (arrival.Fresh m) following = taken ≡ m ∷ following
Tells Acked arrival.Acked following = Unit {0}
Tells Repeat arrival.Repeat following = Unit {0}
Tells Kept arrival.Kept following = Unit {0}
Tells Early arrival.Early following = Unit {0}
Tells _ _ following = ⊥

-- one of the messages that are listed carries the thing
abbrev pub brings : Taken → Thing → Bool
brings (Fresh taken) t = waits t taken
brings Acked t = false
brings Repeat t = false
brings Kept t = false
brings Early t = false

-- what the listed messages carry is held, and all else is as it was
abbrev pub HoldsWhatIsBrought : ChannelState → Taken → ChannelState → Type 0
HoldsWhatIsBrought before taken after = (t : Thing) → holds after.places t ≡ (brings taken t || holds before.places t)
