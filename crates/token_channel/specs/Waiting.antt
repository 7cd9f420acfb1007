-- How many messages wait at an end, over all that may happen there.
use Rattle.std.specs.Prelude.{ℕ, ◌+◌, ◌*◌, ◌≤◌, ◌&&◌, nat_lt, is_some, if◌then◌else◌, List, [], ◌∷◌, length, IsTrue}
use Rattle.frame_codec.specs.declared.message.Msg.{Msg}
use Rattle.frame_codec.specs.Frame.{Fields}
use Rattle.office_map.specs.PlanValue.{PlanValue, are_neighbours, records_between}
use Rattle.office_map.specs.Consistency.{IsConsistent}
use Rattle.window_link.specs.Windows.{used}
use Rattle.window_link.specs.Limits.{greatest}
use Rattle.token_channel.specs.Things.{thing_of}
use Rattle.token_channel.specs.Places.{holds}
use Rattle.token_channel.specs.Channels.{ChannelState, opened, sent, channel_fault, after_taking}

-- a message is to be sent, or a frame comes
pub data ChannelEvent : Type 0 where
  sends : (m : Msg) → ChannelEvent
  comes : (f : Fields) → ChannelEvent

-- a message of a thing that isn't held isn't sent, nor any once the numbers are used up; a refused frame changes
-- nothing
abbrev pub after_event : ChannelState → ChannelEvent → ChannelState
after_event c (sends m) = if holds c.places (thing_of m) && nat_lt (used c.link.sending) greatest then sent c m else c
after_event c (comes f) = if is_some (channel_fault c f) then c else after_taking c f

-- an end after these events, one after the other
abbrev pub after_events : ChannelState → List ChannelEvent → ChannelState
after_events c [] = c
after_events c (e ∷ es) = after_events (after_event c e) es

-- Of B records between two offices at most 2 + 2B messages wait, whatever was sent and whatever came.
abbrev pub FewWait : Type 0
FewWait = (p : PlanValue) (me peer : ℕ) (events : List ChannelEvent) → IsConsistent p → IsTrue (are_neighbours p me peer)
    → length (after_events (opened p me peer) events).link.sending.waiting ≤ 2 + 2 * records_between p me peer
