-- One end of a channel: a link, and what of the pair's things is held here.
use Rattle.std.specs.Prelude.{◌≡◌, ℕ, ◌+◌, ◌-◌, Bool, true, false, not, ◌||◌, ◌==◌, is_some, if◌then◌else◌, zero, suc, List, [], ◌∷◌, drop, Option, Some, None}
use Rattle.std.specs.Option.{option_map_or}
use Rattle.frame_codec.specs.declared.message.Msg.{Msg}
use Rattle.frame_codec.specs.Frame.{Fields}
use Rattle.office_map.specs.PlanValue.{PlanValue}
use Rattle.window_link.specs.Windows.{Receiving, queued, next_kept, advanced, without_next}
use Rattle.window_link.specs.Limits.{most_kept}
use Rattle.window_link.specs.Links.{LinkState, resumed, fault_of, arrival_at, after_arrival}
use Rattle.window_link.specs.declared.arrival.Arrival.{Arrival}
use Rattle.window_link.specs.declared.arrival.Arrival.TheVariants.{Acked, Fresh, Repeat, Kept, Early}
use Rattle.window_link.specs.declared.fault.LinkFault.{LinkFault}
use Rattle.token_channel.specs.declared.fault.ChannelFault.{ChannelFault}
use Rattle.token_channel.specs.declared.fault.ChannelFault.TheVariants.{Link, Breach}
use Rattle.token_channel.specs.declared.thing.Thing.{Thing}
use Rattle.token_channel.specs.declared.thing.SharedThing.{SharedThing}
use Rattle.token_channel.specs.Things.{thing_of, hold}
use Rattle.token_channel.specs.Places.{Apart, holds, shares, waits, changed, places_of}

-- the link, and the pair's things, each with whether it is held here
pub record ChannelState : Type 0 where
  pub link : LinkState
  pub places : List SharedThing

-- Each thing of the pair is held here, or waits here once, or neither; and nothing else does.
abbrev pub IsApart : ChannelState → Type 0
IsApart c = Apart c.places c.link.sending.waiting

-- the channel as the plan starts it
abbrev pub opened : PlanValue → ℕ → ℕ → ChannelState
opened p me peer = record { link = resumed p.run me peer 0 0 p.version; places = places_of p me peer }

-- the channel after a thing was sent: it is held no more, and its message waits
abbrev pub sent : ChannelState → Msg → ChannelState
sent c msg =
    record {
      link = record { run = c.link.run; me = c.link.me; peer = c.link.peer; sending = queued c.link.sending msg; receiving = c.link.receiving; version = c.link.version };
      places = changed c.places (thing_of msg) false;
    }

-- the message that a frame would bring
abbrev pub next_of : LinkState → Fields → Option Msg
next_of l f = if f.number == l.receiving.taken + 1 then f.msg else None

-- what still waits once the count is used
abbrev pub left_by : LinkState → ℕ → List Msg
left_by l count = drop (count - l.sending.acked) l.sending.waiting

-- the thing isn't one of those that are shared, or is held here, or still waits
abbrev pub breach_among : (shared held : Thing → Bool) → LinkState → ℕ → Msg → Bool
breach_among shared held l count msg =
    not (shared (thing_of msg)) || held (thing_of msg) || waits (thing_of msg) (left_by l count)

-- so it is of what this channel shares and holds
abbrev pub is_breach : ChannelState → ℕ → Msg → Bool
is_breach c = breach_among (shares c.places) (holds c.places) c.link

abbrev pub breach_of : Bool → Option ChannelFault
breach_of b = if b then Some Breach else None

abbrev pub link_fault_or : Option LinkFault → Bool → Option ChannelFault
link_fault_or None b = breach_of b
link_fault_or (Some fault) b = Some (Link fault)

-- what is wrong with a frame, the first that applies, where these things are shared and these are held
abbrev pub fault_among : (shared held : Thing → Bool) → LinkState → Fields → Option ChannelFault
fault_among shared held l f =
    link_fault_or (fault_of l f) (option_map_or (breach_among shared held l f.count) (next_of l f) false)

-- the first fault of a frame: the link's, or that what it brings is held here, still waits, or isn't the pair's
abbrev pub channel_fault : ChannelState → Fields → Option ChannelFault
channel_fault c = fault_among (shares c.places) (holds c.places) c.link

abbrev pub with_taken : List SharedThing → Option Msg → List SharedThing
with_taken places None = places
with_taken places (Some msg) = changed places (thing_of msg) true

-- after a frame's own message: the link used the frame, and what it brought is held
abbrev pub after_frame : ChannelState → Fields → ChannelState
after_frame c f =
    record { link = after_arrival c.link f; places = with_taken c.places (next_of c.link f) }

-- ---- what was kept

-- what is kept of the next number follows, unless it would be a breach by now
abbrev pub unless_breach : (Msg → Bool) → Option Msg → Option Msg
unless_breach breach None = None
unless_breach breach (Some m) = if breach m then None else Some m

abbrev pub follows_among : (shared held : Thing → Bool) → LinkState → Option Msg
follows_among shared held l = unless_breach (breach_among shared held l l.sending.acked) (next_kept l.receiving)

-- it is taken, and what doesn't follow is thrown out of its place
abbrev pub window_then : Receiving → Option Msg → Receiving
window_then r None = without_next r
window_then r (Some m) = advanced r

abbrev pub link_then : LinkState → Option Msg → LinkState
link_then l o = record { run = l.run; me = l.me; peer = l.peer; sending = l.sending; receiving = window_then l.receiving o; version = l.version }

-- the message kept of the next number, unless it would be a breach by now
abbrev pub follows : ChannelState → Option Msg
follows c = follows_among (shares c.places) (holds c.places) c.link

-- the channel after that message was taken, or what is kept of the next number was thrown out
abbrev pub after_kept : ChannelState → ChannelState
after_kept c = record { link = link_then c.link (follows c); places = with_taken c.places (follows c) }

-- the channel after one kept message after the other, up to the first that doesn't follow, so many at most
abbrev pub followed : ℕ → ChannelState → ChannelState
followed zero c = c
followed (suc n) c = if is_some (follows c) then followed n (after_kept c) else after_kept c

abbrev pub before : Option Msg → List Msg → List Msg
before None ms = []
before (Some m) ms = m ∷ ms

-- the kept messages that follow one another up to the first gap or breach, so many at most
abbrev pub following : ℕ → ChannelState → List Msg
following zero c = []
following (suc n) c = before (follows c) (following n (after_kept c))

-- after the message of a frame so many may follow, which is 17
abbrev pub most_following : ℕ
most_following = most_kept - 1

abbrev pub settled : Arrival → ChannelState → ChannelState
settled (Fresh m) c = followed most_following c
settled Acked c = c
settled Repeat c = c
settled Kept c = c
settled Early c = c

-- the channel after a frame: its own message, and then those that follow
abbrev pub after_taking : ChannelState → Fields → ChannelState
after_taking c f = settled (arrival_at c.link f) (after_frame c f)

-- the messages that are taken with a frame that was this, where these would follow
abbrev pub with_following : Arrival → List Msg → List Msg
with_following (Fresh m) ms = m ∷ ms
with_following Acked ms = []
with_following Repeat ms = []
with_following Kept ms = []
with_following Early ms = []

-- those that are taken with a frame, in order
abbrev pub taken_with : ChannelState → Fields → List Msg
taken_with c f = with_following (arrival_at c.link f) (following most_following (after_frame c f))

-- ---- laws

-- what is held after a frame that brought this
abbrev pub held_after : (Thing → Bool) → Arrival → Thing → Bool
held_after held (Fresh msg) t = hold held (thing_of msg) true t
held_after held Acked t = held t
held_after held Repeat t = held t
held_after held Kept t = held t
held_after held Early t = held t

abbrev pub held_with : (Thing → Bool) → Option Msg → Thing → Bool
held_with held None t = held t
held_with held (Some m) t = hold held (thing_of m) true t

-- Of a frame that isn't refused, what it brings is held, and all else as before.
abbrev pub WhatComesIsHeld : Type 0
WhatComesIsHeld = (c : ChannelState) (f : Fields) (t : Thing) → channel_fault c f ≡ None → holds (after_frame c f).places t ≡ held_after (holds c.places) (arrival_at c.link f) t

-- what follows is held after it, and all else as before
abbrev pub WhatFollowsIsHeld : Type 0
WhatFollowsIsHeld = (c : ChannelState) (t : Thing) → holds (after_kept c).places t ≡ held_with (holds c.places) (follows c) t

-- What the two share stays, whatever is sent and whatever frame comes.
abbrev pub WhatIsSharedStays : Type 0
WhatIsSharedStays = (c : ChannelState) (t : Thing) → ((m : Msg) → shares (sent c m).places t ≡ shares c.places t) × ((f : Fields) → shares (after_frame c f).places t ≡ shares c.places t) × (shares (after_kept c).places t ≡ shares c.places t)

-- What a frame brings that isn't refused is one of the things that are shared, and wasn't held.
abbrev pub WhatComesWasAway : Type 0
WhatComesWasAway = (shared held : Thing → Bool) (l : LinkState) (f : Fields) (m : Msg) → fault_among shared held l f ≡ None → arrival_at l f ≡ Fresh m →
    (shared (thing_of m) ≡ true) × (held (thing_of m) ≡ false)

-- nor does anything follow that isn't shared, or was held before
abbrev pub WhatFollowsWasAway : Type 0
WhatFollowsWasAway = (shared held : Thing → Bool) (l : LinkState) (m : Msg) → follows_among shared held l ≡ Some m → (shared (thing_of m) ≡ true) × (held (thing_of m) ≡ false)
