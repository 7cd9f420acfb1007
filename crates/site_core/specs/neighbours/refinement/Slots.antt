-- The channels that the code keeps: a place for each office of the plan, empty where that is no neighbour.
use Rattle.std.specs.Prelude.{◌≡◌, ℕ, Bool, true, false, if◌then◌else◌, List, get_or, Option, None, Some, option_map}
use Rattle.std.specs.Option.{option_map_or}
use Rattle.bottle_values.specs.declared.version.Version.{Version}
use Rattle.frame_codec.specs.declared.message.Msg.{Msg}
use Rattle.frame_codec.specs.Frame.{Fields, carries}
use Rattle.office_map.specs.PlanValue.{PlanValue, are_neighbours}
use Rattle.window_link.specs.Windows.{used}
use Rattle.window_link.specs.Links.{LinkState, resumed}
use Rattle.token_channel.specs.declared.thing.Thing.{Thing}
use Rattle.token_channel.specs.Places.{holds, shares}
use Rattle.token_channel.specs.Ends.{is_shared}
use Rattle.token_channel.specs.Channels.{ChannelState, opened, sent, after_taking}

abbrev pub Slot : Type 0
Slot = Option ChannelState

abbrev pub slot_at : List Slot → ℕ → Slot
slot_at slots v = get_or slots v None

-- the link in a slot; with an office that is no neighbour nothing was ever sent
abbrev pub link_in : ℕ → Version → ℕ → ℕ → Slot → LinkState
link_in run version me v None = resumed run me v 0 0 version
link_in run version me v (Some c) = c.link

abbrev pub links_of : ℕ → Version → ℕ → List Slot → ℕ → LinkState
links_of run version me slots v = link_in run version me v (slot_at slots v)

abbrev pub slot_holds : Slot → Thing → Bool
slot_holds slot t = option_map_or (λ (c : ChannelState). holds c.places t) slot false

abbrev pub slot_used : Slot → ℕ
slot_used slot = option_map_or (λ (c : ChannelState). used c.link.sending) slot 0

-- frames of the link in a slot can carry the message
abbrev pub slot_carries : Slot → Msg → Bool
slot_carries slot m = option_map_or (λ (c : ChannelState). carries c.link.version m) slot true

abbrev pub slot_sent : Slot → Msg → Slot
slot_sent slot m = option_map (λ c. sent c m) slot

abbrev pub slot_taking : Slot → Fields → Slot
slot_taking slot f = option_map (λ c. after_taking c f) slot

abbrev pub slot_at_start : PlanValue → ℕ → ℕ → Slot
slot_at_start plan me v = if are_neighbours plan me v then Some (opened plan me v) else None

-- the channel to a neighbour: it has just what is shared with that office, and holds what the office holds of it
pub record IsChannelTo (plan : PlanValue) (me v : ℕ) (here : Thing → Bool) (c : ChannelState) : Type 0 where
  pub shared : (t : Thing) → shares c.places t ≡ is_shared plan me v t
  pub held : (t : Thing) → holds c.places t ≡ here t

-- there is one to each neighbour, and to no other office
abbrev pub IsSlotOf : PlanValue → ℕ → ℕ → (Thing → Bool) → Slot → Type 0
IsSlotOf plan me v here None = are_neighbours plan me v ≡ false
IsSlotOf plan me v here (Some c) = (are_neighbours plan me v ≡ true) × IsChannelTo plan me v here c
