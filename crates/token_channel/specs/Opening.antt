-- What a channel begins with.
use Rattle.std.specs.Prelude.{◌≡◌, ℕ, ◌&&◌, IsTrue}
use Rattle.office_map.specs.PlanValue.{PlanValue, are_neighbours}
use Rattle.office_map.specs.Consistency.{IsConsistent}
use Rattle.token_channel.specs.declared.thing.Thing.{Thing}
use Rattle.token_channel.specs.Places.{holds, shares}
use Rattle.token_channel.specs.Ends.{is_shared, starts_here}
use Rattle.token_channel.specs.Channels.{ChannelState, opened}

-- of every thing: whether it is the channel's, and whether it is held there
pub record HasJust (c : ChannelState) (p : PlanValue) (me peer : ℕ) (t : Thing) : Type 0 where
  pub shared : shares c.places t ≡ is_shared p me peer t
  pub held : holds c.places t ≡ (is_shared p me peer t && starts_here p me peer t)

-- at the opening each thing is the channel's where the plan has the two share it, and held where it starts here
abbrev pub OpensAsThePlanStarts : Type 0
OpensAsThePlanStarts = (p : PlanValue) (me peer : ℕ) (t : Thing) → IsConsistent p → IsTrue (are_neighbours p me peer) → HasJust (opened p me peer) p me peer t
