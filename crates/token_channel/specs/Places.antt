-- The things of a pair, each with whether it is held at one end.
use Rattle.std.specs.Prelude.{ℕ, ◌+◌, ◌≤◌, Bool, false, not, ◌&&◌, ◌==◌, if◌then◌else◌, List, [], ◌∷◌, ◌++◌, map, Option}
use Rattle.std.specs.List.{list_any, flat_map}
use Rattle.std.specs.Option.{option_map_or}
use Rattle.frame_codec.specs.declared.message.Msg.{Msg}
use Rattle.office_map.specs.PlanValue.{PlanValue, records_of, is_end, fork_end_of, start_end_of}
use Rattle.token_channel.specs.declared.thing.Thing.{Thing}
use Rattle.token_channel.specs.declared.thing.Thing.TheVariants.{Fork as TheFork, ForkToken, Bottle as TheBottle, BottleToken}
use Rattle.token_channel.specs.declared.thing.SharedThing.{SharedThing}
use Rattle.token_channel.specs.Things.{same, thing_of, count_carrying}
use Rattle.bottle_values.specs.Lists.{num}

-- the thing is one of these, and it is held
abbrev pub holds : List SharedThing → Thing → Bool
holds places t = list_any (λ (p : SharedThing). same p.thing t && p.held) places

-- the thing is one of these
abbrev pub shares : List SharedThing → Thing → Bool
shares places t = list_any (λ (p : SharedThing). same p.thing t) places

-- some of the messages carries it
abbrev pub waits : Thing → List Msg → Bool
waits t ms = list_any (λ m. same t (thing_of m)) ms

-- each thing is held, or waits once, or neither
abbrev pub Apart : List SharedThing → List Msg → Type 0
Apart places ms = (t : Thing) → num (holds places t) + count_carrying t ms ≤ num (shares places t)

-- a place where that thing came or went
abbrev pub with_held : Thing → Bool → SharedThing → SharedThing
with_held t b p = if same p.thing t then record { thing = p.thing; held = b } else p

-- all places where that thing came or went
abbrev pub changed : List SharedThing → Thing → Bool → List SharedThing
changed places t b = map (with_held t b) places

-- ---- the opening

-- a thing that starts at an end is held there, and its token at the other
abbrev pub with_token : Thing → Thing → Bool → List SharedThing
with_token thing token here =
    record { thing = thing; held = here } ∷ record { thing = token; held = not here } ∷ []

abbrev pub starts_at : Option ℕ → ℕ → Bool
starts_at end me = option_map_or (λ e. e == me) end false

-- the bottle of a record that is shared with the peer
abbrev pub bottle_places : PlanValue → ℕ → ℕ → ℕ → List SharedThing
bottle_places p me peer r =
    if is_end p r peer then with_token (TheBottle r) (BottleToken r) (starts_at (start_end_of p r) me) else []

-- what two neighbours share, and where each thing starts
abbrev pub places_of : PlanValue → ℕ → ℕ → List SharedThing
places_of p me peer =
    with_token TheFork ForkToken (starts_at (fork_end_of p me peer) me) ++ flat_map (bottle_places p me peer) (records_of p me)
