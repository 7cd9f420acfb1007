-- What goes between two offices, and the tables and bars that the offices are.
use Rattle.std.specs.Prelude.{ℕ, ◌+◌, ◌-◌, ◌==◌, if◌then◌else◌, List, [], ◌∷◌, ◌++◌, drop, Option, None, Some}
use Rattle.std.specs.Option.{option_map_or}
use Rattle.bottle_values.specs.declared.Value.{Value}
use Rattle.bottle_values.specs.Lists.{num}
use Rattle.frame_codec.specs.declared.message.Msg.{Msg}
use Rattle.frame_codec.specs.declared.message.Msg.TheVariants as msg
use Rattle.office_map.specs.PlanValue.{ends_of}
use Rattle.window_link.specs.Windows.{Sending}
use Rattle.token_channel.specs.declared.thing.Thing.{Thing}
use Rattle.token_channel.specs.declared.thing.Thing.TheVariants.{Fork, ForkToken, BottleToken}
use Rattle.token_channel.specs.Things.{count_carrying}
use Rattle.dining_core.specs.Worlds as tables
use Rattle.drinking_core.specs.Worlds as bars
use Rattle.site_core.specs.Pairs.{Pairs, held}
use Rattle.frame_world.specs.Worlds.{World, office_at}

-- what an office of a world shares with its neighbours
abbrev pub pairs_at : World → ℕ → Pairs
pairs_at w a = (office_at w a).pairs

-- ---- on the way

-- of what waits at its sender, which starts after the acknowledged ones, all but what the other took
abbrev pub untaken : Sending → ℕ → List Msg
untaken s taken = drop (taken - s.acked) s.waiting

-- what a sent to b, who hasn't taken it
abbrev pub between : (ℕ → Pairs) → ℕ → ℕ → List Msg
between pairs a b = untaken ((pairs a).link b).sending ((pairs b).link a).receiving.taken

-- what an office of a world sent to another, who hasn't taken it
abbrev pub toward : World → ℕ → ℕ → List Msg
toward w = between (pairs_at w)

-- at how many places a thing of a and b is: held at either, or on the way
abbrev pub places : World → ℕ → ℕ → Thing → ℕ
places w a b t = num (held (pairs_at w a) b t) + (num (held (pairs_at w b) a t) + (count_carrying t (toward w a b) + count_carrying t (toward w b a)))

-- the bottles of a record among messages, each by its value
abbrev pub bottles_in : ℕ → List Msg → List Value
bottles_in r [] = []
bottles_in r (msg.Bottle q x ∷ ms) = if r == q then x ∷ bottles_in r ms else bottles_in r ms
bottles_in r (msg.AskBottle q ∷ ms) = bottles_in r ms
bottles_in r (msg.Fork ∷ ms) = bottles_in r ms
bottles_in r (msg.AskFork ∷ ms) = bottles_in r ms

abbrev pub listed : Option Value → List Value
listed None = []
listed (Some x) = x ∷ []

-- all bottles of a record between two offices: held at either, or on the way
abbrev pub bottles_between : World → ℕ → ℕ × ℕ → List Value
bottles_between w r (a, b) =
    listed ((pairs_at w a).drinker.bottle r) ++ (listed ((pairs_at w b).drinker.bottle r) ++ (bottles_in r (toward w a b) ++ bottles_in r (toward w b a)))

-- all bottles of a record of the plan, held at its ends or on the way between them, each by its value
abbrev pub bottles_of : World → ℕ → List Value
bottles_of w r = option_map_or (bottles_between w r) (ends_of w.plan r) []

-- ---- the parts' worlds

-- the offices' tables, with the forks and request tokens on the way
abbrev pub tables_of : (ℕ → Pairs) → tables.World
tables_of pairs = record {
  diner = λ a. (pairs a).diner;
  forks_on_way = λ a v. count_carrying Fork (between pairs a v);
  tokens_on_way = λ a v. count_carrying ForkToken (between pairs a v);
}

-- the offices' bars, with the bottles and request tokens on the way
abbrev pub bars_of : (ℕ → Pairs) → bars.World
bars_of pairs = record {
  drinker = λ a. (pairs a).drinker;
  bottles_on_way = λ r a v. bottles_in r (between pairs a v);
  tokens_on_way = λ r a v. count_carrying (BottleToken r) (between pairs a v);
}
