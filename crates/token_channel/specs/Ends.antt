-- What two offices share, and where it starts.
use Rattle.std.specs.Prelude.{ℕ, Bool, not}
use Rattle.office_map.specs.PlanValue.{PlanValue, are_neighbours, has_ends, fork_starts_at, bottle_starts_at}
use Rattle.token_channel.specs.declared.thing.Thing.{Thing}
use Rattle.token_channel.specs.declared.thing.Thing.TheVariants.{Fork, ForkToken, Bottle, BottleToken}

-- a and b share the thing
abbrev pub is_shared : PlanValue → ℕ → ℕ → Thing → Bool
is_shared p a b Fork = are_neighbours p a b
is_shared p a b ForkToken = are_neighbours p a b
is_shared p a b (Bottle r) = has_ends p r a b
is_shared p a b (BottleToken r) = has_ends p r a b

-- a thing that a and b share starts at a; a request token starts where what it asks for doesn't
abbrev pub starts_here : PlanValue → ℕ → ℕ → Thing → Bool
starts_here p a b Fork = fork_starts_at p a b a
starts_here p a b ForkToken = not (fork_starts_at p a b a)
starts_here p a b (Bottle r) = bottle_starts_at p r a
starts_here p a b (BottleToken r) = not (bottle_starts_at p r a)
