-- What a pair of neighbours shares, each once, and which message carries it.
use Rattle.std.specs.Prelude.{ℕ, ◌+◌, Bool, true, false, ◌==◌, if◌then◌else◌, List, [], ◌∷◌}
use Rattle.frame_codec.specs.declared.message.Msg.{Msg}
use Rattle.frame_codec.specs.declared.message.Msg.TheVariants.{AskFork, Fork, AskBottle, Bottle}
use Rattle.token_channel.specs.declared.thing.Thing.{Thing}
use Rattle.token_channel.specs.declared.thing.Thing.TheVariants.{Fork as TheFork, ForkToken, Bottle as TheBottle, BottleToken}
use Rattle.bottle_values.specs.Lists.{num}

-- what a message carries
abbrev pub thing_of : Msg → Thing
thing_of AskFork = ForkToken
thing_of Fork = TheFork
thing_of (AskBottle r) = BottleToken r
thing_of (Bottle r value) = TheBottle r

-- whether two things are one
abbrev pub same : Thing → Thing → Bool
same TheFork TheFork = true
same ForkToken ForkToken = true
same (TheBottle r) (TheBottle q) = r == q
same (BottleToken r) (BottleToken q) = r == q
same _ _ = false

-- how many of the messages carry the thing
abbrev pub count_carrying : Thing → List Msg → ℕ
count_carrying t [] = 0
count_carrying t (m ∷ ms) = num (same t (thing_of m)) + count_carrying t ms

-- what is held, where one thing came or went
abbrev pub hold : (Thing → Bool) → Thing → Bool → Thing → Bool
hold held t b u = if same u t then b else held u
