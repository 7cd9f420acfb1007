-- What waits at an office for another, and how far ahead of its addressee a frame is.
use Rattle.std.specs.Prelude.{◌≡◌, ℕ, ◌+◌, ◌*◌, ◌≤◌, true, Some, length}
use Rattle.bottle_values.specs.Lists.{num}
use Rattle.frame_codec.specs.Frame.{Fields}
use Rattle.office_map.specs.PlanValue.{are_neighbours, records_between}
use Rattle.window_link.specs.Limits.{most_waiting}
use Rattle.token_channel.specs.declared.thing.Thing.{Thing}
use Rattle.token_channel.specs.Things.{count_carrying}
use Rattle.token_channel.specs.Ends.{is_shared}
use Rattle.site_core.specs.Pairs.{held}
use Rattle.frame_world.specs.Worlds.{World, frame_at}
use Rattle.frame_world.specs.Ways.{pairs_at}

-- what an office shares with another is held there, or waits there once for the other, or neither
abbrev pub EachIsHeldOrWaits : World → Type 0
EachIsHeldOrWaits w = (a v : ℕ) (t : Thing) → num (held (pairs_at w a) v t) + count_carrying t ((pairs_at w a).link v).sending.waiting ≤ num (is_shared w.plan a v t)

-- of B records between two neighbours at most 2 + 2B messages wait at either
abbrev pub FewMessagesWait : World → Type 0
FewMessagesWait w = (a v : ℕ) → are_neighbours w.plan a v ≡ true → length ((pairs_at w a).link v).sending.waiting ≤ 2 + 2 * records_between w.plan a v

-- no frame that was ever sent has a number more than 18 past what its addressee took, now and whenever it comes
abbrev pub NoFrameIsFarAhead : World → Type 0
NoFrameIsFarAhead w = (k : ℕ) (f : Fields) → frame_at w k ≡ Some f → f.number ≤ ((pairs_at w f.to).link f.from).receiving.taken + most_waiting
