use Rattle.std.proofs.Common.{◌≡◌, length}
use Rattle.journal_weave.proofs.FollowFirst.{FollowFirst}
use Rattle.journal_weave.proofs.weaving.replays_of.Given as goal

abbrev pub invariant-loop-a : goal.invariant-loop-a
invariant-loop-a l = record {
  count : length l.replays.items ≡ l.a;
  follow : FollowFirst l.plan l.journals l.replays.items;
}
