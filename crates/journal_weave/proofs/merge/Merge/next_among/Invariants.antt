use Rattle.std.proofs.Common.{◌≡◌}
use Rattle.journal_weave.specs.contracts.key.FrameKeyOrd.TheImpl.{cmp-value}
use Rattle.journal_weave.proofs.Turns.{StuckBetween}
use Rattle.journal_weave.proofs.merge.Merge.next_among.Given as goal

abbrev pub invariant-loop-a : goal.invariant-loop-a
invariant-loop-a l = record {
  same : l.self ≡ l.initial.self;
  stuck : StuckBetween cmp-value.it l.replays l.initial.self l.fn.first l.a;
}
