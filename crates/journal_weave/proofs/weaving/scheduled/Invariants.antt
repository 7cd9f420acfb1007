use Rattle.std.proofs.Common.{◌≡◌, ◌≤◌, ◌-◌, ℕ, List, length, map, sum}
use Rattle.journal_weave.specs.contracts.key.FrameKeyOrd.TheImpl.{cmp-value}
use Rattle.office_journal.specs.declared.event.Entry.{Entry}
use Rattle.journal_weave.specs.Replays.{given}
use Rattle.journal_weave.specs.refinement.Merging.{AreFollowed, IsMerged, IsWithin}
use Rattle.journal_weave.proofs.weaving.scheduled.Given as goal

abbrev pub invariant-loop-merge : goal.invariant-loop-merge
invariant-loop-merge l = record {
  size : length l.merge.at.items ≡ length l.replays;
  turn : l.merge.turn ≤ length l.replays;
  within : IsWithin l.replays l.merge;
  merged : (told : ℕ → List Entry) → AreFollowed l.plan told l.replays → IsMerged cmp-value.it l.replays l.plan told l.merge l.schedule.items;
}

abbrev pub decreases-loop-merge : goal.decreases-loop-merge
decreases-loop-merge l = sum (map given l.replays) - sum l.merge.at.items
