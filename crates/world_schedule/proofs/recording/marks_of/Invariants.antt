use Rattle.std.proofs.Common.{◌≡◌, ℕ, ◌<◌, List, length, map, take, get_or}
use Rattle.session_meaning.specs.declared.ending.Outcome.{Outcome}
use Rattle.world_schedule.specs.Readers.{mark_of}
use Rattle.world_schedule.specs.refinement.Orders.{TellInOrder}
use Rattle.world_schedule.proofs.Orders.{seen_of}
use Rattle.world_schedule.proofs.recording.marks_of.Given as goal

-- the first of them are listed, and so many of each office were seen among their offices
abbrev pub invariant-loop-office : goal.invariant-loop-office
invariant-loop-office l = record {
  places : length l.seen ≡ 16;
  seen : (a : ℕ) → a < 16 → ◌≡◌ {A = ℕ} (get_or l.seen a 0) (seen_of a l.office-index l.order);
  listed : (os : List Outcome) → TellInOrder l.offices os l.order → l.marks.items ≡ map mark_of (take l.office-index os);
}
