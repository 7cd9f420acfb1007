use Rattle.std.proofs.Common.{◌≡◌, ◌-◌, ◌≤◌, ℕ, None, length, get_or}
use Rattle.day_audits.proofs.audit.journals.empty.Given as goal

abbrev pub invariant-loop-slots : goal.invariant-loop-slots
invariant-loop-slots l = record {
  within : length l.slots.items ≤ l.offices;
  empty : (a : ℕ) → get_or l.slots.items a None ≡ None;
}

abbrev pub decreases-loop-slots : goal.decreases-loop-slots
decreases-loop-slots l = l.offices - length l.slots.items
