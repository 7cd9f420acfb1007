use Rattle.std.proofs.Common.{◌≡◌, ◌+◌, ◌<◌, ◌≤◌, ℕ, [], length}
use mathlib.Core.List.{IsPrefix}
use Rattle.own_lock.specs.Entries.{tagged}
use Rattle.own_lock.specs.Passes.{fresh_pass}
use Rattle.locked_office.specs.Calls.{Stays, tag_of}
use Rattle.office_runs.proofs.Dealing.{Dealt}
use Rattle.office_runs.proofs.met.meet_all.Given as goal

-- those that are left have the first tags, and of the others' tags there is no entry
abbrev pub invariant-loop-pass : goal.invariant-loop-pass
invariant-loop-pass l = record {
  stays : Stays l.desk l.fn.own l.own;
  seen : IsPrefix l.fn.own.seen l.own.seen;
  mine : l.own.mine ≡ l.fn.own.mine;
  left : Dealt (fresh_pass l.desk tag_of []) 2 (length l.rest.items) l.rest.items;
  none : (t : ℕ) → 2 + length l.rest.items ≤ t → t < 2 + length l.fn.rest.items → tagged tag_of t l.fn.own.seen ≡ [];
}

abbrev pub decreases-loop-pass : goal.decreases-loop-pass
decreases-loop-pass l = length l.rest.items
