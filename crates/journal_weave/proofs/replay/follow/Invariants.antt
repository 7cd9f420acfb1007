use Rattle.std.proofs.Common.{ℕ, true, [], take}
use Rattle.office_map.specs.PlanValue.{PlanValue}
use Rattle.journal_weave.specs.Replays.{IsReplay}
use Rattle.journal_weave.proofs.replay.follow.Given as goal

-- the first of them came
abbrev pub invariant-loop-entry : goal.invariant-loop-entry
invariant-loop-entry l = (plan : PlanValue) (a : ℕ) → IsReplay plan a [] true l.initial.replay → IsReplay plan a (take l.entry-index l.entries) true l.replay
