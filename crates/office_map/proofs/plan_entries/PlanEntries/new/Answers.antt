use Rattle.std.proofs.Common.{false}
use Rattle.office_map.specs.refinement.RecordCounts.{pair_index}
use Rattle.office_map.proofs.AcceptedPlans.{empty}
use Rattle.office_map.proofs.RecordCountsKept.{nothing_kept}
use Rattle.office_map.proofs.plan_entries.PlanEntries.new.Goals as goal

pub invariant_of-result : goal.invariant_of-result
invariant_of-result c =
    rw (c.new.ensures.items, c.new-2.ensures.items, c.new-3.ensures) (empty c.args.version c.args.run, λ a b la lb. nothing_kept 0 256 (pair_index a b), λ a b la lb. nothing_kept false 256 (pair_index a b))
