use Rattle.std.proofs.Common.{◌∙◌, ap}
use Rattle.office_map.specs.PlanValue.{are_neighbours}
use Rattle.office_map.proofs.FilteredRanges.{number_kept, number_left}
use Rattle.office_map.proofs.index.neighbours.Goals as goal
use Rattle.office_map.proofs.index.neighbours.Goals.{then-are_neighbours+in_ok-push, else-are_neighbours}

pub loop-number-preserved : goal.loop-number-preserved
loop-number-preserved c =
    elim c.if-are_neighbours.branch [
      | then-are_neighbours+in_ok-push w ↦ number_kept (are_neighbours c.args.tables.now c.args.office) c.loop-number.number c.new-other.result c.are_neighbours.result c.loop-number.neighbours.items _ c.are_neighbours.ensures c.new-other.ensures w.if-are_neighbours.true c.loop-number.invariant (ap (λ v. v.items) w.neighbours-is ∙ w.in_ok-push.ensures.items)
      | else-are_neighbours w ↦ number_left (are_neighbours c.args.tables.now c.args.office) c.loop-number.number c.new-other.result c.are_neighbours.result c.loop-number.neighbours.items _ c.are_neighbours.ensures c.new-other.ensures w.if-are_neighbours.false c.loop-number.invariant (ap (λ v. v.items) w.neighbours-is)
    ]
