use Rattle.std.proofs.Common.{◌∙◌, ap}
use Rattle.office_map.specs.PlanValue.{is_end}
use Rattle.office_map.proofs.FilteredRanges.{number_kept, number_left}
use Rattle.office_map.proofs.index.records.Goals as goal
use Rattle.office_map.proofs.index.records.Goals.{then-has_end+in_ok-push, else-has_end}

pub loop-number-preserved : goal.loop-number-preserved
loop-number-preserved c =
    elim c.if-has_end.branch [
      | then-has_end+in_ok-push w ↦ number_kept (λ r. is_end c.args.tables.now r c.args.office) c.loop-number.number c.new-record.result c.has_end.result c.loop-number.records.items _ c.has_end.ensures c.new-record.ensures w.if-has_end.true c.loop-number.invariant (ap (λ v. v.items) w.records-is ∙ w.in_ok-push.ensures.items)
      | else-has_end w ↦ number_left (λ r. is_end c.args.tables.now r c.args.office) c.loop-number.number c.new-record.result c.has_end.result c.loop-number.records.items _ c.has_end.ensures c.new-record.ensures w.if-has_end.false c.loop-number.invariant (ap (λ v. v.items) w.records-is)
    ]
