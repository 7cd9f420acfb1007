use Rattle.std.proofs.Common.{arith, ◌∙◌}
use Rattle.office_journal.specs.declared.event.Event.TheVariants as event
use Rattle.world_schedule.proofs.Asking.{asked}
use Rattle.world_schedule.proofs.happening.deliver.Goals as goal

pub returns : goal.returns
returns c =
    asked c.args.offices.now.items c.args.frame.now.to c.index-2.result (event.Took c.args.frame.now) c.index_mut.result.now c.take.new.self c.take.result c.passed_on.result (c.index-2.ensures ∙ c.new-at.ensures ∙ c.to.ensures)
    (omega (arith, c.if-index-len.false, c.index.ensures, c.index-2.ensures, c.len.ensures)) c.index_mut.ensures.value c.take.ensures c.passed_on.ensures
