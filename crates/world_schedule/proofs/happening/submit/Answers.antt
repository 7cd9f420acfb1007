use Rattle.std.proofs.Common.{arith}
use Rattle.office_journal.specs.declared.event.Event.TheVariants as event
use Rattle.world_schedule.proofs.Asking.{asked}
use Rattle.world_schedule.proofs.happening.submit.Goals as goal

pub returns : goal.returns
returns c =
    asked c.args.offices.now.items c.args.at c.index-2.result (event.Submit c.args.program.now) c.index_mut.result.now c.submit.new.self c.submit.result c.passed_on.result c.index-2.ensures
    (omega (arith, c.if-index-len.false, c.index.ensures, c.index-2.ensures, c.len.ensures)) c.index_mut.ensures.value c.submit.ensures c.passed_on.ensures
