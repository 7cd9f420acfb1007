use Rattle.std.proofs.Common.{arith}
use Rattle.office_journal.specs.declared.event.Event.TheVariants as event
use Rattle.world_schedule.proofs.Asking.{asked}
use Rattle.world_schedule.proofs.happening.withdraw.Goals as goal

pub returns : goal.returns
returns c =
    asked c.args.offices.now.items c.args.at c.index-2.result (event.Withdraw c.args.ticket) c.index_mut.result.now c.withdraw.new.self c.withdraw.result c.passed_on.result c.index-2.ensures
    (omega (arith, c.if-index-len.false, c.index.ensures, c.index-2.ensures, c.len.ensures)) c.index_mut.ensures.value c.withdraw.ensures c.passed_on.ensures
