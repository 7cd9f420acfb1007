use Rattle.std.proofs.Common.{arith}
use Rattle.office_journal.specs.declared.event.Event.TheVariants as event
use Rattle.world_schedule.proofs.Asking.{asked}
use Rattle.world_schedule.proofs.happening.act.Goals as goal

pub returns : goal.returns
returns c =
    asked c.args.offices.now.items c.args.at c.index-2.result (event.Do c.args.rule.now) c.index_mut.result.now c.act.new.self c.act.result c.passed_on.result c.index-2.ensures
    (omega (arith, c.if-index-len.false, c.index.ensures, c.index-2.ensures, c.len.ensures)) c.index_mut.ensures.value c.act.ensures c.passed_on.ensures
