use Rattle.std.proofs.Common.{◌∙◌}
use Rattle.serial_command.proofs.Rows.{report_is}
use Rattle.serial_command.proofs.serial.end_of.Goals as goal

pub returns-clause-report : goal.returns-clause-report
returns-clause-report c =
    let outcomes = rw c.deref.ensures.value at c.in_ok-replay.ensures.outcomes in
    let values = rw c.deref.ensures.value at c.in_ok-replay.ensures.values in
    c.in_ok-text.ensures
    ∙ report_is c.args.form c.args.found.plan c.deref-2.result.now _ c.deref-3.result.now c.in_ok-replay.replay.values.items _ (c.deref-2.ensures.value ∙ outcomes) c.deref-3.ensures.value values

pub returns-clause-values : goal.returns-clause-values
returns-clause-values c = rw c.deref.ensures.value at c.in_ok-replay.ensures.values
