use Rattle.std.proofs.Common.{take}
use Rattle.std.proofs.lemmas.List.{take_all}
use Rattle.bottle_values.specs.Maps.{write_all}
use Rattle.serial_replay.proofs.replay.write_all.Goals as goal
use Rattle.serial_replay.proofs.ValueTables as tables

pub loop-id-preserved : goal.loop-id-preserved
loop-id-preserved c = λ n m t. tables.table_written c.put.new.values.items n m c.args.writes.now c.loop-id.id-index c.loop-id-item.result c.loop-id-test.true c.loop-id-item.is
    (c.put.ensures n (write_all (take c.loop-id.id-index c.args.writes.now) m) (c.loop-id.invariant n m t))

pub returns : goal.returns
returns c = λ n m t.
    let e = take_all c.loop-id.id-index c.args.writes.now c.loop-id-test.false in
    let p = c.loop-id.invariant n m t in
    rw e at p
