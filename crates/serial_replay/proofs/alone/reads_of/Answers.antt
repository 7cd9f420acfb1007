use Rattle.std.proofs.Common.{◌∙◌, sym}
use Rattle.serial_replay.proofs.alone.reads_of.Goals as goal
use Rattle.serial_replay.proofs.ReadsInOrder.{zip_more}

pub loop-i-preserved : goal.loop-i-preserved
loop-i-preserved c =
    let p = rw c.loop-i.invariant at c.in_ok-push.ensures.pushed in
    let q = rw c.index-needs-i.is at p in
    let s = rw c.index-values-i.is at q in
    s ∙ sym (zip_more c.args.needs.now c.args.values.now c.loop-i.i c.index-needs-i.result c.index-values-i.result c.loop-i-test.true c.requires)
