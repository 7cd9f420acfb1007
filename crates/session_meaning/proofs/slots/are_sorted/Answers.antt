use Rattle.std.proofs.Common.{arith}
use Rattle.session_meaning.proofs.working_copies.SortedSlots.{sorted_more}
use Rattle.session_meaning.proofs.slots.are_sorted.Goals as goal

pub loop-i-preserved : goal.loop-i-preserved
loop-i-preserved c = sorted_more c.args.slots.now c.loop-i.i c.index-slots-i-in-loop-i.result c.index-slots-i.result c.loop-i.invariant c.loop-i-test.true (omega arith)
