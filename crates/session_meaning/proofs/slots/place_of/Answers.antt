use Rattle.std.proofs.Common.{arith}
use Rattle.session_meaning.proofs.working_copies.SortedSlots.{below, above}
use Rattle.session_meaning.proofs.slots.place_of.Goals as goal

pub loop-low-preserved-then-index : goal.loop-low-preserved-then-index
loop-low-preserved-then-index c =
    record {
      before = below c.args.slots.now c.requires c.args.id _ c.index-slots-middle.result (omega arith) (omega arith);
      after = c.loop-low.invariant.after;
      order = omega arith;
      within = c.loop-low.invariant.within;
    }

pub loop-low-preserved : goal.loop-low-preserved
loop-low-preserved c = record {
  before = c.loop-low.invariant.before;
  after = above c.args.slots.now c.requires c.args.id _ c.index-slots-middle.result (omega arith) (omega arith);
  order = omega arith;
  within = omega arith;
}
