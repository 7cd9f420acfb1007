use Rattle.std.proofs.Common.{refl}
use Rattle.office_map.proofs.FilteredRanges.{index_more}
use Rattle.office_map.proofs.index.index.Goals as goal

pub loop-number-preserved : goal.loop-number-preserved
loop-number-preserved c =
    rw (c.in_ok-push.ensures.items, c.loop-number.invariant, index_more c.args.tables.now c.loop-number.number, c.in_ok-of.ensures, c.new.ensures) refl
