use Rattle.std.proofs.Common.{◌≡◌, length, sym, ap, arith}
use Rattle.office_map.proofs.LeastFirstOrders.{none_awaited}
use Rattle.office_map.proofs.precedence.awaited.Goals as goal

pub returns : goal.returns
returns c =
    let over : length c.args.tables.now.pairs ≡ length c.pairs-pair-items.result.now = ap length (sym c.pairs-pair-items.ensures.all) in
    none_awaited c.args.tables.now c.args.placed.now c.args.office (λ k d lt. c.loop-pair.invariant k d (omega (arith, lt, over, c.loop-pair-test.false)))
