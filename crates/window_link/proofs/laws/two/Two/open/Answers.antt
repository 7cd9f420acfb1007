use Rattle.window_link.proofs.RunsExtended.{keeps_ends}
use Rattle.window_link.proofs.laws.two.Two.open.Goals as goal

pub invariant_of-result : goal.invariant_of-result
invariant_of-result c =
    keeps_ends (record { run = c.args.run; left = c.args.left; right = c.args.right; version = c.args.version }) _ _ _ c.open.ensures c.open-2.ensures c.new.ensures.items

pub returns : goal.returns
returns c = cc
