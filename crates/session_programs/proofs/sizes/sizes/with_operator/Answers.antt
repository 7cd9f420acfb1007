use Rattle.std.proofs.Common.{◌-◌, arith, refl, take, rules}
use Rattle.std.specs.Vec.{vec_len}
use Rattle.session_programs.proofs.sizes_lemmas.SizeStep.{last_replaced, operated}
use Rattle.session_programs.proofs.sizes.sizes.with_operator.Goals as goal

pub returns : goal.returns
returns c w st h g =
    let popped = c.pop.new.self in
    let k = vec_len popped - 1 in
    let there = c.in-Some-last_mut.ensures.variant.0 refl in
    let last = last_replaced popped.items k c.in-Some-last_mut.left.now c.rank_over.result (omega (arith, there)) c.in-Some-last_mut.ensures.value in
    operated w c.args.operator c.in-Some-last_mut.left.now c.in-Some.right c.rank_over.result (take k popped.items) _ c.args.ranks.now.items c.args.size c.sum.result c.rank_over.ensures
    (search rules) last.1 (search rules) st h g
