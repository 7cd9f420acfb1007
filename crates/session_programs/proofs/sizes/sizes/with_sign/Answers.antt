use Rattle.std.proofs.Common.{◌-◌, arith, refl, take}
use Rattle.std.specs.Vec.{vec_len}
use Rattle.session_programs.specs.declared.rank.Rank.TheVariants.{Factor}
use Rattle.session_programs.proofs.sizes_lemmas.SizeStep.{last_replaced, signed}
use Rattle.session_programs.proofs.sizes.sizes.with_sign.Goals as goal

pub returns : goal.returns
returns c w st h g =
    let k = vec_len c.args.ranks.now - 1 in
    let there = c.in-Some.ensures.variant.0 refl in
    let last = last_replaced c.args.ranks.now.items k c.in-Some.rank.now Factor (omega (arith, there)) c.in-Some.ensures.value in
    signed w c.in-Some.rank.now (take k c.args.ranks.now.items) _ c.args.ranks.now.items c.args.size c.sum.result last.0 last.1
    (rw (← c.around_factor-parentheses.ensures) c.sum.ensures) st h g
