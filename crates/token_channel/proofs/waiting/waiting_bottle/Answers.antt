use Rattle.std.proofs.Common.{◌≤◌, ◌+◌, Bool, true, false, ap, sym, ◌∙◌, arith}
use Rattle.std.specs.List.{slice_get}
use Rattle.bottle_values.specs.Lists.{num}
use Rattle.token_channel.specs.declared.thing.Thing.TheVariants.{Bottle}
use Rattle.token_channel.specs.Places.{shares}
use Rattle.token_channel.proofs.waiting.waiting_bottle.Goals as goal

num_le : (b : Bool) → num b ≤ 1
num_le true = omega arith
num_le false = omega arith

pub returns-in_err-i-clause-once : goal.returns-in_err-i-clause-once
returns-in_err-i-clause-once c =
    let v = c.args.channel.now in
    omega (arith, c.waiting.ensures.apart (Bottle c.args.r), num_le (shares v.places (Bottle c.args.r)))

pub returns-clause-told : goal.returns-clause-told
returns-clause-told c =
    let i = c.in_ok-i.i in
    (i, ap (λ n. n + 1 + i) c.acked.ensures.value, ap (λ ms. slice_get ms i) (sym c.waiting.ensures.value) ∙ c.in_ok-i.ensures.some)

pub returns-clause-once : goal.returns-clause-once
returns-clause-once c =
    let v = c.args.channel.now in
    omega (arith, c.waiting.ensures.apart (Bottle c.args.r), num_le (shares v.places (Bottle c.args.r)))
