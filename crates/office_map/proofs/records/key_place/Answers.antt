use Rattle.std.proofs.Common.{◌<◌, ◌^◌, arith}
use Rattle.std.proofs.lemmas.Nat.{shr_below}
use Rattle.office_map.proofs.records.key_place.Goals as goal

pub returns-clause-within : goal.returns-clause-within
returns-clause-within c =
    let fits : c.key.result < 2 ^ 64 = omega (arith, c.key.type_inv) in
    shr_below c.key.result 8 56 fits
