use Rattle.std.proofs.Common.{arith}
use Rattle.std.proofs.lemmas.Fmt.{length-decimal-le}
use Rattle.itoa.proofs.Decimal.{length_one, length_step_wide}
use Rattle.session_programs.proofs.sizes.sizes.digits.Goals as goal

pub overflow_add-count : goal.overflow_add-count
overflow_add-count c =
    let few = length-decimal-le 20 c.args.n (omega arith) (omega arith) (omega arith) in
    omega arith

pub loop-rest-preserved : goal.loop-rest-preserved
loop-rest-preserved c =
    let step = length_step_wide c.loop-rest.rest (omega arith) (omega arith) in
    omega arith

pub returns-clause-count : goal.returns-clause-count
returns-clause-count c =
    let one = length_one c.loop-rest.rest (omega arith) in
    omega arith

pub returns-clause-few : goal.returns-clause-few
returns-clause-few c =
    let few = length-decimal-le 20 c.args.n (omega arith) (omega arith) (omega arith) in
    let one = length_one c.loop-rest.rest (omega arith) in
    omega arith
