use Rattle.std.proofs.Common.{◌*◌, ◌+◌, ◌-◌, arith, ap, sym, ◌∙◌, slice_index_or}
use Rattle.std.proofs.lemmas.List.Sums.{fold_more}
use Rattle.text_lines.proofs.Digits.{room_below, next_power, digit_at}
use Rattle.text_lines.proofs.numbers.digits.Goals as goal

pub overflow_mul-value : goal.overflow_mul-value
overflow_mul-value c = let room = room_below c.loop-b.b-index (omega arith) in omega (arith, c.loop-b.invariant, room)

pub overflow_add-value : goal.overflow_add-value
overflow_add-value c =
    let room = room_below c.loop-b.b-index (omega arith) in
    let digit = digit_at c.args.word.now c.loop-b.b-index c.requires.digits (omega arith) in
    omega (arith, c.loop-b.invariant, room, digit)

pub loop-b-preserved : goal.loop-b-preserved
loop-b-preserved c =
    let digit = digit_at c.args.word.now c.loop-b.b-index c.requires.digits (omega arith) in
    let power = next_power c.loop-b.b-index in
    let more = fold_more (λ n b. 10 * n + (b - 48)) 0 c.args.word.now c.loop-b.b-index 0 (omega arith) in
    (ap (λ v. 10 * v + (slice_index_or c.args.word.now c.loop-b.b-index 0 - 48)) c.loop-b.invariant.0 ∙ sym more, omega (arith, c.loop-b.invariant, power, digit))
