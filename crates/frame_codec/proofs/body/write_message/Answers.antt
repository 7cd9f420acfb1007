use Rattle.std.proofs.Common.{◌≡◌, IsTrue, ◌≤◌, ◌+◌, length, drop, [], ◌++◌, refl, ap, ◌∙◌, arith, rules}
use Rattle.bottle_values.specs.Operations.{is_value}
use Rattle.byteorder.specs.Endian.{big_bytes}
use Rattle.frame_codec.specs.declared.message.Msg.{Msg}
use Rattle.frame_codec.specs.declared.message.Msg.TheVariants.{Bottle}
use Rattle.frame_codec.specs.Spelling.{message, value_bytes}
use Rattle.frame_codec.proofs.BufferWrites.{Written, write_byte, write_field}
use Rattle.frame_codec.proofs.EncodeSpells.{length-value-le}
use Rattle.frame_codec.proofs.body.write_message.Goals as goal

pub returns-in-Bottle-clause-written : goal.returns-in-Bottle-clause-written
returns-in-Bottle-clause-written c =
    let out = c.args.out.now in
    let room : 69 ≤ length out = c.requires.room in
    let fits : IsTrue (is_value c.in-Bottle.value) = search rules in
    let w0 : Written 0 [] out out = record { len = refl; is = refl } in
    let w1 = write_byte 0 4 (omega arith) w0 in
    let w3 = write_field 1 2 (big_bytes 2 c.in-Bottle.bottle) _ refl (omega arith) c.write_u16-in-Bottle.ensures w1 in
    let value = value_bytes c.args.version c.in-Bottle.value in
    let w = write_field 3 (length value) value _ refl (omega (arith, room, length-value-le c.args.version c.in-Bottle.value fits)) c.write_value.ensures.written w3 in
    let whole : Msg = Bottle c.in-Bottle.bottle c.in-Bottle.value in
    let size : 3 + length value ≡ length (message c.args.version whole) = omega arith in
    rw c.in-Bottle.is (w.is ∙ ap (λ k. message c.args.version whole ++ drop k out) size)

pub returns-in-AskFork-clause-written : goal.returns-in-AskFork-clause-written
returns-in-AskFork-clause-written c = search rules
