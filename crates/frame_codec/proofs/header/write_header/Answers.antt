use Rattle.std.proofs.Common.{◌≤◌, length, [], refl, arith, rules}
use Rattle.std.specs.Prelude.{IfSome}
use Rattle.frame_codec.specs.Frame.{IsMsg}
use Rattle.byteorder.specs.Endian.{big_bytes}
use Rattle.frame_codec.proofs.BufferWrites.{Written, write_byte, write_field}
use Rattle.frame_codec.proofs.header.write_header.Goals as goal

pub returns-clause-written : goal.returns-clause-written
returns-clause-written c =
    let out = c.args.out.now in
    let room : 26 ≤ length out = c.requires in
    let w0 : Written 0 [] out out = record { len = refl; is = refl } in
    let w1 = write_byte 0 0x44 (omega arith) w0 in
    let w2 = write_byte 1 0x50 (omega arith) w1 in
    let w3 = write_byte 2 c.number.result (omega arith) w2 in
    let w4 = write_byte 3 c.kind_byte.result (omega arith) w3 in
    let w8 = write_field 4 4 (big_bytes 4 c.run.result) _ refl (omega arith) c.write_u32.ensures w4 in
    let w9 = write_byte 8 c.from.result (omega arith) w8 in
    let w10 = write_byte 9 c.to.result (omega arith) w9 in
    let w18 = write_field 10 8 (big_bytes 8 c.number-2.result) _ refl (omega arith) c.write_u64.ensures w10 in
    let w26 = write_field 18 8 (big_bytes 8 c.count.result) _ refl (omega arith) c.write_u64-2.ensures w18 in
    let written = w26.is in
    cc

pub returns-clause-range : goal.returns-clause-range
returns-clause-range c =
    let m : IfSome c.msg.result IsMsg = search rules in
    record {
      run = search rules;
      from = search rules;
      to = search rules;
      number = rw (← c.number-2.ensures.value) c.number-2.ensures.range;
      count = search rules;
      msg = rw (← c.msg.ensures.value) m;
      carried = rw (← c.msg.ensures.value) c.msg.ensures.carried;
    }
