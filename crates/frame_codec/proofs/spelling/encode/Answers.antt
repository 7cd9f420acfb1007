use Rattle.std.proofs.Common.{rules, length, take, drop, ◌++◌, sym, ap, ◌∙◌}
use Rattle.frame_codec.specs.Frame.{IsMsg}
use Rattle.frame_codec.specs.Spelling.{message}
use Rattle.frame_codec.proofs.BufferWrites.{taken, kept}
use Rattle.frame_codec.proofs.EncodeSpells.{header_written, spells_header, message_written}
use Rattle.frame_codec.proofs.spelling.encode.Goals as goal

pub returns-in-None-clause-spelled : goal.returns-in-None-clause-spelled
returns-in-None-clause-spelled c =
    let f = c.args.frame.now in
    spells_header f _ _ (sym c.msg.ensures.value ∙ c.in-None.is) c.write_header.ensures.range (header_written f c.args.out.now _ c.write_header.ensures.written)

pub returns-in-Some-clause-spelled : goal.returns-in-Some-clause-spelled
returns-in-Some-clause-spelled c =
    let f = c.args.frame.now in
    let fits : IsMsg c.in-Some.msg = search rules in
    let w = message_written f c.in-Some.msg c.args.out.now c.write_header.new.out c.write_message.new.out (sym c.msg.ensures.value ∙ c.in-Some.is) fits c.told-out (c.write_message.ensures.written ∙ ap (λ v. message v c.in-Some.msg ++ drop (length (message v c.in-Some.msg)) (take 69 (drop 26 c.write_header.new.out))) c.version.ensures) (header_written f c.args.out.now _ c.write_header.ensures.written) in
    record { in_range = c.write_header.ensures.range; is = rw (c.write_message.ensures.length ∙ ap (λ v. length (message v c.in-Some.msg)) c.version.ensures) (taken w) }

pub returns-in-Some-clause-rest : goal.returns-in-Some-clause-rest
returns-in-Some-clause-rest c =
    let f = c.args.frame.now in
    let fits : IsMsg c.in-Some.msg = search rules in
    let w = message_written f c.in-Some.msg c.args.out.now c.write_header.new.out c.write_message.new.out (sym c.msg.ensures.value ∙ c.in-Some.is) fits c.told-out (c.write_message.ensures.written ∙ ap (λ v. message v c.in-Some.msg ++ drop (length (message v c.in-Some.msg)) (take 69 (drop 26 c.write_header.new.out))) c.version.ensures) (header_written f c.args.out.now _ c.write_header.ensures.written) in
    rw (c.write_message.ensures.length ∙ ap (λ v. length (message v c.in-Some.msg)) c.version.ensures) (kept w)

pub returns-in-None-clause-rest : goal.returns-in-None-clause-rest
returns-in-None-clause-rest c = cc
