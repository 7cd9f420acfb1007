use Rattle.std.proofs.Common.{◌≡◌, drop, refl, sym, ◌∙◌, ap, arith, rules}
use Rattle.std.proofs.lemmas.List.{take_rest}
use Rattle.byteorder.specs.Endian.{big_number}
use Rattle.frame_codec.specs.Header.{number_in, count_in}
use Rattle.frame_codec.specs.refinement.DecodedParts.{code_of}
use Rattle.frame_codec.proofs.HeaderSpelling.{Opens, header_spelled, header_fault-number, header_fault-count, header_fault-none}
use Rattle.frame_codec.proofs.header.Header.read.Goals as goal

pub returns-then-not-admits-clause-fault : goal.returns-then-not-admits-clause-fault
returns-then-not-admits-clause-fault c =
    let bytes = c.args.bytes.now in
    let opens : Opens c.in-Some.version (code_of c.in-Some-of_code.kind) bytes = record { whole = c.if-bytes-lt-HEADER_LENGTH.false; d = c.if-bytes.false; p = c.if-bytes-2.false; version = c.in-Some.ensures.known; kind = c.in-Some-of_code.ensures.known } in
    let number : c.read_u64-number.result ≡ number_in bytes = c.read_u64-number.ensures ∙ ap (big_number 8) (take_rest bytes 10) in
    sym (header_fault-number _ _ _ _ opens number (sym c.if-not-admits.ensures))

pub returns-then-count-gt-MAX_NUMBER-clause-fault :
    goal.returns-then-count-gt-MAX_NUMBER-clause-fault
returns-then-count-gt-MAX_NUMBER-clause-fault c =
    let bytes = c.args.bytes.now in
    let opens : Opens c.in-Some.version (code_of c.in-Some-of_code.kind) bytes = record { whole = c.if-bytes-lt-HEADER_LENGTH.false; d = c.if-bytes.false; p = c.if-bytes-2.false; version = c.in-Some.ensures.known; kind = c.in-Some-of_code.ensures.known } in
    let number : c.read_u64-number.result ≡ number_in bytes = c.read_u64-number.ensures ∙ ap (big_number 8) (take_rest bytes 10) in
    let count : c.read_u64-count.result ≡ count_in bytes = c.read_u64-count.ensures ∙ ap (big_number 8) (take_rest bytes 18) in
    sym (header_fault-count _ _ _ _ _ opens number (sym c.if-not-admits.ensures) count (omega arith))

pub returns-clause-fault : goal.returns-clause-fault
returns-clause-fault c =
    let bytes = c.args.bytes.now in
    let opens : Opens c.in-Some.version (code_of c.in-Some-of_code.kind) bytes = record { whole = c.if-bytes-lt-HEADER_LENGTH.false; d = c.if-bytes.false; p = c.if-bytes-2.false; version = c.in-Some.ensures.known; kind = c.in-Some-of_code.ensures.known } in
    let number : c.read_u64-number.result ≡ number_in bytes = c.read_u64-number.ensures ∙ ap (big_number 8) (take_rest bytes 10) in
    let count : c.read_u64-count.result ≡ count_in bytes = c.read_u64-count.ensures ∙ ap (big_number 8) (take_rest bytes 18) in
    sym (header_fault-none _ _ _ _ _ opens number (sym c.if-not-admits.ensures) count (omega arith))

pub returns-clause-found : goal.returns-clause-found
returns-clause-found c =
    let bytes = c.args.bytes.now in
    let opens : Opens c.in-Some.version (code_of c.in-Some-of_code.kind) bytes = record { whole = c.if-bytes-lt-HEADER_LENGTH.false; d = c.if-bytes.false; p = c.if-bytes-2.false; version = c.in-Some.ensures.known; kind = c.in-Some-of_code.ensures.known } in
    let run : c.read_u32.result ≡ big_number 4 (drop 4 bytes) = c.read_u32.ensures ∙ ap (big_number 4) (take_rest bytes 4) in
    let number : c.read_u64-number.result ≡ number_in bytes = c.read_u64-number.ensures ∙ ap (big_number 8) (take_rest bytes 10) in
    let count : c.read_u64-count.result ≡ count_in bytes = c.read_u64-count.ensures ∙ ap (big_number 8) (take_rest bytes 18) in
    record {
      whole = opens.whole;
      spelled = header_spelled c.in-Some.version (code_of c.in-Some-of_code.kind) bytes _ _ _ _ _ (λ i. omega (arith, c.type_inv.bytes i)) opens run refl refl number count;
      run = search rules;
      from = search rules;
      to = search rules;
      number = sym c.if-not-admits.ensures;
      count = omega arith;
    }
