use Rattle.std.proofs.Common.{◌≡◌, Some, ap, ◌∙◌, arith}
use Rattle.std.specs.String.{string_bytes}
use Rattle.std.specs.Result.{result_ok}
use Rattle.std.proofs.lemmas.Result.{IfOk-weaker}
use Rattle.hex.specs.Hex.{IsBytes, encode_lower}
use Rattle.hex.proofs.HexLemmas.{decode_of-encode_lower}
use Rattle.journal_texts.specs.wording.Digits.{bytes_in}
use Rattle.journal_texts.proofs.wording.digits.digits.Goals as goal

pub returns-clause-reads_back : goal.returns-clause-reads_back
returns-clause-reads_back c =
    let fits : IsBytes c.args.bytes.now = λ i. let f = c.type_inv.bytes i in omega arith in
    IfOk-weaker c.encode.result (λ t. string_bytes t ≡ encode_lower c.args.bytes.now) (λ t. bytes_in (string_bytes t) ≡ Some c.args.bytes.now)
    (λ t e. ap bytes_in e ∙ ap result_ok (decode_of-encode_lower c.args.bytes.now fits)) c.encode.ensures
