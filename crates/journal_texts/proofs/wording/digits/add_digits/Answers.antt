use Rattle.std.proofs.Common.{ℕ, ◌<◌, List, [], ◌∷◌, sym, ap, subst, arith, lit<}
use Rattle.std.specs.Result.{result_ok}
use Rattle.std.specs.Str.{IsAscii}
use Rattle.std.proofs.lemmas.Str.{IsUtf8-from_ascii}
use Rattle.std.proofs.lemmas.Str.Ascii.{IsAscii-nil, IsAscii-cons}
use Rattle.hex.specs.Hex.{IsBytes, lower_digits}
use Rattle.hex.proofs.HexLemmas.{decode_of-encode_lower, IsAscii-encode_with}
use Rattle.journal_texts.proofs.wording.digits.add_digits.Goals as goal

-- bytes below 128
abbrev Low : List ℕ → Type 0
Low [] = Unit {0}
Low (b ∷ bs) = (b < 128) × Low bs

ascii_of : (bs : List ℕ) → Low bs → IsAscii bs
ascii_of [] h = IsAscii-nil
ascii_of (b ∷ bs) h = IsAscii-cons b bs h.0 (ascii_of bs h.1)

ascii : IsAscii lower_digits
ascii = ascii_of lower_digits (lit< tt, (lit< tt, (lit< tt, (lit< tt, (lit< tt, (lit< tt, (lit< tt, (lit< tt, (lit< tt, (lit< tt, (lit< tt, (lit< tt, (lit< tt, (lit< tt, (lit< tt, (lit< tt, tt))))))))))))))))

pub unreachable-requires-in-Err : goal.unreachable-requires-in-Err
unreachable-requires-in-Err c =
    c.in-Err.ensures.cases.0 (IsUtf8-from_ascii c.encode_to_slice.new.output (subst IsAscii (sym c.in-Ok.ensures.written) (IsAscii-encode_with lower_digits c.args.bytes.now ascii)))

pub returns-clause-reads_back : goal.returns-clause-reads_back
returns-clause-reads_back c =
    let fits : IsBytes c.args.bytes.now = λ i. let f = c.type_inv.bytes i in omega arith in
    ap result_ok (decode_of-encode_lower c.args.bytes.now fits)
