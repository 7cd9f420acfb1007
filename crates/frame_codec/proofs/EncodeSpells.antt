-- What is written is the spelling.
use Rattle.std.proofs.Common.{◌≡◌, ℕ, ◌+◌, ◌≤◌, IsTrue, List, ◌++◌, length, take, drop, Option, Some, None, refl, sym, ap, ◌∙◌, arith}
use Rattle.std.proofs.lemmas.Bool.{leb-true, and_parts}
use Rattle.std.proofs.lemmas.List.{append-nil}
use borrow.Rule.Slice.PartMut.{put_mid}
use Rattle.bottle_values.specs.Operations.{is_value}
use Rattle.bottle_values.specs.declared.Value.{Value}
use Rattle.bottle_values.specs.declared.Value.TheVariants.{Number, Text}
use Rattle.bottle_values.specs.declared.version.Version.{Version}
use Rattle.bottle_values.specs.declared.version.Version.TheVariants.{One, Two}
use Rattle.frame_codec.specs.declared.message.Msg.{Msg}
use Rattle.frame_codec.specs.declared.message.Msg.TheVariants.{AskFork, Fork, AskBottle, Bottle}
use Rattle.frame_codec.specs.Frame.{Fields, IsFrame, IsMsg}
use Rattle.frame_codec.specs.Header.{header, kind_of}
use Rattle.frame_codec.specs.Spelling.{Spells, value_bytes, body, spelling, message}
use Rattle.frame_codec.proofs.BufferWrites.{Written, write_part, taken}

-- what stands in the buffer once the header is written
pub header_written : (f : Fields) (old new : List ℕ) → new ≡ header (kind_of f.msg) f ++ drop 26 old → Written 26 (header (kind_of f.msg) f) old new
header_written f old new is = record { len = refl; is = is }

-- a frame without a message
pub spells_header : (f : Fields) (old new : List ℕ) → f.msg ≡ None → IsFrame f → Written 26 (header (kind_of f.msg) f) old new → Spells (take 26 new) f
unfolding spelling
spells_header f old new none fits w = record {
  in_range = fits;
  is = taken w ∙ sym (append-nil _) ∙ ap (λ (m : Option Msg). header (kind_of f.msg) f ++ body f.version m) (sym none);
}

pub length-value-le : (version : Version) (v : Value) → IsTrue (is_value v) → length (value_bytes version v) ≤ 66
length-value-le One (Number z) fits = omega arith
length-value-le One (Text t) fits = omega arith
length-value-le Two (Number z) fits = omega arith
length-value-le Two (Text t) fits = let size = leb-true (length t) 64 (and_parts _ _ fits).0 in omega (arith, size)

length-message-le : (version : Version) (m : Msg) → IsMsg m → length (message version m) ≤ 69
length-message-le version AskFork fits = omega arith
length-message-le version Fork fits = omega arith
length-message-le version (AskBottle b) fits = omega arith
length-message-le version (Bottle b v) fits = omega (arith, length-value-le version v fits.1)

-- the message behind the header
pub message_written : (f : Fields) (m : Msg) (old new part : List ℕ) → f.msg ≡ Some m → IsMsg m → length old ≡ 95
    → part ≡ message f.version m ++ drop (length (message f.version m)) (take 69 (drop 26 new)) → Written 26 (header (kind_of f.msg) f) old new
    → Written (26 + length (message f.version m)) (spelling f) old (put_mid 26 69 new part)
unfolding spelling
message_written f m old new part some fits size is w =
    let short = length-message-le f.version m fits in
    let written = write_part 26 (length (message f.version m)) 69 (message f.version m) part refl (omega arith) short is w in
    let spelled : header (kind_of f.msg) f ++ message f.version m ≡ spelling f = ap (λ (b : Option Msg). header (kind_of f.msg) f ++ body f.version b) (sym some) in
    record { len = ap length (sym spelled) ∙ written.len; is = written.is ∙ ap (λ (l : List ℕ). l ++ drop (26 + length (message f.version m)) old) spelled }
