-- Words of digits: which bytes they are, and that no frame is longer than 95 bytes.
use Rattle.std.proofs.Common.{◌≡◌, ℕ, ◌%◌, ◌<◌, ◌≤◌, List, ◌++◌, length, true, false, ◌&&◌, nat_lt, nat_le, IsTrue, Option, Some, None, Result, Ok, Err, refl, sym, ap, ap₂, ◌∙◌, subst, arith}
use Rattle.std.specs.Prelude.{IfSome}
use Rattle.std.specs.List.{list_all}
use Rattle.std.specs.Result.{result_ok}
use Rattle.std.proofs.lemmas.Bool.{and_parts, leb-true}
use Rattle.std.proofs.lemmas.Bool.Decides.{nat_tests}
use Rattle.std.proofs.lemmas.List.Sums.{AllPass-from_list_all, list_all-from_AllPass}
use Rattle.hex.specs.Hex.{decode_of, is_hex_digit}
use Rattle.hex.specs.declared.error.FromHexError.{FromHexError}
use Rattle.hex.proofs.HexLemmas.{decode_of-ok, decode_of-odd, decode_of-digits}
use Rattle.bottle_values.specs.ListLaws.{all_weaker}
use Rattle.bottle_values.specs.Texts.{is_text, is_text_byte, longest_text}
use Rattle.bottle_values.specs.declared.Value.TheVariants.{Number, Text}
use Rattle.bottle_values.specs.declared.version.Version.{Version}
use Rattle.bottle_values.specs.declared.version.Version.TheVariants.{One, Two}
use Rattle.frame_codec.specs.declared.fault.FrameFault.{FrameFault}
use Rattle.frame_codec.specs.declared.message.Msg.{Msg}
use Rattle.frame_codec.specs.declared.message.Msg.TheVariants.{AskFork, Fork, AskBottle, Bottle}
use Rattle.frame_codec.specs.Frame.{Fields, IsMsg}
use Rattle.frame_codec.specs.Header.{header, kind_of}
use Rattle.frame_codec.specs.Spelling.{Spells, spelling, body}
use Rattle.journal_texts.specs.wording.Words.{is_visible, is_word}
use Rattle.journal_texts.specs.wording.Digits.{bytes_in}

-- what was decoded
some_bytes : (r : Result (List ℕ) FromHexError) (bytes : List ℕ) → result_ok r ≡ Some bytes → r ≡ Ok bytes
some_bytes (Ok x) bytes h = (cc)
some_bytes (Err e) bytes h = (cc)

pub decoded : (word bytes : List ℕ) → bytes_in word ≡ Some bytes → decode_of word ≡ Ok bytes
decoded word bytes h = some_bytes (decode_of word) bytes h

-- an odd number of digits are no bytes
pub odd_digits : (word : List ℕ) → length word % 2 ≡ 1 → bytes_in word ≡ None
odd_digits word odd = ap result_ok (decode_of-odd word odd)

-- nor is a word with something else than digits
pub other_digits : (word : List ℕ) → list_all is_hex_digit word ≡ false → bytes_in word ≡ None
other_digits word h = go (decode_of word) refl
  where
    go : (r : Result (List ℕ) FromHexError) → decode_of word ≡ r → result_ok r ≡ None
    go (Err e) is = refl
    go (Ok bytes) is = let all = list_all-from_AllPass is_hex_digit word (decode_of-ok word bytes is).1 in cc (sym all ∙ h)

-- no text has more than 64 bytes
short_text : (t : List ℕ) → IsTrue (is_text t) → length t ≤ 64
short_text t h = leb-true _ _ (and_parts (nat_le (length t) longest_text) (list_all is_text_byte t) h).0

-- a frame has 26 to 95 bytes
size : (k : ℕ) (f : Fields) (version : Version) (msg : Option Msg) → IfSome msg IsMsg → (26 ≤ length (header k f ++ body version msg)) × (length (header k f ++ body version msg) ≤ 95)
size k f version None is = (omega arith, omega arith)
size k f version (Some AskFork) is = (omega arith, omega arith)
size k f version (Some Fork) is = (omega arith, omega arith)
size k f version (Some (AskBottle r)) is = (omega arith, omega arith)
size k f One (Some (Bottle r (Number z))) is = (omega arith, omega arith)
size k f One (Some (Bottle r (Text t))) is = (omega arith, omega arith)
size k f Two (Some (Bottle r (Number z))) is = (omega arith, omega arith)
size k f Two (Some (Bottle r (Text t))) is = let short = short_text t is.1 in (omega (arith, short), omega (arith, short))

pub frame_size : (bytes : List ℕ) (f : Fields) → Spells bytes f → (26 ≤ length bytes) × (length bytes ≤ 95)
unfolding spelling
frame_size bytes f h = subst (λ bs. (26 ≤ length bs) × (length bs ≤ 95)) (sym h.is) (size (kind_of f.msg) f f.version f.msg h.in_range.msg)

-- so more digits spell none
pub longer_digits : (word : List ℕ) → length word % 2 ≡ 0 → list_all is_hex_digit word ≡ true → 190 < length word
    → (bytes : List ℕ) × (bytes_in word ≡ Some bytes) × ((f : Fields) → Spells bytes f → ⊥)
longer_digits word even all long =
    let r = decode_of-digits word even (AllPass-from_list_all is_hex_digit word all) in
    let twice = (decode_of-ok word r.0 r.1).2 in
    (r.0, ap result_ok r.1, λ f h. let few = (frame_size r.0 f h).1 in omega (arith, twice, few, long))

-- what isn't decoded is no frame
pub no_frame : (bytes : List ℕ) (r : Result Fields FrameFault) (e : FrameFault) → ((f : Fields) → Spells bytes f → r ≡ Ok f) → r ≡ Err e → (f : Fields) → Spells bytes f → ⊥
no_frame bytes r e only is f h = cc (sym (only f h) ∙ is)

-- digits of bytes are a word
visible_digit : (c : ℕ) → is_hex_digit c ≡ true → is_visible c ≡ true
visible_digit c h = grind (arith, nat_tests)

pub digits_are_a_word : (word bytes : List ℕ) → bytes_in word ≡ Some bytes → 0 < length bytes → is_word word ≡ true
digits_are_a_word word bytes h some =
    let ok = decode_of-ok word bytes (decoded word bytes h) in
    let twice = ok.2 in
    let long : 0 < length word = omega (arith, twice, some) in
    let first : nat_lt 0 (length word) ≡ true = grind (arith, nat_tests) in
    ap₂ (λ x y. x && y) first (all_weaker is_hex_digit is_visible visible_digit word (list_all-from_AllPass is_hex_digit word ok.1))
