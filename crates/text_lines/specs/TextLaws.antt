-- What follows of lines, of lists that are cut, and of names.
use Rattle.std.proofs.Common.{◌≡◌, ℕ, ◌+◌, ◌<◌, ◌≤◌, List, [], ◌∷◌, length, take, drop, Bool, true, false, Result, Ok, Err, Some, None, Bor, if◌then◌else◌, refl, sym, ap, ◌∙◌, arith}
use Rattle.std.specs.List.{list_all, slice_split, before_first, after_first, position_or_len}
use Rattle.std.specs.Option.{option_copied}
use Rattle.std.specs.Result.{MatchResult, result_ok}
use Rattle.std.specs.Str.{IsUtf8}
use Rattle.std.specs.Str.Lines.{lines_of_parts, strip_carriage_return}
use Rattle.std.proofs.lemmas.List.Splits.{slice_split_first, slice_split_none, length-slice_split}
use Rattle.std.proofs.lemmas.List.Elements.{All-from_get_or}
use Rattle.std.proofs.lemmas.List.Sums.{fails_before_first}
use Rattle.std.proofs.lemmas.Bool.{and_parts, and_from}
use Rattle.std.proofs.lemmas.Bool.Decides.{nat_tests}
use Rattle.text_lines.specs.short.Names.{is_short, is_short_byte}
use Rattle.text_lines.specs.Text.{lines, is_newline, is_name, is_name_byte, name_of}

-- a list, cut at the first element that passes
pub cut_there : (p : ℕ → Bool) (word : List ℕ) (at : ℕ) (front back : List ℕ) → at ≡ position_or_len p word → at < length word → front ≡ take at word → back ≡ drop (at + 1) word → slice_split p word ≡ front ∷ slice_split p back
cut_there p word at front back is h ahead behind =
    let inside : position_or_len p word < length word = rw (← is) h in
    let one : before_first p word ≡ front = rw (ahead, is) refl in
    let two : after_first p word ≡ back = rw (behind, is) refl in
    slice_split_first p word 0 inside ∙ ap (λ l. l ∷ slice_split p (after_first p word)) one ∙ ap (λ r. front ∷ slice_split p r) two

-- a list that has none
pub cut_nowhere : (p : ℕ → Bool) (word : List ℕ) → length word ≤ position_or_len p word → slice_split p word ≡ word ∷ []
cut_nowhere p word none =
    slice_split_none p word (All-from_get_or (λ b. p b ≡ false) word 0 (λ i lt. fails_before_first p word i 0 (omega arith)))

-- a list that is cut has at least one part
pub some_parts : (p : ℕ → Bool) (word : List ℕ) → 0 < length (slice_split p word)
some_parts p word = omega (arith, length-slice_split p word)

several : (x : List ℕ) (ps : List (List ℕ)) → 0 < length ps → lines_of_parts (x ∷ ps) ≡ strip_carriage_return x ∷ lines_of_parts ps
several x [] h = absurd (omega arith)
several x (y ∷ ys) h = refl

-- up to the first LF, and after it
pub lines_cut : (text : List ℕ) (at : ℕ) (line after : List ℕ) → at ≡ position_or_len is_newline text → at < length text → line ≡ strip_carriage_return (take at text) → after ≡ drop (at + 1) text → lines text ≡ line ∷ lines after
lines_cut text at line after is h front back =
    let inside : position_or_len is_newline text < length text = rw (← is) h in
    let one : lines text ≡ strip_carriage_return (before_first is_newline text) ∷ lines (after_first is_newline text) =
    ap lines_of_parts (slice_split_first is_newline text 0 inside) ∙ several (before_first is_newline text) (slice_split is_newline (after_first is_newline text)) (some_parts is_newline (after_first is_newline text)) in
    let two : strip_carriage_return (before_first is_newline text) ≡ line = rw (front, is) refl in
    let three : after_first is_newline text ≡ after = rw (back, is) refl in
    one ∙ ap (λ l. l ∷ lines (after_first is_newline text)) two ∙ ap (λ r. line ∷ lines r) three

-- the text that UTF-8 bytes are
pub text_of : {E : Type 0} (X : E → Type 0) (word : List ℕ) (r : Result (Bor (List ℕ)) E) → MatchResult r (λ s. (s.now ≡ word) × IsUtf8 word) (λ e. ¬ (IsUtf8 word) × X e) → IsUtf8 word → option_copied (result_ok r) ≡ Some word
text_of X word (Ok s) h text = ap Some h.0
text_of X word (Err e) h text = absurd (h.0 text)

-- a word that is taken for a name is one
pub is_named : (word name : List ℕ) → name_of word ≡ Some name → is_name name ≡ true
is_named word name h = by_test (is_name word) refl h
  where
    by_test : (b : Bool) → is_name word ≡ b → (if b then Some word else None) ≡ Some name → is_name name ≡ true
    by_test true e k = let same : word ≡ name = (cc) in ap is_name (sym same) ∙ e
    by_test false e k = (cc)

short_byte : (b : ℕ) → is_name_byte b ≡ true → is_short_byte b ≡ true
short_byte b h = grind (arith, nat_tests)

short_bytes : (word : List ℕ) → list_all is_name_byte word ≡ true → list_all is_short_byte word ≡ true
short_bytes [] h = refl
short_bytes (b ∷ bs) h =
    let parts = and_parts (is_name_byte b) (list_all is_name_byte bs) h in
    and_from (is_short_byte b) (list_all is_short_byte bs) (short_byte b parts.0) (short_bytes bs parts.1)

-- a name is short
pub name_is_short : (word : List ℕ) → is_name word ≡ true → is_short word ≡ true
name_is_short [] h = (cc)
name_is_short (b ∷ bs) h =
    let parts = and_parts _ _ h in
    and_from _ _ (and_parts _ _ parts.0).1 (short_bytes (b ∷ bs) (and_parts _ _ parts.1).0)
