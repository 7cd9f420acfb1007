-- A text, cut at its first LF.
use Rattle.std.proofs.Common.{◌≡◌, ℕ, ◌<◌, ◌≤◌, List, [], ◌∷◌, length, true, false, Bool, Option, refl, sym, arith, ap, ◌∙◌, slice_index, cond, nat_lt, Some, None, unwrap_or}
use Rattle.std.specs.List.{position_or_len}
use Rattle.std.specs.Str.Lines.{lines_of_parts}
use Rattle.std.proofs.lemmas.List.Splits.{slice_split_none}
use Rattle.std.proofs.lemmas.List.Elements.{All-from_get_or}
use Rattle.std.proofs.lemmas.List.Sums.{fails_before_first, position_or_len_is}
use Rattle.std.proofs.lemmas.Bool.Decides.{nat_tests}
use Rattle.memchr.specs.Find.{IsFirstByte}
use Rattle.text_lines.specs.Text.{lines, is_newline}

-- the first place that passes, or the length
pub or_len : (text : List ℕ) (at : ℕ) → at ≤ length text → unwrap_or (cond (nat_lt at (length text)) (Some at) None) (length text) ≡ at
or_len text at h = grind (arith, nat_tests)

not_empty : (text : List ℕ) → 0 < length text → lines_of_parts (text ∷ []) ≡ text ∷ []
not_empty [] h = absurd (omega arith)
not_empty (b ∷ bs) h = grind (arith, nat_tests)

-- the one line of a text with no LF
pub lines_whole : (text : List ℕ) → 0 < length text → length text ≤ position_or_len is_newline text → lines text ≡ text ∷ lines []
lines_whole text some none =
    ap lines_of_parts (slice_split_none is_newline text (All-from_get_or (λ b. is_newline b ≡ false) text 0 (λ i lt. fails_before_first is_newline text i 0 (omega arith))))
    ∙ not_empty text some

not_true : (b : Bool) → (b ≡ true → ⊥) → b ≡ false
not_true true h = absurd (h refl)
not_true false h = refl

-- what a search of bytes answers
pub first_place : (p : ℕ → Bool) (text : List ℕ) (r : Option ℕ) → IsFirstByte p text r → unwrap_or r (length text) ≡ position_or_len p text
first_place p text None h = sym (position_or_len_is p text (length text) 0 (omega arith) (λ k lt. not_true (p (slice_index text k)) (h k (omega arith) lt)) (λ lt. absurd (omega arith)))
first_place p text (Some i) h = sym (position_or_len_is p text i 0 (omega (arith, h.0.high)) (λ k lt. not_true (p (slice_index text k)) (h.0.before k (omega arith) lt)) (λ lt. h.1))
