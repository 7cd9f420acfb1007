-- A line, cut at its first blank.
use Rattle.std.proofs.Common.{◌≡◌, ℕ, zero, suc, ◌+◌, ◌<◌, ◌≤◌, List, [], ◌∷◌, length, take, drop, not, ◌==◌, Bool, true, false, cond, nat_lt, slice_index, Option, Some, None, unwrap_or, refl, sym, ap, ◌∙◌, arith}
use Rattle.std.specs.List.{slice_split, filter, position_or_len}
use Rattle.std.proofs.lemmas.Bool.Decides.{nat_tests}
use Rattle.std.proofs.lemmas.List.{take_all, drop_all, length-take-le}
use Rattle.std.proofs.lemmas.List.Sums.{position_or_len_is, prefix_len-le-length}
use Rattle.memchr.specs.Find.{IsFirstByte}
use Rattle.text_lines.specs.Text.{is_blank, words_of}
use Rattle.text_lines.specs.TextLaws.{cut_there, cut_nowhere}
use Rattle.text_lines.specs.marked.refinement.Marks.{put_before}

some_bytes : (b : ℕ) (bs : List ℕ) → not (length (b ∷ bs) == 0) ≡ true
some_bytes b bs = grind (arith, nat_tests)

-- a part is a word where it has bytes
part_kept : (w : List ℕ) (parts : List (List ℕ)) → filter (λ v. not (length v == 0)) (w ∷ parts) ≡ put_before w (filter (λ v. not (length v == 0)) parts)
part_kept [] parts = refl
part_kept (b ∷ bs) parts = ap (λ keep. cond keep ((b ∷ bs) ∷ filter (λ v. not (length v == 0)) parts) (filter (λ v. not (length v == 0)) parts)) (some_bytes b bs)

pub words_cut : (line : List ℕ) (at : ℕ) → at ≡ position_or_len is_blank line → words_of line ≡ put_before (take at line) (words_of (drop (at + 1) line))
words_cut line at is = by_test (nat_lt at (length line)) refl
  where
    by_test : (t : Bool) → nat_lt at (length line) ≡ t → words_of line ≡ put_before (take at line) (words_of (drop (at + 1) line))
    by_test true e =
        let inside : at < length line = grind (arith, nat_tests) in
        ap (filter (λ v. not (length v == 0))) (cut_there is_blank line at (take at line) (drop (at + 1) line) is inside refl refl) ∙ part_kept (take at line) (slice_split is_blank (drop (at + 1) line))
    by_test false e =
        let all : length line ≤ at = grind (arith, nat_tests) in
        let whole : take at line ≡ line = take_all at line all in
        let none : drop (at + 1) line ≡ [] = drop_all (at + 1) line (omega (arith, all)) in
        rw (whole, none) (ap (filter (λ v. not (length v == 0))) (cut_nowhere is_blank line (omega (arith, all, is))) ∙ part_kept line [])

pub blank_within : (text : List ℕ) (end at : ℕ) → end ≤ length text → at ≡ position_or_len is_blank (take end text) → at ≤ end
blank_within text end at within is = omega (arith, is, length-take-le end text within, prefix_len-le-length (λ b. not (is_blank b)) (take end text))

pub taken_of_line : (at end : ℕ) (text : List ℕ) → at ≤ end → take at (take end text) ≡ take at text
taken_of_line zero end text le = refl
taken_of_line (suc n) zero text le = absurd (omega (arith, le))
taken_of_line (suc n) (suc m) [] le = refl
taken_of_line (suc n) (suc m) (x ∷ xs) le = ap (λ l. x ∷ l) (taken_of_line n m xs (omega (arith, le)))

-- what was cut is the next word, or nothing
pub word_told : (w : List ℕ) (more all : List (List ℕ)) → all ≡ put_before w more → 0 < length w → all ≡ w ∷ more
word_told [] more all is some = absurd (omega (arith, some))
word_told (b ∷ bs) more all is some = is

pub no_word_told : (w : List ℕ) (more all : List (List ℕ)) → all ≡ put_before w more → length w ≡ 0 → all ≡ more
no_word_told [] more all is none = is
no_word_told (b ∷ bs) more all is none = absurd (omega (arith, none))

not_true : (b : Bool) → (b ≡ true → ⊥) → b ≡ false
not_true true h = absurd (h refl)
not_true false h = refl

-- what a search of bytes answers
pub first_place : (p : ℕ → Bool) (line : List ℕ) (r : Option ℕ) → IsFirstByte p line r → unwrap_or r (length line) ≡ position_or_len p line
first_place p line None h = sym (position_or_len_is p line (length line) 0 (omega arith) (λ k lt. not_true (p (slice_index line k)) (h k (omega arith) lt)) (λ lt. absurd (omega arith)))
first_place p line (Some i) h = sym (position_or_len_is p line i 0 (omega (arith, h.0.high)) (λ k lt. not_true (p (slice_index line k)) (h.0.before k (omega arith) lt)) (λ lt. h.1))
