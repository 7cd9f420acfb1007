-- A line, cut at its first word.
use Rattle.std.proofs.Common.{◌≡◌, ℕ, ◌+◌, ◌-◌, ◌<◌, ◌≤◌, List, [], ◌∷◌, length, take, drop, get_or, not, ◌==◌, Bool, true, false, cond, nat_lt, refl, sym, ap, ◌∙◌, arith, ⊎_elim}
use Rattle.std.specs.List.{slice_split, filter, position_or_len}
use Rattle.std.proofs.lemmas.Bool.Decides.{nat_tests}
use Rattle.std.proofs.lemmas.List.{take_all, drop_all, at_drop_more, length-take-le, length-drop, get_or-drop}
use Rattle.std.proofs.lemmas.List.Splits.{slice_split-cons_yes}
use Rattle.std.proofs.lemmas.List.Sums.{passes_at_first, position_or_len_is, fails_before_first, prefix_len-le-length}
use Rattle.std.proofs.lemmas.Bool.{cases_lt}
use Rattle.text_lines.specs.Text.{is_blank, words_of}
use Rattle.text_lines.specs.TextLaws.{cut_there, cut_nowhere}

-- those of the parts that are words
abbrev words : List (List ℕ) → List (List ℕ)
words parts = filter (λ w. not (length w == 0)) parts

pub blank_dropped : (b : ℕ) (line : List ℕ) → is_blank b ≡ true → words_of (b ∷ line) ≡ words_of line
blank_dropped b line h = ap words (slice_split-cons_yes is_blank b line h)

some_bytes : (b : ℕ) (bs : List ℕ) → not (length (b ∷ bs) == 0) ≡ true
some_bytes b bs = grind (arith, nat_tests)

word_kept : (w : List ℕ) (parts : List (List ℕ)) → 0 < length w → words (w ∷ parts) ≡ w ∷ words parts
word_kept [] parts h = absurd (omega arith)
word_kept (b ∷ bs) parts h = ap (λ keep. cond keep ((b ∷ bs) ∷ words parts) (words parts)) (some_bytes b bs)

no_word : (line : List ℕ) (end : ℕ) → end ≡ position_or_len is_blank line → 0 < end → 0 < length line
no_word [] end is some = absurd (omega arith)
no_word (b ∷ bs) end is some = omega arith

-- a line that begins with a word
word_cut : (line : List ℕ) (end : ℕ) → end ≡ position_or_len is_blank line → 0 < end → words_of line ≡ take end line ∷ words_of (drop end line)
word_cut line end is some = by_test (nat_lt end (length line)) refl
  where
    by_test : (t : Bool) → nat_lt end (length line) ≡ t → words_of line ≡ take end line ∷ words_of (drop end line)
    by_test true e =
        let inside : end < length line = grind (arith, nat_tests) in
        let long : length (take end line) ≡ end = length-take-le end line (omega arith) in
        let cut : words_of line ≡ take end line ∷ words_of (drop (end + 1) line) =
        ap words (cut_there is_blank line end (take end line) (drop (end + 1) line) is inside refl refl) ∙ word_kept (take end line) (slice_split is_blank (drop (end + 1) line)) (omega (arith, long)) in
        let blank : is_blank (get_or line end 0) ≡ true = rw is (passes_at_first is_blank line 0 (rw (← is) inside)) in
        let same : words_of (drop end line) ≡ words_of (drop (end + 1) line) =
        at_drop_more words_of line end 0 inside ∙ blank_dropped (get_or line end 0) (drop (end + 1) line) blank in
        cut ∙ ap (λ ws. take end line ∷ ws) (sym same)
    by_test false e =
        let all : length line ≤ end = grind (arith, nat_tests) in
        let whole : take end line ≡ line = take_all end line all in
        let none : drop end line ≡ [] = drop_all end line all in
        rw (whole, none) (ap words (cut_nowhere is_blank line (rw (← is) all)) ∙ word_kept line [] (omega (arith, no_word line end is some)))

not_at_start : (p : ℕ → Bool) (b : ℕ) (bs : List ℕ) → p b ≡ false → 0 < position_or_len p (b ∷ bs)
not_at_start p b bs h = rw h (omega arith)

pub first_word_cut : (line : List ℕ) (b : ℕ) (bs : List ℕ) (end : ℕ) → line ≡ b ∷ bs → is_blank b ≡ false → end ≡ position_or_len is_blank line → words_of line ≡ take end line ∷ words_of (drop end line)
first_word_cut line b bs end begins black is =
    let at : 0 < position_or_len is_blank line = rw begins (not_at_start is_blank b bs black) in
    word_cut line end is (omega (arith, at, is))

-- the first place that passes, where none does before the place n, is that of the rest
pub far_place : (p : ℕ → Bool) (line : List ℕ) (n : ℕ) → n ≤ length line → ((k : ℕ) → k < n → p (get_or line k 0) ≡ false) → n + position_or_len p (drop n line) ≡ position_or_len p line
far_place p line n inside none = sym (position_or_len_is p line (n + far) 0 bound before (λ lt. ap p (at far) ∙ passes_at_first p (drop n line) 0 (omega (arith, lt, long))))
  where
    far : ℕ
    far = position_or_len p (drop n line)

    long : length (drop n line) ≡ length line - n
    long = length-drop n line

    bound : n + far ≤ length line
    bound = omega (arith, inside, long, prefix_len-le-length (λ b. not (p b)) (drop n line))

    at : (k : ℕ) → get_or line (n + k) 0 ≡ get_or (drop n line) k 0
    at k = sym (get_or-drop n line k 0)

    before : (k : ℕ) → k < n + far → p (get_or line k 0) ≡ false
    before k lt = ⊎_elim (none k) (λ ge. let same : n + (k - n) ≡ k = omega (arith, ge) in ap (λ i. p (get_or line i 0)) (sym same) ∙ ap p (at (k - n)) ∙ fails_before_first p (drop n line) (k - n) 0 (omega (arith, ge, lt))) (cases_lt k n)
