-- A line of a plan, cut at its first word.
use Rattle.std.proofs.Common.{◌≡◌, ℕ, zero, suc, ◌+◌, ◌<◌, ◌≤◌, min, List, [], ◌∷◌, length, take, drop, Bool, true, false, if◌then◌else◌, refl, sym, ap, ◌∙◌, arith, ⊎_elim}
use Rattle.std.proofs.lemmas.Bool.{cases_lt}
use Rattle.std.proofs.lemmas.List.{take_all, drop_all}
use Rattle.text_lines.specs.Text.{is_blank}
use Rattle.office_map.specs.PlanWords.{others_of, words_behind, plan_words}
use Rattle.office_map.specs.PlanWordLaws.{behind_is_drop}

pub no_words : (line : List ℕ) → line ≡ [] → plan_words line ≡ []
unfolding plan_words
no_words line e = ap (words_behind 0) e

pub blank_left : (line : List ℕ) (b : ℕ) (bs : List ℕ) → line ≡ b ∷ bs → is_blank b ≡ true → plan_words line ≡ plan_words bs
unfolding plan_words
blank_left line b bs e blank =
    ap (words_behind 0) e ∙ ap (λ t. if t then words_behind 0 bs else (b ∷ take (others_of b bs) bs) ∷ words_behind (others_of b bs) bs) blank

-- the word that is no longer than what there is
word_cut : (b : ℕ) (bs : List ℕ) (m n : ℕ) → n ≡ min m (length bs) → (b ∷ take m bs) ∷ words_behind m bs ≡ (b ∷ take n bs) ∷ words_behind 0 (drop n bs)
word_cut b bs m n is = ⊎_elim
    (λ lt. let same : m ≡ n = omega (arith, is, lt) in ap (λ k. (b ∷ take k bs) ∷ words_behind k bs) same ∙ ap (λ ws. (b ∷ take n bs) ∷ ws) (behind_is_drop n bs))
    (λ ge. let all : n ≡ length bs = omega (arith, is, ge) in
    ap (λ t. (b ∷ t) ∷ words_behind m bs) (take_all m bs ge ∙ sym (take_all n bs (omega (arith, all))))
    ∙ ap (λ ws. (b ∷ take n bs) ∷ ws) (behind_is_drop m bs ∙ ap (words_behind 0) (drop_all m bs ge ∙ sym (drop_all n bs (omega (arith, all))))))
    (cases_lt m (length bs))

pub first_cut : (line : List ℕ) (b : ℕ) (bs : List ℕ) (n : ℕ) → line ≡ b ∷ bs → is_blank b ≡ false → n ≡ min (others_of b bs) (length bs) → plan_words line ≡ take (n + 1) line ∷ plan_words (drop (n + 1) line)
unfolding plan_words
first_cut line b bs n e text is =
    let one : suc n ≡ n + 1 = omega arith in
    ap (words_behind 0) e
    ∙ ap (λ t. if t then words_behind 0 bs else (b ∷ take (others_of b bs) bs) ∷ words_behind (others_of b bs) bs) text
    ∙ word_cut b bs (others_of b bs) n is
    ∙ ap (λ l. take (suc n) l ∷ words_behind 0 (drop (suc n) l)) (sym e)
    ∙ ap (λ k. take k line ∷ words_behind 0 (drop k line)) one
