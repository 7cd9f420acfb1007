-- The words of a plan's line are those of every text, but where one begins with ".
use Rattle.std.proofs.Common.{◌≡◌, ℕ, zero, suc, ◌+◌, List, [], ◌∷◌, take, drop, Bool, true, false, not, cond, ◌||◌, ◌⊎◌, inl, inr, if◌then◌else◌, refl, sym, ap, ◌∙◌, arith}
use Rattle.std.specs.List.{list_any}
use Rattle.std.proofs.lemmas.Bool.{or_left, or_right}
use Rattle.text_lines.specs.Text.{is_blank, words_of}
use Rattle.text_lines.proofs.FirstWord.{blank_dropped, first_word_cut}
use Rattle.office_map.specs.PlanWords.{is_quote, unspaced, quoted, others_of, words_behind, plan_words}
use Rattle.office_map.specs.PlanWordLaws.{begins_text}

-- the same where " is a byte like others
abbrev plain_behind : ℕ → List ℕ → List (List ℕ)
plain_behind k [] = []
plain_behind (suc k) (b ∷ bs) = plain_behind k bs
plain_behind zero (b ∷ bs) = if is_blank b then plain_behind zero bs else (b ∷ take (unspaced bs) bs) ∷ plain_behind (unspaced bs) bs

plain_is : (k : ℕ) (line : List ℕ) → plain_behind k line ≡ words_of (drop k line)
plain_is zero [] = refl
plain_is (suc k) [] = refl
plain_is (suc k) (b ∷ bs) = plain_is k bs
plain_is zero (b ∷ bs) = by_blank (is_blank b) refl (plain_is zero bs) (plain_is (unspaced bs) bs)
  where
    by_blank : (t : Bool) → is_blank b ≡ t → plain_behind 0 bs ≡ words_of bs → plain_behind (unspaced bs) bs ≡ words_of (drop (unspaced bs) bs)
        → (if t then plain_behind 0 bs else (b ∷ take (unspaced bs) bs) ∷ plain_behind (unspaced bs) bs) ≡ words_of (b ∷ bs)
    by_blank true e next behind = next ∙ sym (blank_dropped b bs e)
    by_blank false e next behind =
        let long : suc (unspaced bs) ≡ unspaced (b ∷ bs) = omega (arith, ap (λ t. cond (not t) (1 + unspaced bs) 0) e) in
        ap (λ ws. (b ∷ take (unspaced bs) bs) ∷ ws) behind ∙ sym (first_word_cut (b ∷ bs) b bs (suc (unspaced bs)) refl e long)

-- they are the same, or each has a word that begins with "
abbrev pub AreAlike : List (List ℕ) → List (List ℕ) → Type 0
AreAlike xs ys = (xs ≡ ys) ⊎ ((list_any begins_text xs ≡ true) × (list_any begins_text ys ≡ true))

one_more : (w : List ℕ) (xs ys : List (List ℕ)) → AreAlike xs ys → AreAlike (w ∷ xs) (w ∷ ys)
one_more w xs ys (inl e) = inl (ap (λ l. w ∷ l) e)
one_more w xs ys (inr h) = inr (or_right (begins_text w) (list_any begins_text xs) h.0, or_right (begins_text w) (list_any begins_text ys) h.1)

alike : (k : ℕ) (line : List ℕ) → AreAlike (words_behind k line) (plain_behind k line)
alike k [] = inl refl
alike (suc k) (b ∷ bs) = alike k bs
alike zero (b ∷ bs) = by_tests (is_blank b) (is_quote b) refl (alike zero bs) (alike (unspaced bs) bs)
  where
    far : ℕ
    far = quoted bs + unspaced (drop (quoted bs) bs)

    by_tests : (t q : Bool) → is_quote b ≡ q → AreAlike (words_behind zero bs) (plain_behind zero bs) → AreAlike (words_behind (unspaced bs) bs) (plain_behind (unspaced bs) bs)
        → AreAlike (if t then words_behind zero bs else (b ∷ take (if q then far else unspaced bs) bs) ∷ words_behind (if q then far else unspaced bs) bs) (if t then plain_behind zero bs else (b ∷ take (unspaced bs) bs) ∷ plain_behind (unspaced bs) bs)
    by_tests true q e next behind = next
    by_tests false true e next behind = inr (
      or_left (is_quote b) (list_any begins_text (words_behind far bs)) e,
      or_left (is_quote b) (list_any begins_text (plain_behind (unspaced bs) bs)) e,
    )
    by_tests false false e next behind = one_more (b ∷ take (unspaced bs) bs) (words_behind (unspaced bs) bs) (plain_behind (unspaced bs) bs) behind

moved : (xs ys zs : List (List ℕ)) → ys ≡ zs → AreAlike xs ys → AreAlike xs zs
moved xs ys zs e (inl h) = inl (h ∙ e)
moved xs ys zs e (inr h) = inr (h.0, ap (list_any begins_text) (sym e) ∙ h.1)

pub words_alike : (line : List ℕ) → AreAlike (plan_words line) (words_of line)
unfolding plan_words
words_alike line = moved (words_behind 0 line) (plain_behind 0 line) (words_of line) (plain_is 0 line) (alike 0 line)
