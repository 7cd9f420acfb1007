-- A line of words is cut into these words.
use Rattle.std.proofs.Common.{◌≡◌, ℕ, List, [], ◌∷◌, ◌++◌, length, Bool, true, false, not, ◌&&◌, ◌==◌, nat_lt, cond, Some, None, if◌then◌else◌, refl, ap, ap₂, ◌∙◌, arith}
use Rattle.std.specs.Prelude.{filter}
use Rattle.std.specs.List.{list_all, slice_split, onto_first}
use Rattle.std.proofs.lemmas.Bool.{and_parts}
use Rattle.std.proofs.lemmas.Bool.Decides.{nat_tests}
use Rattle.std.proofs.lemmas.List.Folds.{list_all-append}
use Rattle.std.proofs.lemmas.List.Splits.{slice_split-cons_no}
use Rattle.text_lines.specs.Text.{is_blank, is_plain, words_of}
use Rattle.journal_texts.specs.wording.Words.{is_visible, is_word, line_of_words, LinesAreCutIntoTheirWords}

no_blank : (b : ℕ) → is_visible b ≡ true → is_blank b ≡ false
no_blank b h = grind (arith, nat_tests)

plain_byte : (b : ℕ) → is_visible b ≡ true → is_plain b ≡ true
plain_byte b h = grind (arith, nat_tests)

abbrev Visible : List ℕ → Type 0
Visible w = list_all is_visible w ≡ true

split_last : (w : List ℕ) → Visible w → slice_split is_blank w ≡ w ∷ []
split_last [] h = refl
split_last (b ∷ w) h =
    let parts = and_parts (is_visible b) (list_all is_visible w) h in
    slice_split-cons_no is_blank b w (no_blank b parts.0) ∙ ap (onto_first b) (split_last w parts.1)

split_first : (w rest : List ℕ) → Visible w → slice_split is_blank (w ++ 32 ∷ rest) ≡ w ∷ slice_split is_blank rest
split_first [] rest h = refl
split_first (b ∷ w) rest h =
    let parts = and_parts (is_visible b) (list_all is_visible w) h in
    slice_split-cons_no is_blank b (w ++ 32 ∷ rest) (no_blank b parts.0) ∙ ap (onto_first b) (split_first w rest parts.1)

plain_word : (w : List ℕ) → Visible w → list_all is_plain w ≡ true
plain_word [] h = refl
plain_word (b ∷ w) h =
    let parts = and_parts (is_visible b) (list_all is_visible w) h in
    ap₂ (λ x y. x && y) (plain_byte b parts.0) (plain_word w parts.1)

abbrev has_bytes : List ℕ → Bool
has_bytes w = not (length w == 0)

kept : (w : List ℕ) (ws : List (List ℕ)) → is_word w ≡ true → filter has_bytes (w ∷ ws) ≡ w ∷ filter has_bytes ws
kept [] ws h = (cc)
kept (b ∷ w) ws h =
    let some : (length (b ∷ w) == 0) ≡ false = grind (arith, nat_tests) in
    ap (λ x. cond (not x) ((b ∷ w) ∷ filter has_bytes ws) (filter has_bytes ws)) some

one_word : (w : List ℕ) → is_word w ≡ true → words_of w ≡ w ∷ []
one_word w h = ap (filter has_bytes) (split_last w (and_parts (nat_lt 0 (length w)) (list_all is_visible w) h).1) ∙ kept w [] h

more_words : (w rest : List ℕ) → is_word w ≡ true → words_of (w ++ 32 ∷ rest) ≡ w ∷ words_of rest
more_words w rest h = ap (filter has_bytes) (split_first w rest (and_parts (nat_lt 0 (length w)) (list_all is_visible w) h).1) ∙ kept w (slice_split is_blank rest) h

plain_first : (w rest : List ℕ) → is_word w ≡ true → list_all is_plain rest ≡ true → list_all is_plain (w ++ 32 ∷ rest) ≡ true
plain_first w rest h more =
    list_all-append is_plain w (32 ∷ rest) ∙ ap (λ b. b && list_all is_plain (32 ∷ rest)) (plain_word w (and_parts (nat_lt 0 (length w)) (list_all is_visible w) h).1) ∙ more

-- a line that is plain and has these words
pub record IsLineOf (ws : List (List ℕ)) (line : List ℕ) : Type 0 where
  pub plain : list_all is_plain line ≡ true
  pub words : words_of line ≡ ws

pub line_of : (ws : List (List ℕ)) → list_all is_word ws ≡ true → IsLineOf ws (line_of_words ws)
line_of [] h = record { plain = refl; words = refl }
line_of (w ∷ []) h =
    let word = (and_parts (is_word w) true h).0 in
    record { plain = plain_word w (and_parts (nat_lt 0 (length w)) (list_all is_visible w) word).1; words = one_word w word }
line_of (w ∷ v ∷ ws) h =
    let parts = and_parts (is_word w) (list_all is_word (v ∷ ws)) h in
    let rest = line_of (v ∷ ws) parts.1 in
    record { plain = plain_first w (line_of_words (v ∷ ws)) parts.0 rest.plain; words = more_words w (line_of_words (v ∷ ws)) parts.0 ∙ ap (λ x. w ∷ x) rest.words }

pub lines_are_cut : LinesAreCutIntoTheirWords
lines_are_cut ws h =
    let line = line_of ws h in
    ap (λ b. if b then Some (words_of (line_of_words ws)) else None) line.plain ∙ ap Some line.words
