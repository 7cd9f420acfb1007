-- A line of a plan is cut into the words that it is made of.
use Rattle.std.proofs.Common.{◌≡◌, ℕ, List, [], ◌∷◌, ◌++◌, length, Bool, true, false, not, ◌&&◌, ◌||◌, nat_lt, nat_le, Some, None, is_some, if◌then◌else◌, refl, sym, ap, ap₂, ◌∙◌, arith, append_assoc}
use Rattle.std.specs.List.{list_all}
use Rattle.std.proofs.lemmas.Bool.{and_parts, and_from}
use Rattle.std.proofs.lemmas.Bool.Decides.{nat_tests}
use Rattle.std.proofs.lemmas.List.Folds.{list_all-append}
use Rattle.bottle_values.specs.ListLaws.{all_weaker}
use Rattle.bottle_values.specs.Texts.{is_text, is_text_byte}
use Rattle.bottle_values.specs.Printed.{quoted}
use Rattle.office_map.specs.PlanWords.{is_quote, plan_words, plain_plan_words}
use Rattle.office_map.specs.PlanWordLaws.{begins_text, name_is_no_text, plain_then, plain_last, text_then, text_last}
use Rattle.text_lines.specs.Text.{is_blank, is_plain, name_of}
use Rattle.journal_texts.specs.wording.Words.{is_visible, is_word, line_of_words}

-- a word that ends with a space behind it, or with the line
pub record IsCut (w : List ℕ) : Type 0 where
  pub plain : list_all is_plain w ≡ true
  pub before : (rest : List ℕ) → plan_words (w ++ 32 ∷ rest) ≡ w ∷ plan_words rest
  pub last : plan_words w ≡ w ∷ []

abbrev pub AreCut : List (List ℕ) → Type 0
AreCut [] = Unit {0}
AreCut (w ∷ ws) = IsCut w × AreCut ws

no_blank : (b : ℕ) → is_visible b ≡ true → not (is_blank b) ≡ true
no_blank b h = grind (arith, nat_tests)

plain_byte : (b : ℕ) → is_visible b ≡ true → is_plain b ≡ true
plain_byte b h = grind (arith, nat_tests)

text_is_plain : (b : ℕ) → is_text_byte b ≡ true → is_plain b ≡ true
text_is_plain b h = grind (arith, nat_tests)

-- words of visible bytes that don't begin with "
pub cut_word : (w : List ℕ) → is_word w ≡ true → begins_text w ≡ false → IsCut w
cut_word [] h e = absurd cc
cut_word (b ∷ w) h e =
    let visible : list_all is_visible (b ∷ w) ≡ true = (and_parts (nat_lt 0 (length (b ∷ w))) (list_all is_visible (b ∷ w)) h).1 in
    let unspaced = all_weaker is_visible (λ c. not (is_blank c)) no_blank (b ∷ w) visible in
    record {
      plain = all_weaker is_visible is_plain plain_byte (b ∷ w) visible;
      before = λ rest. plain_then b w rest unspaced e;
      last = plain_last b w unspaced e;
    }

-- and texts between two "
pub cut_text : (t : List ℕ) → is_text t ≡ true → IsCut (quoted t)
cut_text t h =
    let bytes : list_all is_text_byte t ≡ true = (and_parts (nat_le (length t) 64) (list_all is_text_byte t) h).1 in
    record {
      plain = list_all-append is_plain t (34 ∷ []) ∙ ap (λ b. b && list_all is_plain (34 ∷ [])) (all_weaker is_text_byte is_plain text_is_plain t bytes);
      before = λ rest. text_then t rest h;
      last = text_last t h;
    }

-- names
pub cut_name : (w : List ℕ) → is_word w ≡ true → name_of w ≡ Some w → IsCut w
cut_name w h e = cut_word w h (name_is_no_text w (ap is_some e))

plain_first : (w rest : List ℕ) → list_all is_plain w ≡ true → list_all is_plain rest ≡ true → list_all is_plain (w ++ 32 ∷ rest) ≡ true
plain_first w rest h more = list_all-append is_plain w (32 ∷ rest) ∙ ap (λ b. b && list_all is_plain (32 ∷ rest)) h ∙ more

-- a line that is plain and has these words
record IsLineOf (ws : List (List ℕ)) (line : List ℕ) : Type 0 where
  plain : list_all is_plain line ≡ true
  words : plan_words line ≡ ws

no_words : plan_words [] ≡ []
unfolding plan_words
no_words = refl

line_of : (ws : List (List ℕ)) → AreCut ws → IsLineOf ws (line_of_words ws)
line_of [] h = record { plain = refl; words = no_words }
line_of (w ∷ []) h = record { plain = h.0.plain; words = h.0.last }
line_of (w ∷ v ∷ ws) h =
    let rest = line_of (v ∷ ws) h.1 in
    record { plain = plain_first w (line_of_words (v ∷ ws)) h.0.plain rest.plain; words = h.0.before (line_of_words (v ∷ ws)) ∙ ap (λ x. w ∷ x) rest.words }

pub line_is_plain : (ws : List (List ℕ)) → AreCut ws → list_all is_plain (line_of_words ws) ≡ true
line_is_plain ws h = (line_of ws h).plain

pub line_is_cut : (ws : List (List ℕ)) → AreCut ws → plain_plan_words (line_of_words ws) ≡ Some ws
line_is_cut ws h =
    let line = line_of ws h in
    ap (λ b. if b then Some (plan_words (line_of_words ws)) else None) line.plain ∙ ap Some line.words
