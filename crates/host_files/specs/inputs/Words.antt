-- Which texts the words of a command line have.
use Rattle.std.specs.Prelude.{◌≡◌, ◌≢◌, ◌⊎◌, ℕ, suc, ◌<◌, ◌≤◌, Bool, List, [], ◌∷◌, length, take, codes, Option, Some, None, if◌then◌else◌}
use Rattle.std.specs.List.{count_by}
use Rattle.std.specs.Str.{bytes_eq}
use Rattle.host_files.specs.inputs.Cut.{IsCut}

-- What is left of the standard input, where that is known, and how many words that are - haven't been read.
pub record Unread : Type 0 where
  pub parts : ℕ
  pub bytes : Option (List ℕ)

-- the word stands for the standard input
abbrev pub is_dash : List ℕ → Bool
is_dash word = bytes_eq word (codes "-")

-- before the first of these words is read
abbrev pub unread : Option (List ℕ) → List (List ℕ) → Unread
unread bytes words = record { parts = count_by is_dash words; bytes = bytes }

-- The text of the next word, and what is left after it. Of the last word that is - the text is all that is left of the
-- standard input, and of one before it the text up to the next cut. Of any other word it is that of the file of that
-- name.
pub data HasText (files : List ℕ → Option (List ℕ)) (u : Unread) (word text : List ℕ) (after : Unread) : Type 0 where
  file : word ≢ codes "-" → files word ≡ Some text → after ≡ u → HasText files u word text after
  last : word ≡ codes "-" → u.parts ≤ 1 → u.bytes ≡ Some text → after ≡ record { parts = 0; bytes = Some [] }
      → HasText files u word text after
  part : (n : ℕ) (rest back : List ℕ) → word ≡ codes "-" → u.parts ≡ suc (suc n) → u.bytes ≡ Some rest → IsCut rest text back
      → after ≡ record { parts = suc n; bytes = Some back } → HasText files u word text after

-- the texts of words that are read one after another
abbrev pub HaveTexts : (List ℕ → Option (List ℕ)) → Unread → List (List ℕ) → List (List ℕ) → Type 0
HaveTexts files u [] [] = Unit {0}
HaveTexts files u [] (text ∷ texts) = ⊥
HaveTexts files u (word ∷ words) [] = ⊥
HaveTexts files u (word ∷ words) (text ∷ texts) = (after : Unread) × HasText files u word text after × HaveTexts files after words texts

-- what was read of a text: the text, or where it is longer than the limit, what is longer too
abbrev pub IsReadUpTo : ℕ → List ℕ → List ℕ → Type 0
IsReadUpTo limit text read = (read ≡ text) ⊎ ((limit < length read) × (limit < length text))

-- the first so many of a command's words have these texts
abbrev pub HaveFirstTexts : (List ℕ → Option (List ℕ)) → Option (List ℕ) → List (List ℕ) → List (List ℕ) → ℕ → Type 0
HaveFirstTexts files standard words texts n =
    (n ≤ length words) × HaveTexts files (unread standard words) (take n words) (take n texts)

-- all words of a command have these texts
abbrev pub StandFor : (List ℕ → Option (List ℕ)) → Option (List ℕ) → List (List ℕ) → List (List ℕ) → Type 0
StandFor files standard words texts = HaveTexts files (unread standard words) words texts

-- of files in memory the text of the first of this name, where there is one
abbrev pub text_named : List ℕ → List (List ℕ × List ℕ) → Option (List ℕ)
text_named name [] = None
text_named name (f ∷ fs) = if bytes_eq f.0 name then Some f.1 else text_named name fs
