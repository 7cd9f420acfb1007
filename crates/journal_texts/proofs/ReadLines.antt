-- What the words of a line say.
use Rattle.std.proofs.Common.{◌≡◌, ◌≢◌, ℕ, List, [], ◌∷◌, ◌++◌, length, Option, Some, None, Ok, refl, ap, arith}
use Rattle.office_map.specs.PlanValue.{PlanValue}
use Rattle.office_map.specs.PlanText.{and_then}
use Rattle.text_lines.specs.Text.{plain_words}
use Rattle.session_meaning.specs.ProgramValue.{ProgramValue}
use Rattle.journal_texts.specs.Lines.{one_program, said_by, said_of}

-- what words say, where they are the line's
pub said_is : (p : PlanValue) (line : List ℕ) (words : Option (List (List ℕ))) → words ≡ plain_words line → and_then words (said_by p) ≡ said_of p line
unfolding said_of
said_is p line words is = ap (λ w. and_then w (said_by p)) is

-- programs

pub not_one : (xs : List ProgramValue) → length xs ≢ 1 → one_program (Ok xs) ≡ None
not_one [] h = refl
not_one (x ∷ []) h = absurd (omega arith)
not_one (x ∷ y ∷ more) h = refl

pub the_one : (xs ys : List ProgramValue) (x : ProgramValue) → length xs ≡ 1 → xs ≡ ys ++ x ∷ [] → one_program (Ok xs) ≡ Some x
the_one xs [] x h e = ap (λ (l : List ProgramValue). one_program (Ok l)) e
the_one xs (y ∷ []) x h e = let len = ap (λ (l : List ProgramValue). length l) e in absurd (omega (arith, h, len))
the_one xs (y ∷ z ∷ ys) x h e = let len = ap (λ (l : List ProgramValue). length l) e in absurd (omega (arith, h, len))
