-- The program of a ticket, looked for entry by entry.
use Rattle.std.proofs.Common.{◌≡◌, ℕ, ◌+◌, List, [], ◌∷◌, drop, refl, zero, suc, Option, Some, None, sym, ap, ◌∙◌}
use Rattle.std.specs.Prelude.{slice_get}
use Rattle.std.proofs.lemmas.List.{drop_more}
use Rattle.std.proofs.lemmas.Option.{none-some, slice_get_within, get_or_from_slice_get}
use Rattle.session_meaning.specs.ProgramValue.{ProgramValue}
use Rattle.office_journal.specs.declared.event.Entry.{Entry}
use Rattle.office_stations.specs.remarks.Left.{or_else, program_with, submitted_as}

-- what is left of a list, where its next element is known
pub rest_at : (xs : List Entry) (i : ℕ) (x : Entry) → slice_get xs i ≡ Some x → drop i xs ≡ x ∷ drop (i + 1) xs
rest_at xs i x at = drop_more xs i x (slice_get_within xs i x at) ∙ ap (λ y. y ∷ drop (i + 1) xs) (get_or_from_slice_get xs i x x at)

-- the entry at this place submits it, so it is that program
pub found : (k : ℕ) (xs : List Entry) (i : ℕ) (x : Entry) (o : Option ProgramValue) (p : ProgramValue) → slice_get xs i ≡ Some x → program_with k (drop i xs) ≡ program_with k xs → o ≡ submitted_as k x.event x.reply → o ≡ Some p → Some p ≡ program_with k xs
found k xs i x o p at so_far is some =
    sym (ap (λ y. or_else y (program_with k (drop (i + 1) xs))) (sym is ∙ some)) ∙ sym (ap (program_with k) (rest_at xs i x at)) ∙ so_far

-- it doesn't, so it is one of those behind it
pub not_here : (k : ℕ) (xs : List Entry) (i : ℕ) (x : Entry) (o : Option ProgramValue) → slice_get xs i ≡ Some x → program_with k (drop i xs) ≡ program_with k xs → o ≡ submitted_as k x.event x.reply → o ≡ None → program_with k (drop (i + 1) xs) ≡ program_with k xs
not_here k xs i x o at so_far is none =
    sym (ap (λ y. or_else y (program_with k (drop (i + 1) xs))) (sym is ∙ none)) ∙ sym (ap (program_with k) (rest_at xs i x at)) ∙ so_far

past : (xs : List Entry) (i : ℕ) → slice_get xs i ≡ None → drop i xs ≡ []
past [] zero none = refl
past [] (suc i) none = refl
past (x ∷ xs) zero none = absurd (none-some x (sym none))
past (x ∷ xs) (suc i) none = past xs i none

-- there is no entry any more
pub nowhere : (k : ℕ) (xs : List Entry) (i : ℕ) → slice_get xs i ≡ None → program_with k (drop i xs) ≡ program_with k xs → None ≡ program_with k xs
nowhere k xs i none so_far = sym (ap (program_with k) (past xs i none)) ∙ so_far
