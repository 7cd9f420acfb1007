-- Parts and lines that are added.
use Rattle.std.proofs.Common.{◌≡◌, ◌+◌, ℕ, List, [], ◌∷◌, ◌++◌, take, Some, sym, ap, ◌∙◌, append_assoc}
use Rattle.std.specs.Prelude.{slice_get}
use Rattle.std.specs.List.{flat_map}
use Rattle.std.proofs.lemmas.List.{append-nil, take_more}
use Rattle.std.proofs.lemmas.List.Concat.{flat_map-append}
use Rattle.std.proofs.lemmas.Option.{slice_get_within, get_or_from_slice_get}
use Rattle.session_meaning.specs.declared.ending.End.TheVariants.{Done}
use Rattle.session_meaning.specs.declared.ending.Outcome.{Outcome}

-- two parts, added one after the other
pub both_added : (old a b first second : List ℕ) → first ≡ old ++ a → second ≡ first ++ b → second ≡ old ++ (a ++ b)
both_added old a b first second e f = f ∙ ap (λ t. t ++ b) e ∙ append_assoc old a b

-- one line more
pub line_more : (f : Outcome → List ℕ) (xs : List Outcome) (i : ℕ) (x : Outcome) (old new : List ℕ) → slice_get xs i ≡ Some x → new ≡ old ++ f x → (start : List ℕ) → old ≡ start ++ flat_map f (take i xs) → new ≡ start ++ flat_map f (take (i + 1) xs)
line_more f xs i x old new e next start so_far =
    let more : take (i + 1) xs ≡ take i xs ++ x ∷ [] = take_more xs i x (slice_get_within xs i x e) ∙ ap (λ y. take i xs ++ y ∷ []) (get_or_from_slice_get xs i x x e) in
    let rows : flat_map f (take (i + 1) xs) ≡ flat_map f (take i xs) ++ f x = ap (flat_map f) more ∙ flat_map-append f (take i xs) (x ∷ []) ∙ ap (λ l. flat_map f (take i xs) ++ l) (append-nil (f x)) in
    next ∙ ap (λ l. l ++ f x) so_far ∙ append_assoc start (flat_map f (take i xs)) (f x) ∙ ap (λ l. start ++ l) (sym rows)

abbrev pub no_outcome : Outcome
no_outcome = record { office = 0; ticket = 0; ending = record { end = Done; reads = []; writes = []; gives = [] } }
