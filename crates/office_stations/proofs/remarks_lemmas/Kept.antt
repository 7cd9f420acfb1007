-- The tickets that are kept, one after the other.
use Rattle.std.proofs.Common.{◌≡◌, ℕ, ◌+◌, List, [], ◌∷◌, ◌++◌, Bool, true, false, refl, sym, ap, ◌∙◌, arith, append-nil}
use Rattle.std.specs.List.{filter}
use Rattle.std.proofs.lemmas.List.FromFn.{filter_of_map_range_with_len_more}
use Rattle.office_stations.specs.remarks.Left.{tickets_to}

-- a ticket that passes is added, and one that doesn't is left out
pub ticket_kept : (p : ℕ → Bool) (i k : ℕ) (b : Bool) (old new : List ℕ) → b ≡ p k → k ≡ i + 1 → b ≡ true → old ≡ filter p (tickets_to i) → new ≡ old ++ k ∷ [] → new ≡ filter p (tickets_to (i + 1))
ticket_kept p i k b old new test same passed before after =
    let passes : p (i + 1) ≡ true = ap p (sym same) ∙ sym test ∙ passed in
    rw (after, before, same, filter_of_map_range_with_len_more p (λ j. j + 1) 0 i i (omega arith), passes) refl

pub ticket_left_out : (p : ℕ → Bool) (i k : ℕ) (b : Bool) (old new : List ℕ) → b ≡ p k → k ≡ i + 1 → b ≡ false → old ≡ filter p (tickets_to i) → new ≡ old → new ≡ filter p (tickets_to (i + 1))
ticket_left_out p i k b old new test same failed before after =
    let fails : p (i + 1) ≡ false = ap p (sym same) ∙ sym test ∙ failed in
    rw (after, before, filter_of_map_range_with_len_more p (λ j. j + 1) 0 i i (omega arith), fails) (sym (append-nil _))
