-- What is found of bytes that couldn't be appended.
use Rattle.std.proofs.Common.{◌≡◌, ℕ, Bool, true, false, List, [], ◌++◌, take, drop, if◌then◌else◌, refl, sym, ap, ◌∙◌}
use Rattle.std.proofs.lemmas.List.{take-append-drop}
use Rattle.journal_stores.specs.Stores.{MayBeFound}

-- where nothing was torn before: the first n, or none
pub found : (has_room : Bool) (stood kept bytes old new : List ℕ) (n : ℕ) → kept ≡ stood → old ≡ [] → new ≡ (if has_room then old ++ take n bytes else old) → MayBeFound stood bytes (kept ++ new)
found true stood kept bytes old new n same none is = record {
  part = take n bytes;
  rest = drop n bytes;
  begins = sym (take-append-drop n bytes);
  after = ap (λ l. l ++ new) same ∙ ap (λ l. stood ++ l) (is ∙ ap (λ l. l ++ take n bytes) none);
}
found false stood kept bytes old new n same none is = record { part = []; rest = bytes; begins = refl; after = ap (λ l. l ++ new) same ∙ ap (λ l. stood ++ l) (is ∙ none) }
