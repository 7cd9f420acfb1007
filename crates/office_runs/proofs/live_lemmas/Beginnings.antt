-- Lists that begin one another.
use Rattle.std.proofs.Common.{◌≡◌, List, [], ◌∷◌, ◌++◌, length, take, map, refl, sym, ap, ◌∙◌, take_at}
use Rattle.std.proofs.lemmas.List.{map-append, take-map, length-map}

module _ {A : Type 0} where
  pub nothing_before : (xs ys : List A) → xs ++ ys ≡ [] → xs ≡ []
  nothing_before [] ys h = refl
  nothing_before (x ∷ xs) ys h = absurd (cc h)

  pub nothing_behind : (xs ys : List A) → xs ++ ys ≡ [] → ys ≡ []
  nothing_behind [] ys h = h
  nothing_behind (x ∷ xs) ys h = absurd (cc h)

-- where all are mapped to the same, so is a beginning
pub map_begins : {A B C : Type 0} (f : A → C) (g : B → C) (xs rest all : List A) (ys : List B) → xs ++ rest ≡ all → map f all ≡ map g ys → map f xs ≡ map g (take (length xs) ys)
map_begins f g xs rest all ys is same =
    sym (take_at (map f xs) (map f rest) (length xs) (length-map xs f)) ∙ ap (take (length xs)) (sym (map-append f xs rest) ∙ ap (map f) is ∙ same) ∙ take-map g (length xs) ys
