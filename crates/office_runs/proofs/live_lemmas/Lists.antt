-- Lists of which one thing after the other is made into another.
use Rattle.std.proofs.Common.{◌≡◌, ℕ, ◌+◌, ◌≤◌, List, [], ◌∷◌, ◌++◌, length, map, sym, ap, ◌∙◌, append_assoc, arith}
use Rattle.std.proofs.lemmas.List.{append-nil, length_push}

module _ {A B : Type 0} (f : A → B) where
  pub none_made_yet : (made : List B) (rest all : List A) → made ≡ [] → rest ≡ all → made ++ map f rest ≡ map f all
  none_made_yet made rest all none same = ap (λ l. l ++ map f rest) none ∙ ap (map f) same

  pub one_more_made : (made next : List B) (one : B) (x : A) (before rest : List A) (all : List B) → next ≡ made ++ one ∷ [] → one ≡ f x → before ≡ x ∷ rest → made ++ map f before ≡ all → next ++ map f rest ≡ all
  one_more_made made next one x before rest all grown is split h =
      ap (λ l. l ++ map f rest) grown ∙ append_assoc made (one ∷ []) (map f rest) ∙ ap (λ (y : B). made ++ (y ∷ map f rest)) is ∙ ap (λ l. made ++ map f l) (sym split) ∙ h

  pub room_left : (made next : List B) (one : B) (x : A) (before rest : List A) (room more : ℕ) → next ≡ made ++ one ∷ [] → before ≡ x ∷ rest → room ≤ more → length made + length before ≤ room → length next + length rest ≤ more
  room_left made next one x before rest room more grown split grows fits =
      let longer : length next ≡ length made + 1 = ap length grown ∙ length_push made one in
      let shorter : length before ≡ length (x ∷ rest) = ap length split in
      omega (arith, longer, shorter, grows, fits)

  pub all_made : (made : List B) (rest : List A) (all : List B) → rest ≡ [] → made ++ map f rest ≡ all → made ≡ all
  all_made made rest all none h = sym (append-nil made) ∙ ap (λ l. made ++ map f l) (sym none) ∙ h

-- one was taken off the front
pub one_taken : {A : Type 0} (x : A) (before rest : List A) (m n : ℕ) → before ≡ x ∷ rest → n + 1 ≡ m → m ≡ length before → n ≡ length rest
one_taken x before rest m n split fewer size = let shorter : length before ≡ length (x ∷ rest) = ap length split in omega (arith, shorter, fewer, size)
