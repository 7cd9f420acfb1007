-- Texts that can be cut in one place alone.
use Rattle.std.proofs.Common.{◌≡◌, ℕ, List, [], ◌∷◌, ◌++◌, Bool, true, false, All, refl, sym, ap, ap₂, ◌∙◌, append_assoc}
use Rattle.std.specs.List.{list_all, flat_map}
use Rattle.std.proofs.lemmas.Bool.{and_parts, both_ways}
use Rattle.std.proofs.lemmas.List.Elements.{All-head, All-tail}
use Rattle.session_reports.specs.json.Json.{joined}

-- it begins with a byte at which such bytes end
abbrev pub Stops : (ℕ → Bool) → List ℕ → Type 0
Stops ok [] = ⊥
Stops ok (b ∷ bs) = ok b ≡ false

pub record AreSame (xs ys s t : List ℕ) : Type 0 where
  pub front : xs ≡ ys
  pub back : s ≡ t

-- it isn't such a byte
unlike : (ok : ℕ → Bool) (b c : ℕ) → ok b ≡ true → ok c ≡ false → b ≡ c → ⊥
unlike ok b c holds none e = both_ways (ok c) none (ap ok (sym e) ∙ holds)

-- lists of such bytes, with what stops them
pub cut_once : (ok : ℕ → Bool) (xs ys s t : List ℕ) → list_all ok xs ≡ true → list_all ok ys ≡ true → Stops ok s → Stops ok t → xs ++ s ≡ ys ++ t → AreSame xs ys s t
cut_once ok [] [] s t a b p q e = record { front = refl; back = e }
cut_once ok [] (y ∷ ys) [] t a b p q e = absurd p
cut_once ok [] (y ∷ ys) (c ∷ s) t a b p q e = let same : y ≡ c = (cc) in absurd (unlike ok y c (and_parts (ok y) (list_all ok ys) b).0 p same)
cut_once ok (x ∷ xs) [] s [] a b p q e = absurd q
cut_once ok (x ∷ xs) [] s (c ∷ t) a b p q e = let same : x ≡ c = (cc) in absurd (unlike ok x c (and_parts (ok x) (list_all ok xs) a).0 q same)
cut_once ok (x ∷ xs) (y ∷ ys) s t a b p q e =
    let here : x ≡ y = (cc) in
    let rest : xs ++ s ≡ ys ++ t = (cc) in
    let more = cut_once ok xs ys s t (and_parts (ok x) (list_all ok xs) a).1 (and_parts (ok y) (list_all ok ys) b).1 p q rest in
    record { front = ap₂ (λ (z : ℕ) (zs : List ℕ). z ∷ zs) here more.front; back = more.back }

-- what is written so tells what it is of, where such a text follows
abbrev pub Tells : {A : Type 0} → (A → List ℕ) → (A → Type 0) → (List ℕ → Type 0) → Type 0
Tells {A} text Ok End = (x y : A) (s t : List ℕ) → Ok x → Ok y → End s → End t → text x ++ s ≡ text y ++ t → (x ≡ y) × (s ≡ t)

-- ---- lists

-- it begins with this byte
abbrev pub Begins : ℕ → List ℕ → Type 0
Begins c [] = ⊥
Begins c (b ∷ bs) = b ≡ c

-- that a text is this one says with what it begins
pub begins : (c : ℕ) (u s : List ℕ) → u ≡ c ∷ s → Begins c u
begins c [] s e = absurd (cc)
begins c (b ∷ u) s e = (cc)

abbrev more_of : {A : Type 0} → (A → List ℕ) → List A → List ℕ
more_of text xs = flat_map (λ y. 44 ∷ text y) xs

-- what follows an element stops it: a comma, or the end of its list
module _ {A : Type 0} (text : A → List ℕ) (Ok : A → Type 0) (End : List ℕ → Type 0) (close : ℕ)
    (tells : Tells text Ok End)
    (at_comma : (s : List ℕ) → End (44 ∷ s))
    (at_close : (s : List ℕ) → End (close ∷ s))
    (no_comma : 44 ≡ close → ⊥)
  where
    ends : (xs : List A) (s : List ℕ) → End (more_of text xs ++ close ∷ s)
    ends [] s = at_close s
    ends (x ∷ xs) s = at_comma ((text x ++ more_of text xs) ++ close ∷ s)

    more_told : (xs ys : List A) (s t : List ℕ) → All Ok xs → All Ok ys → more_of text xs ++ close ∷ s ≡ more_of text ys ++ close ∷ t → (xs ≡ ys) × (s ≡ t)
    more_told [] [] s t a b e = let same : s ≡ t = (cc) in (refl, same)
    more_told [] (y ∷ ys) s t a b e = let same : 44 ≡ close = (cc) in absurd (no_comma same)
    more_told (x ∷ xs) [] s t a b e = let same : 44 ≡ close = (cc) in absurd (no_comma same)
    more_told (x ∷ xs) (y ∷ ys) s t a b e =
        let within : (text x ++ more_of text xs) ++ close ∷ s ≡ (text y ++ more_of text ys) ++ close ∷ t = (cc) in
        let here = tells x y (more_of text xs ++ close ∷ s) (more_of text ys ++ close ∷ t) (All-head Ok x xs a) (All-head Ok y ys b) (ends xs s) (ends ys t)
        (sym (append_assoc (text x) (more_of text xs) (close ∷ s)) ∙ within ∙ append_assoc (text y) (more_of text ys) (close ∷ t)) in
        let others = more_told xs ys s t (All-tail Ok x xs a) (All-tail Ok y ys b) here.1 in
        (ap₂ (λ (z : A) (zs : List A). z ∷ zs) here.0 others.0, others.1)

    pub joined_told : ((x : A) (s : List ℕ) → Ok x → Begins close (text x ++ s) → ⊥) → (xs ys : List A) (s t : List ℕ) → All Ok xs → All Ok ys → joined text xs ++ close ∷ s ≡ joined text ys ++ close ∷ t → (xs ≡ ys) × (s ≡ t)
    joined_told none [] [] s t a b e = let same : s ≡ t = (cc) in (refl, same)
    joined_told none [] (y ∷ ys) s t a b e = absurd (first_is y ys t (All-head Ok y ys b) (sym e))
      where
        first_is : (y : A) (ys : List A) (t : List ℕ) → Ok y → (text y ++ more_of text ys) ++ close ∷ t ≡ close ∷ s → ⊥
        first_is y ys t ok k = none y (more_of text ys ++ close ∷ t) ok (begins close (text y ++ (more_of text ys ++ close ∷ t)) s (sym (append_assoc (text y) (more_of text ys) (close ∷ t)) ∙ k))
    joined_told none (x ∷ xs) [] s t a b e = absurd (first_is x xs s (All-head Ok x xs a) e)
      where
        first_is : (y : A) (ys : List A) (u : List ℕ) → Ok y → (text y ++ more_of text ys) ++ close ∷ u ≡ close ∷ t → ⊥
        first_is y ys u ok k = none y (more_of text ys ++ close ∷ u) ok (begins close (text y ++ (more_of text ys ++ close ∷ u)) t (sym (append_assoc (text y) (more_of text ys) (close ∷ u)) ∙ k))
    joined_told none (x ∷ xs) (y ∷ ys) s t a b e =
        let here = tells x y (more_of text xs ++ close ∷ s) (more_of text ys ++ close ∷ t) (All-head Ok x xs a) (All-head Ok y ys b) (ends xs s) (ends ys t)
        (sym (append_assoc (text x) (more_of text xs) (close ∷ s)) ∙ e ∙ append_assoc (text y) (more_of text ys) (close ∷ t)) in
        let others = more_told xs ys s t (All-tail Ok x xs a) (All-tail Ok y ys b) here.1 in
        (ap₂ (λ (z : A) (zs : List A). z ∷ zs) here.0 others.0, others.1)
