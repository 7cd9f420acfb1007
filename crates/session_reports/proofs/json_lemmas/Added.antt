-- Texts to which parts are added.
use Rattle.std.proofs.Common.{◌≡◌, Bool, ◌<◌, ◌+◌, ℕ, List, [], ◌∷◌, ◌++◌, length, take, get_or, Result, Ok, Err, OnOk, if◌then◌else◌, sym, ap, ◌∙◌, append_assoc, append-nil, arith}
use Rattle.std.specs.Prelude.{is_ok, slice_get, Some, ◌==◌}
use Rattle.std.specs.List.{flat_map}
use Rattle.std.proofs.lemmas.Bool.{ne_eqb}
use Rattle.std.proofs.lemmas.List.{take_more, length-take-le}
use Rattle.std.proofs.lemmas.List.Concat.{flat_map-append}
use Rattle.std.proofs.lemmas.Option.{slice_get_within}
use Rattle.bottle_values.specs.ListLaws.{first_more}
use Rattle.session_reports.specs.json.Json.{joined}

-- five parts, of which the last may lack memory
pub five_added : {A E : Type 0} (r : Result A E) (old s1 s2 s3 s4 new a b c d e : List ℕ) → s1 ≡ old ++ a → s2 ≡ s1 ++ b → s3 ≡ s2 ++ c → s4 ≡ s3 ++ d → new ≡ (if is_ok r then s4 ++ e else s4) → OnOk r (new ≡ old ++ (a ++ (b ++ (c ++ (d ++ e)))))
five_added (Ok x) old s1 s2 s3 s4 new a b c d e h1 h2 h3 h4 h5 =
    h5 ∙ ap (λ (s : List ℕ). s ++ e) (h4 ∙ ap (λ (s : List ℕ). s ++ d) (h3 ∙ ap (λ (s : List ℕ). s ++ c) (h2 ∙ ap (λ (s : List ℕ). s ++ b) h1)))
    ∙ append_assoc (((old ++ a) ++ b) ++ c) d e ∙ append_assoc ((old ++ a) ++ b) c (d ++ e) ∙ append_assoc (old ++ a) b (c ++ (d ++ e)) ∙ append_assoc old a (b ++ (c ++ (d ++ e)))
five_added (Err x) old s1 s2 s3 s4 new a b c d e h1 h2 h3 h4 h5 = tt

-- four parts
pub four_added : {A E : Type 0} (r : Result A E) (old s1 s2 s3 new a b c d : List ℕ) → s1 ≡ old ++ a → s2 ≡ s1 ++ b → s3 ≡ s2 ++ c → new ≡ (if is_ok r then s3 ++ d else s3) → OnOk r (new ≡ old ++ (a ++ (b ++ (c ++ d))))
four_added (Ok x) old s1 s2 s3 new a b c d h1 h2 h3 h4 =
    h4 ∙ ap (λ (s : List ℕ). s ++ d) (h3 ∙ ap (λ (s : List ℕ). s ++ c) (h2 ∙ ap (λ (s : List ℕ). s ++ b) h1))
    ∙ append_assoc ((old ++ a) ++ b) c d ∙ append_assoc (old ++ a) b (c ++ d) ∙ append_assoc old a (b ++ (c ++ d))
four_added (Err x) old s1 s2 s3 new a b c d h1 h2 h3 h4 = tt

-- one row more
pub row_added : {A : Type 0} (f : A → List ℕ) (xs : List A) (i : ℕ) (x : A) (before after : List ℕ) → i < length xs → x ≡ get_or xs i x → before ≡ flat_map f (take i xs) → after ≡ before ++ f x → after ≡ flat_map f (take (i + 1) xs)
row_added f xs i x before after lt is so_far added =
    let next : take (i + 1) xs ≡ take i xs ++ x ∷ [] = take_more xs i x lt ∙ ap (λ y. take i xs ++ y ∷ []) (sym is) in
    let row : flat_map f (take (i + 1) xs) ≡ flat_map f (take i xs) ++ f x = ap (flat_map f) next ∙ flat_map-append f (take i xs) (x ∷ []) ∙ ap (λ b. flat_map f (take i xs) ++ b) (append-nil (f x)) in
    added ∙ ap (λ b. b ++ f x) so_far ∙ sym row

-- one item more of a list with commas
joined_behind : {A : Type 0} (f : A → List ℕ) (xs : List A) (x : A) → joined f (xs ++ x ∷ []) ≡ joined f xs ++ ((if length xs == 0 then [] else 44 ∷ []) ++ f x)
joined_behind f [] x = append-nil (f x)
joined_behind {A} f (y ∷ ys) x =
    let g = λ (z : A). 44 ∷ f z in
    let last : flat_map g (ys ++ x ∷ []) ≡ flat_map g ys ++ (44 ∷ f x) = flat_map-append g ys (x ∷ []) ∙ ap (λ b. flat_map g ys ++ b) (append-nil (44 ∷ f x)) in
    ap (λ b. f y ++ b) last ∙ sym (append_assoc (f y) (flat_map g ys) (44 ∷ f x))
    ∙ ap (λ (b : Bool). joined f (y ∷ ys) ++ ((if b then [] else 44 ∷ []) ++ f x)) (sym (ne_eqb (length (y ∷ ys)) 0 (λ h. omega (arith, h))))

pub item_added : {A : Type 0} (f : A → List ℕ) (xs : List A) (i : ℕ) (x : A) → slice_get xs i ≡ Some x
    → joined f (take (i + 1) xs) ≡ joined f (take i xs) ++ ((if i == 0 then [] else 44 ∷ []) ++ f x)
item_added f xs i x at =
    ap (joined f) (first_more xs i x at) ∙ joined_behind f (take i xs) x
    ∙ ap (λ n. joined f (take i xs) ++ ((if n == 0 then [] else 44 ∷ []) ++ f x)) (length-take-le i xs (let within = slice_get_within xs i x at in omega (arith, within)))
