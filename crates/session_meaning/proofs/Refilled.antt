-- A list that was filled up.
use Rattle.std.proofs.Common.{◌≡◌, ℕ, ◌-◌, ◌≤◌, List, [], ◌++◌, length, take, ap, ◌∙◌, arith}
use Rattle.std.proofs.lemmas.List.{take_all}
use Rattle.std.specs.Prelude.{replicate}

pub grown : {A : Type 0} (n len : ℕ) (x : A) (old : List A) → length old ≤ n → len ≡ length old → take n old ++ replicate (n - len) x ≡ old ++ replicate (n - length old) x
grown n len x old le is = ap (λ l. l ++ replicate (n - len) x) (take_all n old le) ∙ ap (λ k. old ++ replicate (n - k) x) is

-- nothing was left of it
pub filled : {A : Type 0} (n len : ℕ) (x : A) (old : List A) → old ≡ [] → len ≡ 0 → take n old ++ replicate (n - len) x ≡ replicate n x
filled n len x old none zero_long =
    let short = ap length none in
    let all : n - 0 ≡ n = omega arith in
    grown n len x old (omega (arith, short)) (omega (arith, short, zero_long)) ∙ ap (λ l. l ++ replicate (n - length l) x) none ∙ ap (λ k. replicate k x) all
