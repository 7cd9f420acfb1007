-- What is kept, and the places behind it.
use Rattle.std.proofs.Common.{◌≡◌, ℕ, zero, suc, ◌<◌, ◌≤◌, List, [], ◌∷◌, ◌++◌, length, get_or, drop, set, replicate, Option, Some, None, is_some, true, false, refl, sym, ap, ◌∙◌, arith}
use Rattle.std.proofs.lemmas.List.{get_or_default, set-get_or}
use Rattle.frame_codec.specs.declared.message.Msg.{Msg}
use Rattle.window_link.specs.Windows.{kept_or, kept_with, kept_after}
use Rattle.window_link.specs.refinement.Places.{filled}

replicate-push : (n : ℕ) → replicate {A = Option Msg} n None ++ None ∷ [] ≡ replicate (suc n) None
replicate-push zero = refl
replicate-push (suc n) = ap (λ ks. None ∷ ks) (replicate-push n)

-- an empty place more
pub filled-push : (n : ℕ) (ks : List (Option Msg)) → length ks < n → filled n (ks ++ None ∷ []) ≡ filled n ks
filled-push zero ks h = absurd (omega (arith, h))
filled-push (suc n) [] h = refl
filled-push (suc n) (k ∷ ks) h = ap (λ rest. k ∷ rest) (filled-push n ks (omega (arith, h)))

-- what is kept behind the first one
filled-after : (n : ℕ) (ks : List (Option Msg)) → length ks ≤ n → filled n ks ++ None ∷ [] ≡ filled (suc n) ks
filled-after n [] h = replicate-push n
filled-after zero (k ∷ ks) h = absurd (omega (arith, h))
filled-after (suc n) (k ∷ ks) h = ap (λ rest. k ∷ rest) (filled-after n ks (omega (arith, h)))

-- without the first one
pub filled-rest : (n : ℕ) (ks : List (Option Msg)) → length ks ≤ suc n → filled (suc n) (drop 1 ks) ≡ kept_after (filled (suc n) ks)
filled-rest n [] h = sym (replicate-push n)
filled-rest n (k ∷ ks) h = sym (filled-after n ks (omega (arith, h)))

-- where the first one is thrown out
pub filled-none : (n : ℕ) (ks : List (Option Msg)) → filled (suc n) (set ks 0 None) ≡ set (filled (suc n) ks) 0 None
filled-none n [] = refl
filled-none n (k ∷ ks) = refl

filled-set : (n : ℕ) (ks : List (Option Msg)) (i : ℕ) (v : Option Msg) → length ks ≤ n → i < length ks → filled n (set ks i v) ≡ set (filled n ks) i v
filled-set n [] i v h at = absurd (omega (arith, at))
filled-set zero (k ∷ ks) i v h at = absurd (omega (arith, h))
filled-set (suc n) (k ∷ ks) zero v h at = refl
filled-set (suc n) (k ∷ ks) (suc i) v h at = ap (λ rest. k ∷ rest) (filled-set n ks i v (omega (arith, h)) (omega (arith, at)))

replicate-get : (n i : ℕ) → get_or {A = Option Msg} (replicate n None) i None ≡ None
replicate-get zero i = refl
replicate-get (suc n) zero = refl
replicate-get (suc n) (suc i) = replicate-get n i

filled-get : (n : ℕ) (ks : List (Option Msg)) (i : ℕ) → length ks ≤ n → get_or (filled n ks) i None ≡ get_or ks i None
filled-get n [] i h = replicate-get n i
filled-get zero (k ∷ ks) i h = absurd (omega (arith, h))
filled-get (suc n) (k ∷ ks) zero h = refl
filled-get (suc n) (k ∷ ks) (suc i) h = filled-get n ks i (omega (arith, h))

-- ---- a message is kept, where nothing was and where something was

pub kept-new : (n : ℕ) (ks : List (Option Msg)) (i : ℕ) (there : Option Msg) (msg : Msg) → length ks ≤ n → i < length ks → there ≡ get_or ks i there → is_some there ≡ false → filled n (set ks i (Some msg)) ≡ kept_with (filled n ks) i msg
kept-new n ks i None msg h at is none =
    filled-set n ks i (Some msg) h at ∙ ap (λ o. set (filled n ks) i (kept_or o msg)) (is ∙ sym (filled-get n ks i h))
kept-new n ks i (Some old) msg h at is none = absurd cc

pub kept-old : (n : ℕ) (ks : List (Option Msg)) (i : ℕ) (there : Option Msg) (msg : Msg) → length ks ≤ n → i < length ks → there ≡ get_or ks i there → is_some there ≡ true → filled n ks ≡ kept_with (filled n ks) i msg
kept-old n ks i None msg h at is some = absurd cc
kept-old n ks i (Some old) msg h at is some =
    let here : get_or (filled n ks) i None ≡ Some old = filled-get n ks i h ∙ get_or_default ks i None (Some old) at ∙ sym is in
    sym (ap (λ o. set (filled n ks) i (kept_or o msg)) here ∙ ap (set (filled n ks) i) (sym here) ∙ set-get_or (filled n ks) i None)
