-- Records beside their values.
use Rattle.std.proofs.Common.{◌≡◌, ℕ, zero, suc, ◌<◌, ◌+◌, List, [], ◌∷◌, ◌++◌, length, take, get_or, refl, ap, ◌∙◌, arith}
use Rattle.std.specs.List.{zip}
use Rattle.bottle_values.specs.declared.Value.{Value}

zip_suc : (ns : List ℕ) (vs : List Value) (i n0 : ℕ) (v0 : Value) → i < length ns → length vs ≡ length ns
    → zip (take (suc i) ns) (take (suc i) vs) ≡ zip (take i ns) (take i vs) ++ (get_or ns i n0, get_or vs i v0) ∷ []
zip_suc [] vs i n0 v0 lt same = absurd (omega arith)
zip_suc (n ∷ ns) [] i n0 v0 lt same = absurd (omega arith)
zip_suc (n ∷ ns) (v ∷ vs) zero n0 v0 lt same = refl
zip_suc (n ∷ ns) (v ∷ vs) (suc i) n0 v0 lt same = ap (λ xs. (n, v) ∷ xs) (zip_suc ns vs i n0 v0 (omega arith) (omega arith))

-- one more of each
pub zip_more : (ns : List ℕ) (vs : List Value) (i n0 : ℕ) (v0 : Value) → i < length ns → length vs ≡ length ns
    → zip (take (i + 1) ns) (take (i + 1) vs) ≡ zip (take i ns) (take i vs) ++ (get_or ns i n0, get_or vs i v0) ∷ []
zip_more ns vs i n0 v0 lt same =
    let e : i + 1 ≡ suc i = omega arith in
    ap (λ k. zip (take k ns) (take k vs)) e ∙ zip_suc ns vs i n0 v0 lt same
