-- What follows of a map with one entry changed.
use Rattle.std.proofs.Common.{◌≡◌, ℕ, cond, refl, ap}
use Rattle.std.specs.Prelude.{◌==◌}
use Rattle.std.proofs.lemmas.Bool.{cond_both, eqb-true, eqb-false, eq-eqb, ne_eqb}
use Rattle.bottle_values.specs.Maps.{put}

-- at the key that was changed, and elsewhere
pub put_cases : {X : Type 0} (f : ℕ → X) (k : ℕ) (x : X) (j : ℕ) (P : X → Type 0) → (j ≡ k → P x) → ((j ≡ k → ⊥) → P (f j)) → P (put f k x j)
put_cases f k x j P there away = cond_both (j == k) x (f j) P (λ e. there (eqb-true j k e)) (λ e. away (eqb-false j k e))

pub put_other : {X : Type 0} (f : ℕ → X) (k : ℕ) (x : X) (j : ℕ) → (j ≡ k → ⊥) → put f k x j ≡ f j
put_other f k x j ne = ap (λ b. cond b x (f j)) (ne_eqb j k ne)

pub put_at : {X : Type 0} (f : ℕ → X) (k : ℕ) (x : X) (j : ℕ) → j ≡ k → put f k x j ≡ x
put_at f k x j e = ap (λ b. cond b x (f j)) (eq-eqb j k e)

pub put_same : {X : Type 0} (f : ℕ → X) (k : ℕ) (x : X) → put f k x k ≡ x
put_same f k x = put_at f k x k refl
