-- What follows of ways between two offices.
use Rattle.std.proofs.Common.{◌≡◌, ℕ, refl, sym, ap, ◌∙◌, inl, inr, ◌⊎◌, ⊎_elim}
use Rattle.std.proofs.lemmas.Bool.{cases_eq}
use Rattle.bottle_values.specs.Maps.{put}
use Rattle.bottle_values.specs.MapLaws.{put_cases, put_at, put_other}
use Rattle.dining_core.specs.Worlds.{with_way}

-- both offices are these, or not
pub cases_two : (x a y v : ℕ) → ((x ≡ a) × (y ≡ v)) ⊎ ((x ≡ a) × (y ≡ v) → ⊥)
cases_two x a y v = ⊎_elim
    (λ e. ⊎_elim (λ i. inl (e, i)) (λ ne. inr (λ h. ne h.1)) (cases_eq y v))
    (λ ne. inr (λ h. ne h.0))
    (cases_eq x a)

-- the way that was changed, and any other
pub way_at : {X : Type 0} (way : ℕ → ℕ → X) (a v : ℕ) (n : X) (x y : ℕ) → (x ≡ a) × (y ≡ v) → with_way way a v n x y ≡ n
way_at way a v n x y e = ap (λ (f : ℕ → _). f y) (put_at way a (put (way a) v n) x e.0) ∙ put_at (way a) v n y e.1

pub way_off : {X : Type 0} (way : ℕ → ℕ → X) (a v : ℕ) (n : X) (x y : ℕ) → ((x ≡ a) × (y ≡ v) → ⊥) → with_way way a v n x y ≡ way x y
way_off way a v n x y ne =
    put_cases way a (put (way a) v n) x (λ (f : ℕ → _). f y ≡ way x y)
    (λ e. put_other (way a) v n y (λ i. ne (e, i)) ∙ ap (λ z. way z y) (sym e))
    (λ e. refl)
