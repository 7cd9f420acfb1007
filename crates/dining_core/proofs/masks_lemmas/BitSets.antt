-- A number's bits as a set.
use Rattle.std.proofs.Common.{◌≡◌, ℕ, zero, suc, ◌-◌, ◌*◌, ◌%◌, ◌^◌, ◌<◌, min, max, Bool, true, false, cond, eqb, Some, refl, sym, ap, ◌∙◌, arith, ⊎_elim, not, subst}
use Rattle.std.specs.Prelude.{◌&&◌, ◌||◌, bit_and, bit_or}
use mir.Val.{bits}
use Rattle.std.specs.Int.{bit_at, bit_not, trailing_zeros, Width}
use Rattle.std.proofs.lemmas.Bool.{eq-eqb, ne_eqb, cases_eq, eqb-true}
use Rattle.std.proofs.lemmas.Nat.{and_le_l}
use Rattle.std.proofs.lemmas.Nat.Bits.{bit_at_set_same, bit_at_set_other, bit_at_clear_same, bit_at_clear_other, bit_at_and, bit_at_or, bit_at_not, bit_at-lt, bit_at-trailing_zeros}
use Rattle.bottle_values.specs.Maps.{put}
use Rattle.dining_core.specs.masks.Sets.{has_bit, IsLeast}

pub bit_set : (w : Width) (n k : ℕ) → k < bits w → (i : ℕ) → has_bit (bit_or n (1 * 2 ^ k % 2 ^ bits w)) i ≡ put (has_bit n) k true i
bit_set w n k lt i =
    ⊎_elim
    (λ e. ap (λ j. eqb (bit_at (bit_or n (1 * 2 ^ k % 2 ^ bits w)) j) 1) e ∙ ap (λ d. eqb d 1) (bit_at_set_same w n k lt) ∙ sym (ap (λ b. cond b true (has_bit n i)) (eq-eqb i k e)))
    (λ ne. ap (λ d. eqb d 1) (bit_at_set_other w n k lt i ne) ∙ sym (ap (λ b. cond b true (has_bit n i)) (ne_eqb i k ne)))
    (cases_eq i k)

pub bit_cleared : (w : Width) (n k : ℕ) → k < bits w → (i : ℕ) → i < bits w → has_bit (bit_and n (bit_not w (1 * 2 ^ k % 2 ^ bits w))) i ≡ put (has_bit n) k false i
bit_cleared w n k lt i low =
    ⊎_elim
    (λ e. ap (λ j. eqb (bit_at (bit_and n (bit_not w (1 * 2 ^ k % 2 ^ bits w))) j) 1) e ∙ ap (λ d. eqb d 1) (bit_at_clear_same w n k lt) ∙ sym (ap (λ b. cond b false (has_bit n i)) (eq-eqb i k e)))
    (λ ne. ap (λ d. eqb d 1) (bit_at_clear_other w n k lt i low ne) ∙ sym (ap (λ b. cond b false (has_bit n i)) (ne_eqb i k ne)))
    (cases_eq i k)

min_one : (x y : ℕ) → x < 2 → y < 2 → eqb (min x y) 1 ≡ (eqb x 1 && eqb y 1)
min_one zero zero a b = refl
min_one zero (suc zero) a b = refl
min_one zero (suc (suc y)) a b = absurd (omega (arith, b))
min_one (suc zero) zero a b = refl
min_one (suc zero) (suc zero) a b = refl
min_one (suc zero) (suc (suc y)) a b = absurd (omega (arith, b))
min_one (suc (suc x)) y a b = absurd (omega (arith, a))

max_one : (x y : ℕ) → x < 2 → y < 2 → eqb (max x y) 1 ≡ (eqb x 1 || eqb y 1)
max_one zero zero a b = refl
max_one zero (suc zero) a b = refl
max_one zero (suc (suc y)) a b = absurd (omega (arith, b))
max_one (suc zero) zero a b = refl
max_one (suc zero) (suc zero) a b = refl
max_one (suc zero) (suc (suc y)) a b = absurd (omega (arith, b))
max_one (suc (suc x)) y a b = absurd (omega (arith, a))

other_one : (y : ℕ) → y < 2 → eqb (1 - y) 1 ≡ not (eqb y 1)
other_one zero b = refl
other_one (suc zero) b = refl
other_one (suc (suc y)) b = absurd (omega (arith, b))

pub bit_both : (a b i : ℕ) → has_bit (bit_and a b) i ≡ (has_bit a i && has_bit b i)
bit_both a b i = ap (λ d. eqb d 1) (bit_at_and a b i) ∙ min_one (bit_at a i) (bit_at b i) (bit_at-lt a i) (bit_at-lt b i)

pub bit_either : (a b i : ℕ) → has_bit (bit_or a b) i ≡ (has_bit a i || has_bit b i)
bit_either a b i = ap (λ d. eqb d 1) (bit_at_or a b i) ∙ max_one (bit_at a i) (bit_at b i) (bit_at-lt a i) (bit_at-lt b i)

pub bit_without : (w : Width) (a b : ℕ) → b < 2 ^ bits w → (i : ℕ) → i < bits w → has_bit (bit_and a (bit_not w b)) i ≡ (has_bit a i && not (has_bit b i))
bit_without w a b fits i low =
    bit_both a (bit_not w b) i
    ∙ ap (λ c. has_bit a i && c) (ap (λ d. eqb d 1) (bit_at_not w b i fits low) ∙ other_one (bit_at b i) (bit_at-lt b i))

pub least_bit : (w : Width) (n : ℕ) → 0 < n → n < 2 ^ bits w → IsLeast (bits w) (has_bit n) (Some (trailing_zeros w n))
least_bit w n some fits =
    let h = bit_at-trailing_zeros w n some fits in
    (h.0, ap (λ d. eqb d 1) h.1, λ j lt. ap (λ d. eqb d 1) (h.2 j lt))

-- what is put at a place that isn't below n is not seen below n
pub put_beyond : (n : ℕ) (f : ℕ → Bool) (k : ℕ) (b : Bool) → (k < n → ⊥) → (i : ℕ) → i < n → f i ≡ put f k b i
put_beyond n f k b past i lt = sym (ap (λ c. cond c b (f i)) (ne_eqb i k (λ e. past (subst (λ j. j < n) e lt))))

-- a bit that was set and is no more makes the number less
pub bit_less : (w : Width) (n k : ℕ) → k < bits w → has_bit n k ≡ true → bit_and n (bit_not w (1 * 2 ^ k % 2 ^ bits w)) < n
bit_less w n k lt was =
    ⊎_elim
    (λ e. absurd (let gone : bit_at n k ≡ 0 = sym (ap (λ m. bit_at m k) e) ∙ bit_at_clear_same w n k lt in omega (arith, gone, eqb-true (bit_at n k) 1 was)))
    (λ ne. omega (arith, ne, and_le_l n (bit_not w (1 * 2 ^ k % 2 ^ bits w))))
    (cases_eq (bit_and n (bit_not w (1 * 2 ^ k % 2 ^ bits w))) n)
