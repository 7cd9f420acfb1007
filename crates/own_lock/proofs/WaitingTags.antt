-- The bits of a word as the tags of those that wait.
use Rattle.std.proofs.Common.{◌≡◌, ℕ, ◌+◌, ◌-◌, ◌*◌, ◌%◌, ◌^◌, ◌<◌, min, Bool, ◌&&◌, ◌==◌, eqb, Option, None, Some, bit_and, sym, ap, subst, ◌∙◌, arith, ⊎_elim, inl, inr}
use Rattle.std.specs.Int.{bit_at, trailing_zeros, w64}
use Rattle.std.specs.Option.{option_or}
use Rattle.std.proofs.lemmas.Bool.{cases_lt, cases_eq, eq-eqb, ne_eqb, lt-ltb, le-ltb}
use Rattle.std.proofs.lemmas.Nat.{one_shl}
use Rattle.std.proofs.lemmas.Nat.Bits.{bit_at_and, bit_at-zero, bit_at-lt, bit_at-trailing_zeros, bit_at_above, bit_at_mask_inside, bit_at_mask_below, bit_at-pow_same, bit_at-pow_other, ones_shl}
use Rattle.own_lock.specs.Waking.{waits_in, above, IsLeast, IsNextAfter}

-- a word with one bit
pub waits_in-mark : (k : ℕ) → k < 16 → (t : ℕ) → waits_in (1 * 2 ^ k % 2 ^ 64) t ≡ (t == k)
waits_in-mark k lt t =
    ap (λ n. waits_in n t) (one_shl k 64 (omega (arith, lt)))
    ∙ ⊎_elim
    (λ e. ap (λ j. waits_in (2 ^ k) j) e ∙ ap (λ d. eqb d 1) (bit_at-pow_same k) ∙ sym (eq-eqb t k e))
    (λ ne. ap (λ d. eqb d 1) (bit_at-pow_other k t ne) ∙ sym (ne_eqb t k ne))
    (cases_eq t k)

-- ---- the least

pub IsLeast-zero : IsLeast (waits_in 0) None
IsLeast-zero t = ap (λ d. eqb d 1) (bit_at-zero t)

pub IsLeast-trailing_zeros : (n : ℕ) → 0 < n → n < 2 ^ 64 → IsLeast (waits_in n) (Some (trailing_zeros w64 n))
IsLeast-trailing_zeros n some fits =
    let h = bit_at-trailing_zeros w64 n some fits in
    (ap (λ d. eqb d 1) h.1, λ j lt. ap (λ d. eqb d 1) (h.2 j lt))

-- ---- the next

min_none : (x : ℕ) → min 0 x ≡ 0
min_none x = omega arith

min_below : (x : ℕ) → min x 0 ≡ 0
min_below x = omega arith

min_inside : (x : ℕ) → x < 2 → min x 1 ≡ x
min_inside x lt = omega (arith, lt)

-- without the bits up to n those above it are left
waits_in-greater : (m n : ℕ) → m < 2 ^ 64 → n < 16 → (t : ℕ) → waits_in (bit_and m ((2 ^ 64 - 1) * 2 ^ (n + 1) % 2 ^ 64)) t ≡ above n (waits_in m) t
waits_in-greater m n fits lt t =
    ap (λ k. waits_in (bit_and m k) t) (ones_shl 64 (n + 1) (omega (arith, lt)))
    ∙ ap (λ d. eqb d 1) (bit_at_and m (2 ^ 64 - 2 ^ (n + 1)) t)
    ∙ ⊎_elim
    (λ greater.
    ⊎_elim
    (λ inside. ap (λ b. eqb (min (bit_at m t) b) 1) (bit_at_mask_inside (n + 1) 64 t (omega (arith, greater)) inside) ∙ ap (λ d. eqb d 1) (min_inside (bit_at m t) (bit_at-lt m t)))
    (λ past. ap (λ b. eqb (min b (bit_at (2 ^ 64 - 2 ^ (n + 1)) t)) 1) (bit_at_above m 64 t fits past) ∙ ap (λ d. eqb d 1) (min_none (bit_at (2 ^ 64 - 2 ^ (n + 1)) t)) ∙ sym (ap (λ d. eqb d 1) (bit_at_above m 64 t fits past)))
    (cases_lt t 64)
    ∙ sym (ap (λ b. b && waits_in m t) (lt-ltb n t greater)))
    (λ low.
    ap (λ b. eqb (min (bit_at m t) b) 1) (bit_at_mask_below (n + 1) 64 t (omega (arith, low)))
    ∙ ap (λ d. eqb d 1) (min_below (bit_at m t))
    ∙ sym (ap (λ b. b && waits_in m t) (le-ltb n t low)))
    (cases_lt n t)

by_cases : (n : ℕ) (p : ℕ → Bool) (a b : Option ℕ) → IsLeast (above n p) a → IsLeast p b → IsNextAfter n p (option_or a b)
by_cases n p None None a b = b
by_cases n p None (Some t) a b = inr (a, b)
by_cases n p (Some t) None a b = inl a
by_cases n p (Some t) (Some u) a b = inl a

pub IsNextAfter-least : (m n : ℕ) (a b : Option ℕ) → m < 2 ^ 64 → n < 16 → IsLeast (waits_in (bit_and m ((2 ^ 64 - 1) * 2 ^ (n + 1) % 2 ^ 64))) a → IsLeast (waits_in m) b → IsNextAfter n (waits_in m) (option_or a b)
IsNextAfter-least m n a b fits lt is_a is_b =
    by_cases n (waits_in m) a b (subst (λ p. IsLeast p a) (λ i t. waits_in-greater m n fits lt t i) is_a) is_b
