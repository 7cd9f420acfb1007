-- Words of digits.
use Rattle.std.proofs.Common.{◌≡◌, ℕ, suc, ◌+◌, ◌*◌, ◌^◌, ◌<◌, ◌≤◌, List, length, get_or, true, false, Bool, arith, refl, add-one, lit<}
use Rattle.std.proofs.Math.Nat.{pow-le-pow_right, pow-suc}
use Rattle.std.proofs.lemmas.List.Folds.{list_all_at}
use Rattle.std.specs.List.{list_all}
use Rattle.std.specs.Char.{is_ascii_digit}
use Rattle.std.proofs.lemmas.Bool.Decides.{nat_tests}

-- a number of at most 18 digits, and room for one more
pub room_below : (i : ℕ) → i < 19 → 10 * 10 ^ i ≤ 10 ^ 19
room_below i h =
    let a : 10 ^ (suc i) ≤ 10 ^ 19 = pow-le-pow_right {n = 10} (lit< tt) {i = suc i} {j = 19} (omega arith) in
    let b : 10 ^ suc i ≡ 10 ^ i * 10 = pow-suc 10 i in
    omega arith

pub next_power : (i : ℕ) → 10 ^ (i + 1) ≡ 10 * 10 ^ i
next_power i = let b : 10 ^ suc i ≡ 10 ^ i * 10 = pow-suc 10 i in rw add-one (omega arith)

is_digit : (b : ℕ) → is_ascii_digit b ≡ true → (48 ≤ b) × (b ≤ 57)
is_digit b h = (grind (arith, nat_tests), grind (arith, nat_tests))

pub digit_at : (word : List ℕ) (i : ℕ) → list_all is_ascii_digit word ≡ true → i < length word → (48 ≤ get_or word i 0) × (get_or word i 0 ≤ 57)
digit_at word i all lt = is_digit (get_or word i 0) (by_test (is_ascii_digit (get_or word i 0)) refl)
  where
    by_test : (b : Bool) → is_ascii_digit (get_or word i 0) ≡ b → is_ascii_digit (get_or word i 0) ≡ true
    by_test true e = e
    by_test false e = let f = list_all_at is_ascii_digit word i 0 lt e in cc
