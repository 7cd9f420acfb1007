-- The place of a name in a list.
use Rattle.std.proofs.Common.{◌≡◌, ◌≢◌, ℕ, ◌<◌, get_or, List, [], length, Bool, true, false, Option, Some, None, cond, nat_lt, refl, sym, ap, ◌∙◌, arith}
use Rattle.std.specs.Prelude.{AllPairs}
use Rattle.std.specs.List.{position, position_or_len}
use Rattle.std.specs.Str.{bytes_eq}
use Rattle.std.proofs.lemmas.Bool.Decides.{nat_tests}
use Rattle.std.proofs.lemmas.List.Sums.{position_or_len_is}
use Rattle.std.proofs.lemmas.Slice.Eq.{bytes_eq-Decides}

abbrev pub within : ℕ → ℕ → Option ℕ
within k n = cond (nat_lt k n) (Some k) None

abbrev pub is_named : List ℕ → List ℕ → Bool
is_named name v = bytes_eq v name

-- where names differ, a name is where one place has it
pub place_is : (names : List (List ℕ)) (name : List ℕ) (k : ℕ) → AllPairs (λ a b. a ≢ b) names → k < length names → get_or names k [] ≡ name → position (is_named name) names ≡ Some k
place_is names name k distinct lt is =
    let at : position_or_len (is_named name) names ≡ k = position_or_len_is (is_named name) names k [] (omega arith) (λ i before. other i before) (λ _. (bytes_eq-Decides (get_or names k []) name).1 is) in
    let yes : nat_lt k (length names) ≡ true = grind (arith, nat_tests) in
    ap (λ i. within i (length names)) at ∙ ap (λ b. cond b (Some k) None) yes
  where
    other : (i : ℕ) → i < k → is_named name (get_or names i []) ≡ false
    other i before = by_test (is_named name (get_or names i [])) refl
      where
        by_test : (b : Bool) → is_named name (get_or names i []) ≡ b → b ≡ false
        by_test false e = refl
        by_test true e = absurd (distinct i k [] before lt ((bytes_eq-Decides (get_or names i []) name).0 e ∙ sym is))
