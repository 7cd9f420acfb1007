-- Lists of bytes that differ nowhere.
use Rattle.std.proofs.Common.{◌≡◌, ℕ, ◌+◌, ◌-◌, ◌/◌, ◌%◌, ◌^◌, ◌<◌, List, [], ◌∷◌, length, get_or, drop, refl, sym, ap, ap₂, ◌∙◌, arith}
use Rattle.std.specs.Prelude.{bit_or, bit_xor}
use Rattle.std.specs.Int.Bits.{xor_self}
use Rattle.std.proofs.lemmas.List.{drop_more}
use Rattle.std.proofs.lemmas.Nat.{le_or_l, le_or_r, or_comm}
use Rattle.std.proofs.lemmas.Nat.Bits.{same_from_bits, bit_at_xor, bit_at-zero, bit_at-lt}
use Rattle.datagram_seals.specs.frames.Seals.{differing_bits}

same_from_xor : (a b : ℕ) → bit_xor a b ≡ 0 → a ≡ b
same_from_xor a b none =
    same_from_bits a b (λ i. omega (arith, sym (bit_at_xor a b i) ∙ ap (λ n. n / 2 ^ i % 2) none ∙ bit_at-zero i, bit_at-lt a i, bit_at-lt b i))

-- where no bit differs, lists of one length are the same
pub same_from_no_bits : (xs ys : List ℕ) → length xs ≡ length ys → differing_bits xs ys ≡ 0 → xs ≡ ys
same_from_no_bits [] [] long none = refl
same_from_no_bits [] (y ∷ ys) long none = absurd (omega (arith, long))
same_from_no_bits (x ∷ xs) [] long none = absurd (omega (arith, long))
same_from_no_bits (x ∷ xs) (y ∷ ys) long none =
    let here : bit_xor x y ≡ 0 = omega (arith, le_or_l (bit_xor x y) (differing_bits xs ys), none) in
    let there : differing_bits xs ys ≡ 0 = omega (arith, le_or_r (bit_xor x y) (differing_bits xs ys), none) in
    let rest : length xs ≡ length ys = omega (arith, long) in
    ap₂ (λ z zs. z ∷ zs) (same_from_xor x y here) (same_from_no_bits xs ys rest there)

-- no bit differs between a list and itself
pub none_from_itself : (xs : List ℕ) → differing_bits xs xs ≡ 0
none_from_itself [] = refl
none_from_itself (x ∷ xs) = ap₂ bit_or (xor_self x) (none_from_itself xs)

-- one place more, from the end
pub one_place_more : (xs ys : List ℕ) (n i bits : ℕ) → length xs ≡ n → length ys ≡ n → i < n → bits ≡ differing_bits (drop (n - i) xs) (drop (n - i) ys)
    → bit_or bits (bit_xor (get_or xs (n - 1 - i) 0) (get_or ys (n - 1 - i) 0)) ≡ differing_bits (drop (n - (i + 1)) xs) (drop (n - (i + 1)) ys)
one_place_more xs ys n i bits long as_long lt so_far =
    let k = n - (i + 1) in
    let here : n - 1 - i ≡ k = omega arith in
    let behind : k + 1 ≡ n - i = omega arith in
    let left : drop k xs ≡ get_or xs k 0 ∷ drop (n - i) xs = drop_more xs k 0 (omega arith) ∙ ap (λ m. get_or xs k 0 ∷ drop m xs) behind in
    let right : drop k ys ≡ get_or ys k 0 ∷ drop (n - i) ys = drop_more ys k 0 (omega arith) ∙ ap (λ m. get_or ys k 0 ∷ drop m ys) behind in
    let rest = differing_bits (drop (n - i) xs) (drop (n - i) ys) in
    ap₂ bit_or so_far (ap (λ m. bit_xor (get_or xs m 0) (get_or ys m 0)) here)
    ∙ or_comm rest (bit_xor (get_or xs k 0) (get_or ys k 0))
    ∙ sym (ap₂ differing_bits left right)
