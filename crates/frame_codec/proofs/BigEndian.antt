-- Numbers as big-endian fields: the bytes that a number was read from are those that spell it.
use Rattle.std.proofs.Common.{◌≡◌, ℕ, ◌+◌, ◌<◌, ◌≤◌, List, [], ◌∷◌, ◌++◌, length, get_or, take, drop, sym, ap, ◌∙◌, arith, inl, inr}
use Rattle.std.proofs.Math.Seq.{take-add}
use Rattle.std.proofs.lemmas.Bool.{cases_lt}
use Rattle.std.proofs.lemmas.List.{take_more, length-take, length-drop, get_or-take, get_or-drop, get_or_past}
use Rattle.std.proofs.lemmas.Nat.{be_bytes_4, be_bytes_8}
use Rattle.byteorder.specs.Endian.{big_bytes, big_number}
use Rattle.byteorder.specs.Numbers.{big_from-take}

abbrev pub IsBytes : List ℕ → Type 0
IsBytes bytes = (i : ℕ) → get_or bytes i 0 < 256

IsBytes-part : (k n : ℕ) (bytes : List ℕ) → IsBytes bytes → IsBytes (take n (drop k bytes))
IsBytes-part k n bytes h i =
    elim (cases_lt i n) [
      | inl lt ↦ rw (get_or-take n (drop k bytes) i 0 lt, get_or-drop) (h (k + i))
      | inr le ↦ rw (get_or_past (take n (drop k bytes)) i 0 (omega (arith, length-take n (drop k bytes)))) (omega arith)
    ]

-- k bytes spell the number that is read from them
pub record IsWidth (k : ℕ) : Type 0 where
  pub back : (bytes : List ℕ) → length bytes ≡ k → IsBytes bytes → big_bytes k (big_number k bytes) ≡ bytes

pub width_4 : IsWidth 4
width_4 = record { back = λ bytes len fits. be_bytes_4 bytes (big_number 4 bytes) len fits (omega arith) }

pub width_8 : IsWidth 8
width_8 = record { back = λ bytes len fits. be_bytes_8 bytes (big_number 8 bytes) len fits (omega arith) }

-- the bytes from place k on, as the number that is read there
pub field_is : (k n : ℕ) → IsWidth n → (bytes : List ℕ) → k + n ≤ length bytes → IsBytes bytes → take n (drop k bytes) ≡ big_bytes n (big_number n (drop k bytes))
field_is k n wide bytes room fits =
    let part : List ℕ = take n (drop k bytes) in
    let len : length part ≡ n = omega (arith, length-take n (drop k bytes), length-drop k bytes) in
    sym (wide.back part len (IsBytes-part k n bytes fits)) ∙ ap (big_bytes n) (big_from-take 0 n n (drop k bytes) (omega arith))

-- one more byte of a front of the bytes
pub front_byte : (k : ℕ) (bytes front : List ℕ) (x : ℕ) → k < length bytes → get_or bytes k 0 ≡ x → take k bytes ≡ front → take (k + 1) bytes ≡ front ++ x ∷ []
front_byte k bytes front x room is h =
    take_more bytes k 0 room ∙ ap (λ (l : List ℕ). l ++ get_or bytes k 0 ∷ []) h ∙ ap (λ (y : ℕ). front ++ y ∷ []) is

-- one more field of it
pub front_field : (k n : ℕ) → IsWidth n → (bytes front : List ℕ) (x : ℕ) → k + n ≤ length bytes → IsBytes bytes → x ≡ big_number n (drop k bytes) → take k bytes ≡ front → take (k + n) bytes ≡ front ++ big_bytes n x
front_field k n wide bytes front x room fits is h =
    take-add k n bytes ∙ ap (λ (l : List ℕ). l ++ take n (drop k bytes)) h ∙ ap (λ (l : List ℕ). front ++ l) (field_is k n wide bytes room fits ∙ ap (big_bytes n) (sym is))
