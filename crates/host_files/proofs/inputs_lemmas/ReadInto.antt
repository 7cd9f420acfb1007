-- Bytes that were read into room behind others, and what is cut off again.
use Rattle.std.proofs.Common.{◌≡◌, ℕ, zero, suc, ◌+◌, ◌≤◌, List, [], ◌∷◌, ◌++◌, length, take, refl, sym, ap, ◌∙◌, append_assoc, arith}
use Rattle.std.proofs.lemmas.List.{take-append-le, take_all}

short : (xs : List ℕ) (n len : ℕ) → n ≤ len → take n (take len xs) ≡ take n xs
short xs zero len le = refl
short xs (suc n) zero le = absurd (omega (arith, le))
short [] (suc n) (suc len) le = refl
short (x ∷ xs) (suc n) (suc len) le = ap (λ l. x ∷ l) (short xs n len (omega (arith, le)))

front : (old zs : List ℕ) (n : ℕ) → take (length old + n) (old ++ zs) ≡ old ++ take n zs
front [] zs n = let e : 0 + n ≡ n = omega arith in ap (λ k. take k zs) e
front (x ∷ old) zs n = let e : length (x ∷ old) + n ≡ suc (length old + n) = omega arith in ap (λ k. take k (x ∷ (old ++ zs))) e ∙ ap (λ l. x ∷ l) (front old zs n)

-- what stood before the room
pub kept : (old zeros now items : List ℕ) (held most : ℕ) → length old ≡ held → held ≤ most → now ≡ items → items ≡ take most old ++ zeros → take held now ≡ old
kept old zeros now items held most size le is made =
    ap (take held) (is ∙ made ∙ ap (λ l. l ++ zeros) (take_all most old (omega (arith, size, le))))
    ∙ take-append-le held old zeros (omega (arith, size))
    ∙ take_all held old (omega (arith, size))

pub read_in : (old now buf post rest : List ℕ) (held n len : ℕ) → length old ≡ held → take held now ≡ old → n ≤ length buf → held + n ≤ len → take (held + n) (take len ((take held now ++ (buf ++ post)) ++ rest)) ≡ old ++ take n buf
read_in old now buf post rest held n len size e few le =
    short ((take held now ++ (buf ++ post)) ++ rest) (held + n) len le
    ∙ ap (λ l. take (held + n) ((l ++ (buf ++ post)) ++ rest)) e
    ∙ ap (take (held + n)) (append_assoc old (buf ++ post) rest)
    ∙ ap (λ k. take (k + n) (old ++ ((buf ++ post) ++ rest))) (sym size)
    ∙ front old ((buf ++ post) ++ rest) n
    ∙ ap (λ l. old ++ l) (ap (take n) (append_assoc buf post rest) ∙ take-append-le n buf (post ++ rest) few)

pub read_none : (old now buf post rest : List ℕ) (held len : ℕ) → length old ≡ held → take held now ≡ old → held ≤ len → take held (take len ((take held now ++ (buf ++ post)) ++ rest)) ≡ old ++ []
read_none old now buf post rest held len size e le =
    let nought : held ≡ held + 0 = omega arith in
    ap (λ k. take k (take len ((take held now ++ (buf ++ post)) ++ rest))) nought ∙ read_in old now buf post rest held 0 len size e (omega arith) (omega (arith, le))
