-- Which of the ways to read a word's text was taken.
use Rattle.std.proofs.Common.{◌≡◌, ◌≢◌, ◌≤◌, ◌<◌, ◌+◌, ◌⊎◌, ℕ, suc, List, [], length, take, codes, Option, Some, refl, sym, ap, subst, ◌∙◌, inl, inr, arith}
use Rattle.std.proofs.Math.Nat.{min-le_left}
use Rattle.std.proofs.lemmas.Bool.{cases_lt}
use Rattle.std.proofs.lemmas.List.{take_all, length-take, length-take-le}
use Rattle.host_files.specs.inputs.Cut.{IsCut}
use Rattle.host_files.specs.inputs.Words.{Unread, HasText, IsReadUpTo, file, last, part}

-- a text was read, and what is left is what the definition says
abbrev pub IsRead : ℕ → (text read : List ℕ) → (now after : Unread) → Type 0
IsRead limit text read now after = IsReadUpTo limit text read × (length read ≤ limit → now ≡ after)

abbrev pub AllIsRead : ℕ → Unread → List ℕ → Unread → Type 0
AllIsRead limit u read now = (text : List ℕ) → u.bytes ≡ Some text → IsRead limit text read now (record { parts = 0; bytes = Some [] })

pub last_of : (files : List ℕ → Option (List ℕ)) (u : Unread) (text : List ℕ) (after : Unread) (limit : ℕ) (read : List ℕ) (now : Unread) → u.parts < 2
    → AllIsRead limit u read now → HasText files u (codes "-") text after → IsRead limit text read now after
last_of files u text after limit read now few h (file other e a) = absurd (other refl)
last_of files u text after limit read now few h (last w p e a) = let it = h text e in (it.0, λ s. it.1 s ∙ sym a)
last_of files u text after limit read now few h (part n rest back w p e cut a) = absurd (omega (arith, few, p))

abbrev pub PartIsRead : ℕ → Unread → List ℕ → Unread → Type 0
PartIsRead limit u read now = (n : ℕ) (rest text back : List ℕ) → u.parts ≡ suc (suc n) → u.bytes ≡ Some rest → IsCut rest text back
    → IsRead limit text read now (record { parts = suc n; bytes = Some back })

pub part_of : (files : List ℕ → Option (List ℕ)) (u : Unread) (text : List ℕ) (after : Unread) (limit : ℕ) (read : List ℕ) (now : Unread) → 2 ≤ u.parts
    → PartIsRead limit u read now → HasText files u (codes "-") text after → IsRead limit text read now after
part_of files u text after limit read now many h (file other e a) = absurd (other refl)
part_of files u text after limit read now many h (last w p e a) = absurd (omega (arith, many, p))
part_of files u text after limit read now many h (part n rest back w p e cut a) =
    let it = h n rest text back p e cut in (it.0, λ s. it.1 s ∙ sym a)

pub file_of : (files : List ℕ → Option (List ℕ)) (u : Unread) (word text : List ℕ) (after : Unread) (limit : ℕ) (read : List ℕ) → word ≢ codes "-"
    → ((text : List ℕ) → files word ≡ Some text → IsReadUpTo limit text read) → HasText files u word text after → IsRead limit text read u after
file_of files u word text after limit read other h (file w e a) = (h text e, λ s. sym a)
file_of files u word text after limit read other h (last w p e a) = absurd (other w)
file_of files u word text after limit read other h (part n rest back w p e cut a) = absurd (other w)

-- ---- one byte past the limit shows what all of it shows

cut_is_read : (limit : ℕ) (text read : List ℕ) → (limit + 1 < length read) ⊎ (length read ≤ limit + 1) → IsReadUpTo limit text read
    → IsReadUpTo limit text (take (limit + 1) read)
cut_is_read limit text read (inr short) h = subst (IsReadUpTo limit text) (sym (take_all (limit + 1) read short)) h
cut_is_read limit text read (inl long) (inl e) =
    let size = length-take-le (limit + 1) read (omega (arith, long)) in
    let whole : length read ≡ length text = ap length e in
    inr (omega (arith, size), omega (arith, long, whole))
cut_is_read limit text read (inl long) (inr h) =
    let size = length-take-le (limit + 1) read (omega (arith, long)) in inr (omega (arith, size), h.1)

cut_is_short : (limit : ℕ) (read : List ℕ) → (limit + 1 < length read) ⊎ (length read ≤ limit + 1) → length (take (limit + 1) read) ≤ limit
    → length read ≤ limit
cut_is_short limit read (inr short) h = subst (λ x. length x ≤ limit) (take_all (limit + 1) read short) h
cut_is_short limit read (inl long) h =
    let size = length-take-le (limit + 1) read (omega (arith, long)) in absurd (omega (arith, size, h))

pub cut_of : (limit : ℕ) (text read : List ℕ) (now after : Unread) → IsRead limit text read now after
    → IsRead limit text (take (limit + 1) read) now after
cut_of limit text read now after h =
    let cases = cases_lt (limit + 1) (length read) in
    (cut_is_read limit text read cases h.0, λ short. h.1 (cut_is_short limit read cases short))

pub cut_bounded : (limit : ℕ) (read : List ℕ) → length (take (limit + 1) read) ≤ limit + 1
cut_bounded limit read = let size = length-take (limit + 1) read in omega (arith, size, min-le_left (limit + 1) (length read))
