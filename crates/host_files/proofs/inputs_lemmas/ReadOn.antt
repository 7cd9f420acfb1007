-- What a reader gave, and what is left of the text.
use Rattle.std.proofs.Common.{◌≡◌, ◌⊎◌, ◌+◌, ◌≤◌, ℕ, List, [], ◌++◌, length, Option, Some, None, refl, sym, subst, ap, ◌∙◌, append_assoc, arith, length-append, inl, inr}
use Rattle.std.proofs.lemmas.List.{append-nil}
use Rattle.std.proofs.lemmas.Option.{none-some, same_Some}
use Rattle.std.specs.Io.KnownBytes.{Consumes, IsAtEnd, Keeps}
use Rattle.host_files.specs.inputs.Cut.{IsCut}
use Rattle.host_files.specs.inputs.Words.{IsReadUpTo}
use Rattle.host_files.specs.inputs.refinement.Reading.{Grows, IsFilled, left}
use Rattle.host_files.proofs.inputs_lemmas.CutOfPrefix.{cut_of_prefix}

-- of a text that is known the buffer has the beginning, and the reader the rest
abbrev HasRest : Option (List ℕ) → List ℕ → ℕ → List ℕ → Type 0
HasRest new bytes most rest = (more : List ℕ) × (rest ≡ bytes ++ more) × ((most ≤ length bytes) ⊎ (more ≡ [])) × (new ≡ Some more)

has_rest : (old new : Option (List ℕ)) (before bytes : List ℕ) (most : ℕ) (rest : List ℕ) → IsFilled old new before bytes most → left before old ≡ Some rest
    → HasRest new bytes most rest
has_rest None new before bytes most rest h e = absurd (none-some rest e)
has_rest (Some xs) None before bytes most rest h e = absurd h.taken
has_rest (Some xs) (Some ys) before bytes most rest h e =
    let whole : rest ≡ before ++ xs = sym (same_Some (before ++ xs) rest e) in
    let parts : rest ≡ (before ++ h.got) ++ ys = whole ∙ ap (λ x. before ++ x) h.taken ∙ sym (append_assoc before h.got ys) in
    (ys, parts ∙ ap (λ b. b ++ ys) (sym h.grown), h.full, refl)

-- ---- a part that a cut ends

abbrev PartRead : ℕ → (text read : List ℕ) → (now after : Option (List ℕ)) → Type 0
PartRead limit text read now after = IsReadUpTo limit text read × (length read ≤ limit → now ≡ after)

pub part_read : (limit : ℕ) (old new : Option (List ℕ)) (before bytes front back rest text after : List ℕ)
    → IsFilled old new before bytes (limit + 1 + 5) → left before old ≡ Some rest → IsCut bytes front back → IsCut rest text after
    → PartRead limit text front (left back new) (Some after)
part_read limit old new before bytes front back rest text after filled known cut whole =
    let it = has_rest old new before bytes (limit + 1 + 5) rest filled known in
    let size : limit + 1 + 5 ≡ limit + 6 = omega arith in
    let full : (limit + 6 ≤ length bytes) ⊎ (it.0 ≡ []) = subst (λ n. (n ≤ length bytes) ⊎ (it.0 ≡ [])) size it.2 in
    let good = cut_of_prefix limit bytes it.0 front back text after full cut (subst (λ r. IsCut r text after) it.1 whole) in
    (good.0, λ short. ap (left back) it.3 ∙ ap Some (sym (good.1 short)))

-- ---- the last part, or a file

all_of : (limit : ℕ) (bytes rest : List ℕ) (now : Option (List ℕ)) (more : List ℕ) → rest ≡ bytes ++ more
    → (limit + 1 ≤ length bytes) ⊎ (more ≡ []) → now ≡ Some more → PartRead limit rest bytes now (Some [])
all_of limit bytes rest now more whole (inl full) now_is =
    let size : length rest ≡ length bytes + length more = ap length whole ∙ length-append bytes more in
    (inr (omega (arith, full), omega (arith, full, size)), λ short. absurd (omega (arith, short, full)))
all_of limit bytes rest now more whole (inr none) now_is =
    (inl (sym (whole ∙ ap (λ m. bytes ++ m) none ∙ append-nil bytes)), λ short. now_is ∙ ap Some none)

pub all_read : (limit : ℕ) (old new : Option (List ℕ)) (before bytes rest : List ℕ) → IsFilled old new before bytes (limit + 1)
    → left before old ≡ Some rest → PartRead limit rest bytes (left [] new) (Some [])
all_read limit old new before bytes rest filled known =
    let it = has_rest old new before bytes (limit + 1) rest filled known in
    all_of limit bytes rest (left [] new) it.0 it.1 it.2 (ap (left []) it.3)

-- ---- one read more

consumed_more : (old mid new : Option (List ℕ)) (got part : List ℕ) → Consumes old mid got → Consumes mid new part → Consumes old new (got ++ part)
consumed_more None mid new got part h k = tt
consumed_more (Some xs) None new got part h k = absurd h
consumed_more (Some xs) (Some ys) None got part h k = absurd k
consumed_more (Some xs) (Some ys) (Some zs) got part h k = h ∙ ap (λ y. got ++ y) k ∙ sym (append_assoc got part zs)

pub more_read : (old mid new : Option (List ℕ)) (before bytes part grown : List ℕ) → Grows old mid before bytes → Consumes mid new part
    → grown ≡ bytes ++ part → Grows old new before grown
more_read old mid new before bytes part grown (got, e, h) k g =
    (got ++ part, g ∙ ap (λ b. b ++ part) e ∙ append_assoc before got part, consumed_more old mid new got part h k)

consumed_none : (old mid new : Option (List ℕ)) (got : List ℕ) → Consumes old mid got → Keeps mid new → Consumes old new got
consumed_none None mid new got h k = tt
consumed_none (Some xs) None new got h k = absurd h
consumed_none (Some xs) (Some ys) None got h k = absurd k
consumed_none (Some xs) (Some ys) (Some zs) got h k = h ∙ ap (λ y. got ++ y) (sym k)

pub none_read : (old mid new : Option (List ℕ)) (before bytes : List ℕ) → Grows old mid before bytes → Keeps mid new → Grows old new before bytes
none_read old mid new before bytes (got, e, h) k = (got, e, consumed_none old mid new got h k)

-- one buffer after the other
pub grows_on : (old mid new : Option (List ℕ)) (before bytes grown : List ℕ) → Grows old mid before bytes → Grows mid new bytes grown → Grows old new before grown
grows_on old mid new before bytes grown h (part, e, k) = more_read old mid new before bytes part grown h k e

pub as_filled : (old new : Option (List ℕ)) (before bytes : List ℕ) (most : ℕ) → Grows old new before bytes → (most ≤ length bytes) ⊎ IsAtEnd new → IsFilled old new before bytes most
as_filled old new before bytes most (got, e, k) full = record { got = got; grown = e; taken = k; full = full }

pub grows_none : (old : Option (List ℕ)) (bytes : List ℕ) → Grows old old bytes bytes
grows_none None bytes = ([], sym (append-nil bytes), tt)
grows_none (Some xs) bytes = ([], sym (append-nil bytes), refl)
