-- Datagrams, cut where their seals begin.
use Rattle.std.proofs.Common.{◌≡◌, ◌≢◌, ℕ, zero, suc, ◌-◌, ◌<◌, ◌≤◌, ◌⊎◌, inl, inr, List, [], ◌∷◌, ◌++◌, length, take, drop, Bool, true, false, refl, sym, ap, ap₂, ◌∙◌, arith, length-append, ⊎_elim}
use Rattle.std.specs.Prelude.{Contains}
use Rattle.std.specs.List.{slice_index_or}
use Rattle.std.specs.Str.{bytes_eq}
use Rattle.std.proofs.Math.Seq.{take-append_seam, drop-append_seam}
use Rattle.std.proofs.lemmas.List.{length-take-le, length-drop, take-append-drop}
use Rattle.std.proofs.lemmas.List.Elements.{Contains-append_right}
use Rattle.std.proofs.lemmas.Bool.{both_ways}
use Rattle.std.proofs.lemmas.Slice.Eq.{bytes_eq-Decides}
use Rattle.sha2.proofs.Facts256.{length-sha256}
use Rattle.sha2.specs.Sha256.{sha256}
use Rattle.datagram_seals.specs.frames.Hmac.{keyed_digest, masked}
use Rattle.datagram_seals.specs.frames.Seals.{differing_bits, seal_of, sealed}
use Rattle.datagram_seals.specs.frames.SealLaws.{OneFrameIsSealedSo, SealedOrForged}
use Rattle.datagram_seals.proofs.frames_lemmas.Differences.{same_from_no_bits, none_from_itself}

digest_long : (secret frame : List ℕ) → length (keyed_digest secret frame) ≡ 32
unfolding keyed_digest
digest_long secret frame = length-sha256 (masked 0x5c secret ++ sha256 (masked 0x36 secret ++ frame))

pub seal_long : (secret frame : List ℕ) → length (seal_of secret frame) ≡ 16
seal_long secret frame = length-take-le 16 (keyed_digest secret frame) (omega (arith, digest_long secret frame))

-- where the seal begins
seam : (secret d frame : List ℕ) → d ≡ sealed secret frame → length d - 16 ≡ length frame
seam secret d frame is = omega (arith, ap length is, length-append frame (seal_of secret frame), seal_long secret frame)

long_enough : (secret d frame : List ℕ) → d ≡ sealed secret frame → 16 ≤ length d
long_enough secret d frame is = omega (arith, ap length is, length-append frame (seal_of secret frame), seal_long secret frame)

front_is : (secret d frame : List ℕ) → d ≡ sealed secret frame → take (length d - 16) d ≡ frame
front_is secret d frame is =
    ap₂ take (seam secret d frame is) is ∙ take-append_seam frame (seal_of secret frame)

back_is : (secret d frame : List ℕ) → d ≡ sealed secret frame → drop (length d - 16) d ≡ seal_of secret frame
back_is secret d frame is =
    ap₂ drop (seam secret d frame is) is ∙ drop-append_seam frame (seal_of secret frame)

-- what is shorter than a seal is sealed of nothing
pub too_short : (secret d : List ℕ) → length d < 16 → (frame : List ℕ) → d ≢ sealed secret frame
too_short secret d short frame is = omega (arith, long_enough secret d frame is)

-- where no bit of the seals differs
pub opened : (secret d front back : List ℕ) → 16 ≤ length d → front ≡ take (length d - 16) d → back ≡ drop (length d - 16) d → differing_bits (seal_of secret front) back ≡ 0 → d ≡ sealed secret front
opened secret d front back long is behind none =
    let whole : front ++ back ≡ d = ap₂ (λ x y. x ++ y) is behind ∙ take-append-drop (length d - 16) d in
    let sixteen : length (seal_of secret front) ≡ length back = omega (arith, seal_long secret front, ap length behind, length-drop (length d - 16) d) in
    sym whole ∙ ap (λ x. front ++ x) (sym (same_from_no_bits (seal_of secret front) back sixteen none))

-- where some bit does
pub not_opened : (secret d front back : List ℕ) → front ≡ take (length d - 16) d → back ≡ drop (length d - 16) d → differing_bits (seal_of secret front) back ≢ 0 → (frame : List ℕ) → d ≢ sealed secret frame
not_opened secret d front back is behind some frame sealed_so =
    let same : front ≡ frame = is ∙ front_is secret d frame sealed_so in
    let seal : back ≡ seal_of secret frame = behind ∙ back_is secret d frame sealed_so in
    some (ap₂ differing_bits (ap (seal_of secret) same) seal ∙ none_from_itself (seal_of secret frame))

pub one_frame : OneFrameIsSealedSo
one_frame secret frame other same =
    sym (front_is secret (sealed secret frame) frame refl) ∙ front_is secret (sealed secret frame) other same

-- ---- who sealed it

first_or_later : (x : List ℕ) (xs : List (List ℕ)) (f : List ℕ) (k : ℕ) → k < length (x ∷ xs) → slice_index_or (x ∷ xs) k f ≡ f → (x ≡ f) ⊎ Contains xs f
first_or_later x xs f zero lt is = inl is
first_or_later x xs f (suc k) lt is = inr (k, omega (arith, lt), is)

is_among_or_not : (xs : List (List ℕ)) (f : List ℕ) → Contains xs f ⊎ (¬ Contains xs f)
is_among_or_not [] f = inr (λ c. omega (arith, c.1))
is_among_or_not (x ∷ xs) f = by_test (bytes_eq x f) refl (is_among_or_not xs f)
  where
    by_test : (b : Bool) → bytes_eq x f ≡ b → Contains xs f ⊎ (¬ Contains xs f) → Contains (x ∷ xs) f ⊎ (¬ Contains (x ∷ xs) f)
    by_test true e later = inl (0, omega arith, (bytes_eq-Decides x f).0 e)
    by_test false e (inl there) = inl (Contains-append_right (x ∷ []) xs f there)
    by_test false e (inr nowhere) =
        inr (λ c. ⊎_elim (λ same. both_ways (bytes_eq x f) e ((bytes_eq-Decides x f).1 same)) nowhere (first_or_later x xs f c.0 c.1 c.2))

pub sealed_or_forged : SealedOrForged
sealed_or_forged secret were_sealed datagram frame is =
    ⊎_elim inl (λ never. inr (record { frame = frame; is_sealed = is; never = never })) (is_among_or_not were_sealed frame)
