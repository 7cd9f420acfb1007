-- What follows of windows.
use Rattle.std.proofs.Common.{◌≡◌, ℕ, zero, suc, ◌+◌, ◌-◌, ◌<◌, ◌≤◌, true, IsTrue, List, [], ◌∷◌, ◌++◌, drop, get_or, Option, Some, None, ◌⊎◌, inl, inr, refl, ap, ◌∙◌, subst, arith}
use Rattle.std.specs.Prelude.{◌==◌, nat_le, slice_get}
use Rattle.std.proofs.lemmas.List.{length-drop}
use Rattle.std.proofs.lemmas.Bool.{cond_both, eqb-true, eqb-false, leb-true, leb-false, and_parts, and_from}
use Rattle.bottle_values.specs.ListLaws.{get-set}
use Rattle.bottle_values.specs.declared.version.Version.{Version}
use Rattle.frame_codec.specs.Frame.{carries}
use Rattle.frame_codec.specs.declared.message.Msg.{Msg}
use Rattle.window_link.specs.declared.arrival.Arrival.{Arrival}
use Rattle.window_link.specs.declared.arrival.Arrival.TheVariants.{Acked, Fresh, Repeat, Kept, Early}
use Rattle.window_link.specs.Windows.{Sending, are_carried, used, acknowledged, arrival, kept_or, kept_with, kept_after}
use Rattle.window_link.specs.Limits.{most_kept}

-- what a number is, by where it stands
abbrev pub Stands : ℕ → ℕ → Msg → Arrival → Type 0
Stands taken number msg (Fresh m) = (number ≡ taken + 1) × (msg ≡ m)
Stands taken number msg Repeat = number ≤ taken
Stands taken number msg Kept = (taken + 1 < number) × (number ≤ taken + most_kept)
Stands taken number msg Early = taken + most_kept < number
Stands taken number msg Acked = ⊥

pub stands : (taken number : ℕ) (msg : Msg) → Stands taken number msg (arrival taken number msg)
stands taken number msg =
    cond_both {A = Arrival} (nat_le number taken) _ _ (Stands taken number msg)
    (λ old. leb-true number taken old)
    (λ new. cond_both {A = Arrival} (number == taken + 1) _ _ (Stands taken number msg)
    (λ next. (eqb-true number (taken + 1) next, refl))
    (λ other. cond_both {A = Arrival} (nat_le number (taken + most_kept)) _ _ (Stands taken number msg)
    (λ near. (omega (arith, leb-false number taken new, eqb-false number (taken + 1) other), leb-true number (taken + most_kept) near))
    (λ far. leb-false number (taken + most_kept) far)))

-- a count that isn't ahead uses no number
pub known_used : (s : Sending) (count : ℕ) → count ≤ used s → used (acknowledged s count) ≡ used s
known_used s count h = omega (arith, h, length-drop (count - s.acked) s.waiting)

-- ---- what is kept after a step

get-push : {X : Type 0} (xs : List X) (k : ℕ) (d : X) → get_or (xs ++ d ∷ []) k d ≡ get_or xs k d
get-push [] zero d = refl
get-push [] (suc k) d = refl
get-push (x ∷ xs) zero d = refl
get-push (x ∷ xs) (suc k) d = get-push xs k d

-- what is kept of a number, after the next one was taken
pub get-after : (ks : List (Option Msg)) (k : ℕ) → get_or (kept_after ks) k None ≡ get_or ks (suc k) None
get-after [] zero = refl
get-after [] (suc k) = refl
get-after (x ∷ xs) k = get-push xs k None

-- what is kept of a number with a message more is what was kept, or the message
pub get-with : (ks : List (Option Msg)) (i k : ℕ) (msg m : Msg) → get_or (kept_with ks i msg) k None ≡ Some m → (get_or ks k None ≡ Some m) ⊎ ((k ≡ i) × (msg ≡ m))
get-with ks i k msg m e = elim (get-set ks i k (kept_or (get_or ks i None) msg) None (Some m) e) [
  | inl here ↦ new (get_or ks i None) refl here.0 here.1
  | inr old ↦ inl old
]
  where
    new : (o : Option Msg) → get_or ks i None ≡ o → k ≡ i → kept_or o msg ≡ Some m → (get_or ks k None ≡ Some m) ⊎ ((k ≡ i) × (msg ≡ m))
    new None is same h = inr (same, cc)
    new (Some there) is same h = inl (ap (λ x. get_or ks x None) same ∙ is ∙ h)

-- ---- what is carried

-- with one message more
pub carried_more : (version : Version) (ms : List Msg) (m : Msg) → IsTrue (are_carried version ms) → IsTrue (carries version m) → IsTrue (are_carried version (ms ++ m ∷ []))
carried_more version [] m all one = and_from (carries version m) true one refl
carried_more version (x ∷ ms) m all one =
    let parts = and_parts (carries version x) (are_carried version ms) all in
    and_from (carries version x) (are_carried version (ms ++ m ∷ [])) parts.0 (carried_more version ms m parts.1 one)

-- without the first ones
pub carried_after : (version : Version) (n : ℕ) (ms : List Msg) → IsTrue (are_carried version ms) → IsTrue (are_carried version (drop n ms))
carried_after version zero ms all = all
carried_after version (suc n) [] all = all
carried_after version (suc n) (x ∷ ms) all = carried_after version n ms (and_parts (carries version x) (are_carried version ms) all).1

-- each of them
pub carried_each : (version : Version) (ms : List Msg) (i : ℕ) (m : Msg) → IsTrue (are_carried version ms) → slice_get ms i ≡ Some m → IsTrue (carries version m)
carried_each version [] i m all is = absurd cc
carried_each version (x ∷ ms) zero m all is =
    let same : x ≡ m = cc in subst (λ k. IsTrue (carries version k)) same (and_parts (carries version x) (are_carried version ms) all).0
carried_each version (x ∷ ms) (suc i) m all is =
    carried_each version ms i m (and_parts (carries version x) (are_carried version ms) all).1 is
