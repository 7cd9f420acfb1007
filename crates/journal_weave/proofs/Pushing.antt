-- A merge as it starts, and with one entry more.
use Rattle.std.proofs.Common.{◌≡◌, ◌≢◌, ℕ, zero, suc, ◌+◌, ◌<◌, ◌≤◌, List, [], ◌∷◌, ◌++◌, length, map, sum, take, get_or, set, Some, refl, sym, ap, subst, ◌∙◌, arith, ⊎_elim}
use Rattle.std.specs.Prelude.{slice_get, replicate}
use Rattle.std.proofs.lemmas.Bool.{cases_eq, cases_lt}
use Rattle.std.proofs.lemmas.List.{length-replicate, get_or-map, get_or-replicate, get_or_past, get_or-set_same, get_or-set_other}
use Rattle.std.specs.Option.{option_and_then}
use Rattle.std.proofs.lemmas.Option.{slice_get-get_or}
use Rattle.std.proofs.lemmas.List.Sums.{sum_by-set}
use Rattle.std.specs.declared.cmp.Ordering.{Ordering}
use Rattle.office_map.specs.PlanValue.{PlanValue}
use Rattle.office_journal.specs.declared.event.Entry.{Entry}
use Rattle.office_journal.specs.Replies.{frame_told}
use Rattle.frame_world.specs.declared.event.WorldEvent.{WorldEvent}
use Rattle.frame_world.specs.Worlds.{opening, frames_of, run_of}
use Rattle.frame_world.specs.Sent.{entry_tells, told_in}
use Rattle.journal_weave.specs.declared.key.FrameKey.{FrameKey}
use Rattle.journal_weave.specs.declared.merge.Merge.{Merge}
use Rattle.journal_weave.specs.Weaving.{untagged}
use Rattle.journal_weave.specs.ReplayValue.{ReplayValue}
use Rattle.journal_weave.specs.Replays.{given}
use Rattle.journal_weave.specs.refinement.Merging.{IsEventAt, told_by, Knows, GoesOn, IsMerged, IsWithin, AreFollowed, Has, Follows}
use Rattle.journal_weave.proofs.AcceptedEvents.{nothing_told}
use Rattle.journal_weave.proofs.Merging.{has_more, frames_after}

-- how many entries of each office a merge has
abbrev pub at_of : Merge → ℕ → ℕ
at_of m a = get_or m.at.items a 0

pub nought_at : (n a : ℕ) → ◌≡◌ {A = ℕ} (get_or (replicate n 0) a 0) 0
nought_at n a = ⊎_elim (λ lt. get_or-replicate n a 0 0 lt) (λ ge. get_or_past (replicate n 0) a 0 (omega (arith, ge, length-replicate {A = ℕ} n 0))) (cases_lt a n)

pub starts : (C : FrameKey → FrameKey → Ordering) (rs : List ReplayValue) (m : Merge) (n : ℕ) → m.at.items ≡ replicate n 0 → Knows C rs m.sent [] → (plan : PlanValue) (told : ℕ → List Entry) → IsMerged C rs plan told m []
starts C rs m n at knows plan told = record {
  accepted = tt;
  has = λ a. nothing_told plan a ∙ ap (λ k. map untagged (take k (told a))) (sym (ap (λ l. get_or l a 0) at ∙ nought_at n a));
  sent = knows;
}

pub starts_within : (at : List ℕ) (n : ℕ) → at ≡ replicate n 0 → (rs : List ReplayValue) (a : ℕ) → get_or at a 0 ≤ get_or (map given rs) a 0
starts_within at n are rs a = omega (arith, ap (λ l. get_or l a 0) are ∙ nought_at n a)

-- ---- what is told of an entry that an office has

pub told_from : (n : ℕ) (xs ys : List Entry) (i : ℕ) (x : Entry) → take n ys ≡ map untagged (take n xs) → i < n → slice_get ys i ≡ Some x → (y : Entry) × (slice_get xs i ≡ Some y) × (untagged y ≡ x)
told_from zero xs ys i x e lt at = absurd (omega (arith, lt))
told_from (suc n) xs [] zero x e lt at = cc
told_from (suc n) xs [] (suc i) x e lt at = cc
told_from (suc n) [] (y ∷ ys) i x e lt at = cc
told_from (suc n) (z ∷ xs) (y ∷ ys) zero x e lt at = (z, refl, cc)
told_from (suc n) (z ∷ xs) (y ∷ ys) (suc i) x e lt at = let rest : take n ys ≡ map untagged (take n xs) = cc in told_from n xs ys i x rest (omega (arith, lt)) at

-- ---- one entry more

pub pushed : (C : FrameKey → FrameKey → Ordering) (rs : List ReplayValue) (m m' : Merge) (a : ℕ) (x : Entry) (e : WorldEvent) (r : ReplayValue) → a < length m.at.items → a < length rs → r ≡ get_or rs a r → GoesOn C rs m m' a x e →
    at_of m a < given r → slice_get r.site.entries (at_of m a) ≡ Some x →
    (plan : PlanValue) (told : ℕ → List Entry) (es : List WorldEvent) → length rs ≡ length plan.offices → AreFollowed plan told rs → IsMerged C rs plan told m es → IsMerged C rs plan told m' (es ++ e ∷ [])
pushed C rs m m' a x e r office there is g below at plan told es size followed merged =
    let f = followed a r there is in
    let y = told_from (given r) (told a) r.site.entries (at_of m a) x f.1 below at in
    let has : Has plan told (at_of m) es = record { accepted = merged.accepted; entries = merged.has } in
    let goes : Follows plan told (at_of m) es a y.0 e = record {
      has = has;
      inside = omega (arith, there, size);
      next = y.1;
      gives = f.0.follows (at_of m a) y.0 below y.1;
      is = subst (λ (z : Entry). IsEventAt (run_of (opening plan) es).frames a z.event e) (sym y.2) (g.is (run_of (opening plan) es).frames merged.sent);
    } in
    let here : at_of m' a ≡ at_of m a + 1 = ap (λ l. get_or l a 0) g.at ∙ get_or-set_same m.at.items a (at_of m a + 1) 0 office in
    let others : (b : ℕ) → b ≢ a → at_of m' b ≡ at_of m b = λ b ne. ap (λ l. get_or l b 0) g.at ∙ get_or-set_other m.at.items a b (at_of m a + 1) 0 ne in
    let tells : told_by rs (record { office = a; entry = at_of m a }) ≡ frame_told x.reply =
    ap (option_and_then (λ (q : ReplayValue). told_in q.site.entries (at_of m a))) (slice_get-get_or rs a r there ∙ ap Some (sym is)) ∙ ap (option_and_then entry_tells) at in
    let more : Has plan told (at_of m') (es ++ e ∷ []) = has_more plan told (at_of m) es a y.0 e goes (at_of m') here others in
    record {
      accepted = more.accepted;
      has = more.entries;
      sent = subst (Knows C rs m'.sent) (sym (frames_after plan told (at_of m) es a y.0 e goes))
          (subst (λ (z : Entry). Knows C rs m'.sent ((run_of (opening plan) es).frames ++ frames_of z.reply)) (sym y.2) (g.sent tells (run_of (opening plan) es).frames merged.sent));
    }

pub within_more : (m m' : Merge) (a : ℕ) (rs : List ReplayValue) (r : ReplayValue) → a < length m.at.items → a < length rs → r ≡ get_or rs a r → m'.at.items ≡ set m.at.items a (at_of m a + 1) → at_of m a < given r → IsWithin rs m → IsWithin rs m'
within_more m m' a rs r office there is at below h b = ⊎_elim
    (λ same.
    let limit : get_or (map given rs) a 0 ≡ given r = get_or-map given rs a r 0 there ∙ ap given (sym is) in
    let here : at_of m' a ≡ at_of m a + 1 = ap (λ l. get_or l a 0) at ∙ get_or-set_same m.at.items a (at_of m a + 1) 0 office in
    subst (λ c. at_of m' c ≤ get_or (map given rs) c 0) (sym same) (omega (arith, here, below, limit)))
    (λ ne. omega (arith, ap (λ l. get_or l b 0) at ∙ get_or-set_other m.at.items a b (at_of m a + 1) 0 ne, h b))
    (cases_eq b a)

pub sum_more : (m m' : Merge) (a : ℕ) → a < length m.at.items → m'.at.items ≡ set m.at.items a (at_of m a + 1) → sum m'.at.items ≡ sum m.at.items + 1
sum_more m m' a office at = omega (arith, ap sum at, sum_by-set (λ x. x) m.at.items a (at_of m a + 1) 0 office)
