-- The end of a merge: how far each office is then is the furthest, and what that says of the journals.
use Rattle.std.proofs.Common.{◌≡◌, ℕ, zero, suc, ◌+◌, ◌≤◌, Bool, true, false, List, [], ◌∷◌, length, map, sum, take, get_or, refl, sym, ap, ◌∙◌, arith, ⊎_elim, append-nil}
use Rattle.std.specs.Prelude.{IsTrue, All, if◌then◌else◌}
use Rattle.std.proofs.lemmas.Bool.{cases_lt}
use Rattle.std.proofs.lemmas.List.{length-append, length-map}
use Rattle.std.proofs.lemmas.List.Sums.{sum_by-cons}
use Rattle.std.proofs.Math.Seq.{take-length}
use Rattle.std.specs.declared.cmp.Ordering.{Ordering}
use Rattle.office_map.specs.PlanValue.{PlanValue}
use Rattle.office_journal.specs.declared.event.Entry.{Entry}
use Rattle.frame_world.specs.declared.event.WorldEvent.{WorldEvent}
use Rattle.frame_world.specs.Worlds.{opening, run_of}
use Rattle.journal_weave.specs.declared.given.GivenJournal.{GivenJournal}
use Rattle.journal_weave.specs.declared.key.FrameKey.{FrameKey}
use Rattle.journal_weave.specs.declared.merge.Merge.{Merge}
use Rattle.journal_weave.specs.Weaving.{untagged, entries_at, IsWoven, GoesAlong}
use Rattle.journal_weave.specs.Given.{told_in, lines_of, IsWovenFrom, AreFurthest, Stands}
use Rattle.journal_weave.specs.Laws.{NoneGoesFurther}
use Rattle.journal_weave.specs.ReplayValue.{ReplayValue}
use Rattle.journal_weave.specs.refinement.Merging.{IsMerged, Has}
use Rattle.journal_weave.proofs.Merging.{Cannot, no_way, goes_along, has_all}
use Rattle.journal_weave.proofs.Pushing.{at_of}

-- lists of numbers, place by place
pub sum_le : (xs ys : List ℕ) → ((i : ℕ) → get_or xs i 0 ≤ get_or ys i 0) → sum xs ≤ sum ys
sum_le [] ys h = omega arith
sum_le (x ∷ xs) [] h =
    let rest : sum xs ≤ 0 = sum_le xs [] (λ i. h (suc i)) in
    let first : x ≤ 0 = h 0 in
    let of : sum (x ∷ xs) ≡ x + sum xs = sum_by-cons (λ n. n) x xs in
    omega (arith, of, first, rest)
sum_le (x ∷ xs) (y ∷ ys) h =
    let rest : sum xs ≤ sum ys = sum_le xs ys (λ i. h (suc i)) in
    let first : x ≤ y = h 0 in
    let of : sum (x ∷ xs) ≡ x + sum xs = sum_by-cons (λ n. n) x xs in
    let of_ys : sum (y ∷ ys) ≡ y + sum ys = sum_by-cons (λ n. n) y ys in
    omega (arith, of, of_ys, first, rest)

-- ---- what is told

pub lines_whole : (journals : List GivenJournal) → All (λ (j : GivenJournal). IsTrue j.ends) journals → (a : ℕ) → lines_of journals a ≡ length (told_in journals a)
lines_whole [] h a = refl
lines_whole (j ∷ journals) h zero = let ends : j.ends ≡ true = h 0 j (omega arith) in ap (λ b. length j.entries.items + (if b then 0 else 1)) ends ∙ omega arith
lines_whole (j ∷ journals) h (suc a) = lines_whole journals (λ k d lt. h (suc k) d (omega (arith, lt))) a

pub told_within : (journals : List GivenJournal) (a : ℕ) → length (told_in journals a) ≤ lines_of journals a
told_within [] a = omega arith
told_within (j ∷ journals) zero = omega arith
told_within (j ∷ journals) (suc a) = told_within journals a

-- none of them has a line more than its entries
pub all_end : (journals : List GivenJournal) → ((a : ℕ) → lines_of journals a ≤ length (told_in journals a)) → All (λ (j : GivenJournal). IsTrue j.ends) journals
all_end [] h k d lt = absurd (omega (arith, lt))
all_end (j ∷ journals) h zero d lt = ends j.ends (h 0)
  where
    ends : (b : Bool) → length j.entries.items + (if b then 0 else 1) ≤ length j.entries.items → b ≡ true
    ends true le = refl
    ends false le = absurd (omega (arith, le))
all_end (j ∷ journals) h (suc k) d lt = all_end journals (λ a. h (suc a)) k d (omega (arith, lt))

-- ---- the end

module _ (C : FrameKey → FrameKey → Ordering) (rs : List ReplayValue) (plan : PlanValue) (told : ℕ → List Entry) (m : Merge) (events : List WorldEvent) (merged : IsMerged C rs plan told m events) (within : (a : ℕ) → at_of m a ≤ length (told a)) where
  pub has : Has plan told (at_of m) events
  has = record { accepted = merged.accepted; entries = merged.has }

  module _ (cannot : (a : ℕ) → Cannot plan told (at_of m) (run_of (opening plan) events).frames a) where
    pub furthest : NoneGoesFurther → AreFurthest plan told (at_of m)
    furthest law = record {
      had = (events, goes_along plan told (at_of m) events has, λ a. has_all plan told (at_of m) events has a (within a));
      most = λ others along a. ⊎_elim
          (λ can. absurd (no_way plan told (at_of m) events has cannot can))
          (λ behind. omega (arith, ap length (behind a).1, length-append (entries_at (run_of (opening plan) others) a) (behind a).0, has_all plan told (at_of m) events has a (within a)))
          (law plan told events others (goes_along plan told (at_of m) events has) along);
    }

  -- where each office is at its end, the schedule is woven
  pub woven : ((a : ℕ) → length (told a) ≤ at_of m a) → IsWoven plan told events
  woven all = record {
    accepted = merged.accepted;
    as_told = λ a. let n : at_of m a ≡ length (told a) = omega (arith, all a, within a) in merged.has a ∙ ap (λ k. map untagged (take k (told a))) n ∙ ap (map untagged) (take-length (told a));
  }

-- what is woven goes along
pub woven_along : (plan : PlanValue) (told : ℕ → List Entry) (events : List WorldEvent) → IsWoven plan told events → GoesAlong plan told events
woven_along plan told events w = record {
  accepted = w.accepted;
  begins = λ a. ([], sym (w.as_told a) ∙ sym (append-nil (entries_at (run_of (opening plan) events) a)));
}

-- where an office stands at the furthest, nothing is woven
pub never_woven : (plan : PlanValue) (journals : List GivenJournal) (at : ℕ → ℕ) (a : ℕ) → AreFurthest plan (told_in journals) at → Stands journals at a → (events : List WorldEvent) → IsWovenFrom plan journals events → ⊥
never_woven plan journals at a furthest stands events w =
    omega (
      arith,
      furthest.most events (woven_along plan (told_in journals) events w.woven) a,
      ap length (w.woven.as_told a),
      length-map (told_in journals a) untagged,
      lines_whole journals w.whole a,
      stands,
    )

-- where none does, the schedule is
pub all_woven : (C : FrameKey → FrameKey → Ordering) (rs : List ReplayValue) (plan : PlanValue) (journals : List GivenJournal) (m : Merge) (events : List WorldEvent) → IsMerged C rs plan (told_in journals) m events → ((a : ℕ) → at_of m a ≤ length (told_in journals a)) →
    ((a : ℕ) → Stands journals (at_of m) a → ⊥) → IsWovenFrom plan journals events
all_woven C rs plan journals m events merged within none =
    let past : (a : ℕ) → lines_of journals a ≤ at_of m a = λ a. ⊎_elim (λ lt. absurd (none a lt)) (λ ge. ge) (cases_lt (at_of m a) (lines_of journals a)) in
    record {
      whole = all_end journals (λ a. omega (arith, past a, within a));
      woven = woven C rs plan (told_in journals) m events merged within (λ a. omega (arith, past a, told_within journals a));
    }
