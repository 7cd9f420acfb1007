-- Whose turn it is.
use Rattle.std.proofs.Common.{◌≡◌, ℕ, ◌+◌, ◌<◌, ◌≤◌, List, length, get_or, sum, Option, None, Some, Result, Ok, Err, sym, ap, subst, ◌∙◌, arith, ⊎_elim}
use Rattle.std.specs.Prelude.{IfOk, IfNone}
use Rattle.std.proofs.lemmas.Bool.{cases_lt}
use Rattle.std.specs.declared.cmp.Ordering.{Ordering}
use Rattle.frame_world.specs.declared.event.WorldEvent.{WorldEvent}
use Rattle.journal_weave.specs.declared.key.FrameKey.{FrameKey}
use Rattle.journal_weave.specs.declared.merge.Merge.{Merge}
use Rattle.journal_weave.specs.ReplayValue.{ReplayValue}
use Rattle.journal_weave.specs.refinement.Merging.{IsStuck, StuckAt, IsWithin, GoesNext, AddsEvent}
use Rattle.journal_weave.proofs.EntriesTold.{other_default}
use Rattle.journal_weave.proofs.Pushing.{pushed, within_more, sum_more}

module _ (C : FrameKey → FrameKey → Ordering) (rs : List ReplayValue) (m : Merge) where
  -- those from the first on are stuck, up to the last
  abbrev pub StuckBetween : ℕ → ℕ → Type 0
  StuckBetween first last = (a : ℕ) → first ≤ a → a < last → StuckAt C rs m a

  pub stuck_none : (first last : ℕ) → last ≤ first → StuckBetween first last
  stuck_none first last le a from to = absurd (omega (arith, le, from, to))

  pub stuck_next : (first k : ℕ) (s : ReplayValue) → k < length rs → s ≡ get_or rs k s → IsStuck C rs m k s → StuckBetween first k → StuckBetween first (k + 1)
  stuck_next first k s lt is stuck before a from to r at = ⊎_elim
      (λ less. before a from less r at)
      (λ ge.
      let here : k ≡ a = omega (arith, ge, to) in
      let same : s ≡ r = is ∙ other_default rs k r s lt ∙ ap (λ n. get_or rs n r) here ∙ sym at in
      subst (λ n. IsStuck C rs m n r) here (subst (IsStuck C rs m k) same stuck))
      (cases_lt a k)

  pub stuck_all : (turn : ℕ) → StuckBetween turn (length rs) → StuckBetween 0 turn → (a : ℕ) → a < length rs → StuckAt C rs m a
  stuck_all turn after before a lt = ⊎_elim (λ less. before a (omega arith) less) (λ ge. after a ge lt) (cases_lt a turn)

-- where none is answered, what that says
pub all_none : {X E P Q : Type 0} (r : Result (Option X) E) → (P → Q) → IfOk r (λ o. IfNone o P) → IfOk r (λ o. IfNone o Q)
all_none (Err e) f h = tt
all_none (Ok None) f h = f h
all_none (Ok (Some x)) f h = tt

-- ---- an office goes on

-- the same merge, and the same office
pub goes_as : (C : FrameKey → FrameKey → Ordering) (rs : List ReplayValue) (m0 m m' : Merge) (b a : ℕ) (r : ReplayValue) (e : WorldEvent) → m0 ≡ m → b ≡ a → GoesNext C rs m0 m' b r e → GoesNext C rs m m' a r e
goes_as C rs m0 m m' b a r e same here g = subst (λ n. GoesNext C rs m m' n r e) here (subst (λ x. GoesNext C rs x m' b r e) same g)

module _ (C : FrameKey → FrameKey → Ordering) (rs : List ReplayValue) (m m' : Merge) (a : ℕ) (r : ReplayValue) (e : WorldEvent) (size : length m.at.items ≡ length rs) (there : a < length rs) (is : r ≡ get_or rs a r) (g : GoesNext C rs m m' a r e) where
  office : a < length m.at.items
  office = omega (arith, there, size)

  pub event_added : AddsEvent C rs m m' e
  event_added plan told es one_each followed merged = pushed C rs m m' a g.0 e r office there is g.3 g.1 g.2 plan told es one_each followed merged

  pub kept_within : IsWithin rs m → IsWithin rs m'
  kept_within within = within_more m m' a rs r office there is g.3.at g.1 within

  pub longer_by_one : sum m'.at.items ≡ sum m.at.items + 1
  longer_by_one = sum_more m m' a office g.3.at
