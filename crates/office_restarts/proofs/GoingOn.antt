-- Offices that go on come to the end: there are only so many steps to stand, and one more stands as long as a session is left.
use Rattle.std.proofs.Common.{◌≡◌, ℕ, zero, suc, ◌+◌, ◌<◌, ◌≤◌, false, List, [], ◌∷◌, ◌++◌, length, take, Option, None, Some, sym, ap, subst, ◌∙◌, arith, inl, inr, ◌⊎◌, ⊎_elim}
use Rattle.std.specs.Prelude.{slice_get}
use Rattle.std.specs.List.{range_with_len}
use Rattle.std.proofs.lemmas.Bool.{cases_lt}
use Rattle.std.proofs.lemmas.List.Sums.{sum_by-append, sum_by_push, sum_by-take-le, sum_by-le-sum_by}
use Rattle.bottle_values.specs.MapLaws.{put_cases}
use Rattle.office_map.specs.PlanValue.{PlanValue, are_neighbours}
use Rattle.office_map.specs.Consistency.{IsAccepted}
use Rattle.office_map.specs.NeighbourLaws.{near_within}
use Rattle.office_journal.specs.declared.event.Entry.{Entry}
use Rattle.site_core.specs.Agenda.{unfinished}
use Rattle.site_core.specs.Offices.{Office, may}
use Rattle.frame_world.specs.declared.event.WorldEvent.{WorldEvent}
use Rattle.frame_world.specs.declared.next_step.NextStep.{NextStep}
use Rattle.frame_world.specs.declared.next_step.NextStep.TheVariants as next
use Rattle.frame_world.specs.Worlds.{World, opening, run_of, office_at}
use Rattle.frame_world.specs.WorldStates.{IsSeated}
use Rattle.frame_world.specs.WorldLaws.{seated}
use Rattle.frame_world.specs.Headline.{Always}
use Rattle.frame_world.specs.Standstill.{AllAreFinished, IsStep, sent_by, next_step, NeverStuck}
use Rattle.frame_world.specs.WorkLeft.{work_left}
use Rattle.frame_world.specs.Termination.{is_submit, StepsUseUpWork}
use Rattle.office_restarts.specs.Lives.{Lives, Happening, Handed, Stored, Left, Lost, newborn, standing, happens, leaves, after, lived}
use Rattle.office_restarts.specs.Termination.{durable_world, entry_steps, brought_by, entry_work, later, is_submission, OneMoreIsDurable, GoOn, OfficesThatGoOnFinish}
use Rattle.office_restarts.proofs.Kept.{Kept, Accepted, kept_newborn, happens_leaves, kept_after, kept_on}
use Rattle.office_restarts.proofs.Restarts.{stays_after}
use Rattle.office_restarts.proofs.StepsStand.{one_place, step_told, steps_of, work_of, stands_there, kept_few}

-- ---- nothing is brought but by a submission

abbrev BringsNoMore : Lives → Lives → Type 0
BringsNoMore l l' = (b : ℕ) → entry_work l.plan b (l'.journal b) ≤ entry_work l.plan b (l.journal b)

accepted_brings : (l l' : Lives) (e : WorldEvent) → Accepted l l' e → is_submit e ≡ false → BringsNoMore l l'
accepted_brings l l' e c no_one b =
    omega (
      arith,
      ap (λ (z : Lives). entry_work l.plan b (z.journal b)) c.led,
      put_cases l.journal c.place (l.journal c.place ++ c.entry ∷ []) b (λ xs. entry_work l.plan b xs ≤ entry_work l.plan b (l.journal b))
          (λ is. omega (
            arith,
            sum_by_push (λ (x : Entry). brought_by l.plan b x.event) (l.journal c.place) c.entry,
            c.brings no_one b,
            ap (λ a. entry_work l.plan b (l.journal a)) is,
          ))
          (λ ne. omega arith),
    )

brings_no_more : (l : Lives) (h : Happening) → is_submission h ≡ false → BringsNoMore l (after l h)
brings_no_more l (Handed tag e) no_one b = ⊎_elim (λ same. omega (arith, ap (λ (z : Lives). entry_work l.plan b (z.journal b)) same)) (λ c. accepted_brings l (happens l tag e) e c no_one b) (happens_leaves l tag e)
brings_no_more l (Stored a n) no_one b = omega arith
brings_no_more l (Left a k) no_one b = of (slice_get (standing l a) k)
  where
    of : (x : Option Entry) → entry_work l.plan b ((leaves l x).journal b) ≤ entry_work l.plan b (l.journal b)
    of None = omega arith
    of (Some x) = omega arith
brings_no_more l (Lost a n) no_one b =
    put_cases l.journal a (take (l.stood a + n) (l.journal a)) b (λ xs. entry_work l.plan b xs ≤ entry_work l.plan b (l.journal b))
    (λ is. omega (arith, sum_by-take-le (λ (x : Entry). brought_by l.plan b x.event) (l.journal a) (l.stood a + n), ap (λ c. entry_work l.plan b (l.journal c)) is))
    (λ ne. omega arith)

-- ---- endless happenings

module _ (steps : Always StepsUseUpWork) (never_stuck : NeverStuck) (plan : PlanValue) (history : List Happening) (happenings : ℕ → Happening) (ok : IsAccepted plan) (none : (n : ℕ) → is_submission (happenings n) ≡ false) where
  abbrev at : ℕ → Lives
  at n = later (lived plan history) happenings n

  kept : (n : ℕ) → Kept plan (at n)
  kept zero = kept_on plan (newborn plan) history (kept_newborn plan)
  kept (suc n) = kept_after plan (at n) (happenings n) (kept n)

  abbrev total : ℕ → ℕ
  total n = steps_of plan (standing (at n))

  -- what is brought by all that the journals have, standing or not
  abbrev all_work : ℕ → ℕ
  all_work n = work_of plan (at n).journal

  work_falls : (n : ℕ) → all_work n ≤ all_work 0
  work_falls zero = omega arith
  work_falls (suc n) =
      omega (
        arith,
        work_falls n,
        sum_by-le-sum_by (λ b. entry_work plan b ((at (suc n)).journal b)) (λ b. entry_work plan b ((at n).journal b)) (range_with_len 0 (length plan.offices))
            (λ b. subst (λ p. entry_work p b ((at (suc n)).journal b) ≤ entry_work p b ((at n).journal b)) (kept n).planned (brings_no_more (at n) (happenings n) (none n) b)),
      )

  standing_brings : (n : ℕ) → work_of plan (standing (at n)) ≤ all_work n
  standing_brings n = sum_by-le-sum_by (λ b. entry_work plan b (standing (at n) b)) (λ b. entry_work plan b ((at n).journal b)) (range_with_len 0 (length plan.offices)) (λ b. sum_by-take-le (λ (x : Entry). brought_by plan b x.event) ((at n).journal b) ((at n).stood b))

  abbrev bound : ℕ
  bound = work_left (opening plan) + all_work 0

  bounded : (n : ℕ) → total n ≤ bound
  bounded n =
      omega (
        arith,
        kept_few steps plan (at n) ok.consistent (kept n),
        ap (λ p. steps_of p (standing (at n))) (kept n).planned,
        ap (λ p. work_of p (standing (at n))) (kept n).planned,
        standing_brings n,
        work_falls n,
      )

  -- steps that stand stay
  stays : (n a : ℕ) → entry_steps (standing (at n) a) ≤ entry_steps (standing (at (suc n)) a)
  stays n a =
      let s = stays_after (at n) (happenings n) a (kept n).at.within in
      omega (arith, ap entry_steps s.1, sum_by-append step_told (standing (at n) a) s.0)

  stay : (a n m : ℕ) → n ≤ m → entry_steps (standing (at n) a) ≤ entry_steps (standing (at m) a)
  stay a n zero le = let is : n ≡ 0 = omega (arith, le) in omega (arith, ap (λ j. entry_steps (standing (at j) a)) is)
  stay a n (suc m) le = ⊎_elim
      (λ lt. omega (arith, stay a n m (omega (arith, lt)), stays m a))
      (λ ge. let is : n ≡ suc m = omega (arith, le, ge) in omega (arith, ap (λ j. entry_steps (standing (at j) a)) is))
      (cases_lt n (suc m))

  abbrev Rises : ℕ → Type 0
  Rises n = (m : ℕ) × (n ≤ m) × (total n + 1 ≤ total m)

  rises : (n a : ℕ) → a < length plan.offices → OneMoreIsDurable at n a → Rises n
  rises n a inside (m, le, lt) = (
    m,
    le,
    omega (
      arith,
      one_place (λ b. entry_steps (standing (at n) b)) (λ b. entry_steps (standing (at m) b)) a 1 0 (λ b ne. stay b n m le) (omega (arith, lt)) (length plan.offices) 0 (omega arith) (omega (arith, inside)),
    ),
  )

  -- ---- a session is left, or not

  module _ (goes : GoOn at) (n : ℕ) where
    abbrev l : Lives
    l = at n

    abbrev w : World
    w = run_of (opening l.plan) (kept n).at.schedule

    seat : IsSeated l.plan w
    seat = seated l.plan (kept n).at.schedule

    same : (a : ℕ) → office_at w a ≡ office_at (durable_world l) a
    same = stands_there l (kept n).at.schedule (kept n).at.has.entries

    as_many_sent : (a b : ℕ) → sent_by w a b ≡ sent_by (durable_world l) a b
    as_many_sent a b = let e : office_at w a ≡ office_at (durable_world l) a = same a in cc

    by_step : (s : NextStep) → IsStep w s → AllAreFinished (durable_world l) ⊎ Rises n
    by_step (next.Rule a rule) d =
        let inside : a < length l.plan.offices = omega (arith, d.of_plan, ap (λ (p : PlanValue). length p.offices) seat.planned) in
        inr (rises n a (omega (arith, inside, ap (λ (p : PlanValue). length p.offices) (kept n).planned)) (goes.rounds n a rule (record {
          of_plan = inside;
          guard = sym (ap (λ p. may p a (office_at w a) rule) seat.planned ∙ ap (λ o. may l.plan a o rule) (same a)) ∙ d.guard;
        })))
    by_step (next.Message a b number) d =
        let near = sym (ap (λ p. are_neighbours p a b) seat.planned) ∙ d.near in
        inr (rises n b (near_within plan a b ok.consistent (sym (ap (λ p. are_neighbours p a b) (kept n).planned) ∙ near)) (goes.arrivals n a b number (record {
          near = near;
          next = d.next ∙ ap (λ (o : Office). (o.pairs.link a).receiving.taken + 1) (same b);
          sent = omega (arith, d.sent, as_many_sent a b);
        })))
    by_step next.AllFinished d = inl (λ a. ap (λ (o : Office). unfinished o.agenda) (sym (same a)) ∙ d a)

    finished_or_rises : AllAreFinished (durable_world l) ⊎ Rises n
    finished_or_rises = by_step (next_step w) (never_stuck l.plan (kept n).at.schedule (subst IsAccepted (sym (kept n).planned) ok))

  abbrev Finishes : ℕ → Type 0
  Finishes n = (m : ℕ) × (n ≤ m) × AllAreFinished (durable_world (at m))

  ends : GoOn at → (k n : ℕ) → bound ≤ total n + k → Finishes n
  ends goes zero n le = ⊎_elim
      (λ done. (n, omega arith, done))
      (λ r. absurd (omega (arith, le, r.2, bounded r.0)))
      (finished_or_rises goes n)
  ends goes (suc k) n le = ⊎_elim
      (λ done. (n, omega arith, done))
      (λ r. let f = ends goes k r.0 (omega (arith, le, r.2)) in (f.0, omega (arith, r.1, f.1), f.2))
      (finished_or_rises goes n)

pub offices_that_go_on_finish : Always StepsUseUpWork → NeverStuck → OfficesThatGoOnFinish
offices_that_go_on_finish steps never_stuck plan history happenings ok none goes n = ends steps never_stuck plan history happenings ok none goes (bound steps never_stuck plan history happenings ok none) n (omega arith)
