-- How many steps stand, and what is left to do there: as in the world to which a schedule of what stands leads.
use Rattle.std.proofs.Common.{◌≡◌, ◌≢◌, ℕ, zero, suc, ◌+◌, ◌<◌, ◌≤◌, Bool, true, false, cond, List, [], ◌∷◌, ◌++◌, length, map, sum_by, Option, None, Some, Result, Ok, Err, refl, sym, ap, subst, ◌∙◌, arith, ⊎_elim}
use Rattle.std.specs.Prelude.{IsOk, slice_get}
use Rattle.std.specs.List.{range_with_len}
use Rattle.std.proofs.lemmas.Bool.{cases_lt}
use Rattle.std.proofs.lemmas.List.{get_or_past}
use Rattle.std.proofs.lemmas.List.Sums.{sum_by-cons, sum_by_push}
use Rattle.std.proofs.lemmas.List.FromFn.{get_or-map-range_with_len, length-map-range_with_len}
use mathlib.Core.Path.{fun_ext}
use Rattle.bottle_values.specs.Lists.{num}
use Rattle.frame_codec.specs.Frame.{Fields}
use Rattle.office_map.specs.PlanValue.{PlanValue}
use Rattle.office_map.specs.Consistency.{IsConsistent}
use Rattle.office_journal.specs.declared.event.Event.{Event}
use Rattle.office_journal.specs.declared.event.Event.TheVariants as event
use Rattle.office_journal.specs.declared.event.Entry.{Entry}
use Rattle.office_journal.specs.declared.reply.Reply.{Reply}
use Rattle.office_journal.specs.declared.reply.Reply.TheVariants as reply
use Rattle.site_core.specs.Offices.{Office}
use Rattle.site_core.specs.Journals.{office_of}
use Rattle.site_core.specs.Reopening.{site_with}
use Rattle.frame_world.specs.declared.event.WorldEvent.{WorldEvent}
use Rattle.frame_world.specs.declared.event.WorldEvent.TheVariants as happening
use Rattle.frame_world.specs.declared.refusal.WorldRefusal.{WorldRefusal}
use Rattle.frame_world.specs.Worlds.{World, Answer, opening, silent, office_at, handed, delivered, happens, run_of, AreAccepted}
use Rattle.frame_world.specs.WorldStates.{IsSeated}
use Rattle.frame_world.specs.WorldLaws.{seated_opening, seated, happens_leaves}
use Rattle.frame_world.specs.Headline.{Always}
use Rattle.frame_world.specs.WorkLeft.{office_work, pairs_work, session_work, work_left}
use Rattle.frame_world.specs.Termination.{is_step, added_by, StepsUseUpWork}
use Rattle.journal_weave.specs.Weaving.{untagged, entries_at}
use Rattle.journal_weave.proofs.AcceptedEvents.{grown, note, Grows, grows_to, grows, here, elsewhere, entries, reply_in, nothing_told, site_is}
use Rattle.office_restarts.specs.Lives.{Lives, newborn, standing, lived}
use Rattle.office_restarts.specs.Termination.{durable_world, entry_steps, brought_by, entry_work, durable_steps, durable_work, FewStepsStand}
use Rattle.office_restarts.proofs.Parts.{office_untagged}
use Rattle.office_restarts.proofs.Kept.{Kept, kept_newborn, kept_on}

-- ---- sums over a range, where one place differs

module _ (f g : ℕ → ℕ) (a d e : ℕ) (others : (x : ℕ) → x ≢ a → f x ≤ g x) (one : f a + d ≤ g a + e) where
  past_it : (n k : ℕ) → a < k → sum_by f (range_with_len k n) ≤ sum_by g (range_with_len k n)
  past_it zero k lt = omega arith
  past_it (suc n) k lt =
      omega (
        arith,
        sum_by-cons f k (range_with_len (k + 1) n),
        sum_by-cons g k (range_with_len (k + 1) n),
        others k (λ is. absurd (omega (arith, lt, is))),
        past_it n (k + 1) (omega (arith, lt)),
      )

  pub one_place : (n k : ℕ) → k ≤ a → a < k + n → sum_by f (range_with_len k n) + d ≤ sum_by g (range_with_len k n) + e
  one_place zero k le lt = absurd (omega (arith, le, lt))
  one_place (suc n) k le lt = ⊎_elim
      (λ less. omega (
        arith,
        sum_by-cons f k (range_with_len (k + 1) n),
        sum_by-cons g k (range_with_len (k + 1) n),
        others k (λ is. absurd (omega (arith, less, is))),
        one_place n (k + 1) (omega (arith, less)) (omega (arith, lt)),
      ))
      (λ more. let is : k ≡ a = omega (arith, le, more) in omega (
        arith,
        sum_by-cons f k (range_with_len (k + 1) n),
        sum_by-cons g k (range_with_len (k + 1) n),
        one,
        ap f is,
        ap g is,
        past_it n (k + 1) (omega (arith, more)),
      ))
      (cases_lt k a)

num_cond : (b : Bool) → num b ≡ cond b 1 0
num_cond true = refl
num_cond false = refl

-- ---- what the offices of a plan tell

abbrev pub steps_of : PlanValue → (ℕ → List Entry) → ℕ
steps_of plan told = sum_by (λ a. entry_steps (told a)) (range_with_len 0 (length plan.offices))

abbrev pub work_of : PlanValue → (ℕ → List Entry) → ℕ
work_of plan told = sum_by (λ a. entry_work plan a (told a)) (range_with_len 0 (length plan.offices))

-- tags are of no account
as_untagged : (f : Entry → ℕ) → ((x : Entry) → f (untagged x) ≡ f x) → (xs : List Entry) → sum_by f (map untagged xs) ≡ sum_by f xs
as_untagged f same [] = refl
as_untagged f same (x ∷ xs) = omega (arith, sum_by-cons f (untagged x) (map untagged xs), sum_by-cons f x xs, same x, as_untagged f same xs)

none_at_all : (f : ℕ → ℕ) → ((a : ℕ) → f a ≡ 0) → (xs : List ℕ) → sum_by f xs ≡ 0
none_at_all f none [] = refl
none_at_all f none (x ∷ xs) = omega (arith, sum_by-cons f x xs, none x, none_at_all f none xs)

-- ---- one event

abbrev pub step_told : Entry → ℕ
step_told x = cond (is_step (Ok x.reply)) 1 0

module _ (plan : PlanValue) (w : World) (a : ℕ) (e : Event) (r : Reply) (inside : a < length w.sites) (seat : IsSeated plan w) where
  abbrev w' : World
  w' = grown w a e r

  one_entry_more : entries_at w' a ≡ entries_at w a ++ note e r ∷ []
  one_entry_more = ap entries (here w a e r inside)

  as_before : (b : ℕ) → b ≢ a → entries_at w' b ≡ entries_at w b
  as_before b ne = ap entries (elsewhere w a e r b ne)

  of_plan : a < 0 + length plan.offices
  of_plan = omega (arith, inside, seat.size)

  steps_grown : steps_of plan (entries_at w') ≤ steps_of plan (entries_at w) + num (is_step (Ok r))
  steps_grown =
      omega (
        arith,
        one_place (λ b. entry_steps (entries_at w' b)) (λ b. entry_steps (entries_at w b)) a 0 (num (is_step (Ok r)))
            (λ b ne. omega (arith, ap entry_steps (as_before b ne)))
            (omega (arith, ap entry_steps one_entry_more, sum_by_push step_told (entries_at w a) (note e r), num_cond (is_step (Ok r))))
            (length plan.offices) 0 (omega arith) of_plan,
      )

  work_grown : work_of plan (entries_at w) + brought_by plan a e ≤ work_of plan (entries_at w')
  work_grown =
      omega (
        arith,
        one_place (λ b. entry_work plan b (entries_at w b)) (λ b. entry_work plan b (entries_at w' b)) a (brought_by plan a e) 0
            (λ b ne. omega (arith, ap (entry_work plan b) (as_before b ne)))
            (omega (arith, ap (entry_work plan a) one_entry_more, sum_by_push (λ (x : Entry). brought_by plan a x.event) (entries_at w a) (note e r)))
            (length plan.offices) 0 (omega arith) of_plan,
      )

-- ---- any events

-- a session adds at most its work
at_most : (n : ℕ) (r : Result Reply WorldRefusal) → added_by n r ≤ n
at_most n (Ok (reply.Ticket t)) = omega arith
at_most n (Ok reply.Done) = omega arith
at_most n (Ok (reply.Frame f)) = omega arith
at_most n (Ok reply.Taken) = omega arith
at_most n (Ok reply.Acked) = omega arith
at_most n (Ok reply.Repeat) = omega arith
at_most n (Ok reply.Kept) = omega arith
at_most n (Ok reply.Early) = omega arith
at_most n (Err why) = omega arith

module _ (plan : PlanValue) (k : ℕ) where
  -- the steps told and what is left are no more than k and what was brought
  abbrev IsBounded : World → Type 0
  IsBounded w = steps_of plan (entries_at w) + work_left w ≤ k + work_of plan (entries_at w)

  module _ (w : World) (seat : IsSeated plan w) (steps : StepsUseUpWork w) (before : IsBounded w) where
    by_handed : (a : ℕ) (e : Event) (n : ℕ) → IsOk (handed w a e).0 → num (is_step (handed w a e).0) + work_left (handed w a e).1 ≤ work_left w + n → n ≤ brought_by plan a e → IsBounded (handed w a e).1
    by_handed a e n ok less few =
        let r = reply_in (handed w a e).0 ok in
        let g : Grows w a e r.0 = grows w a e r.0 r.1 in
        let l : handed w a e ≡ (Ok r.0, grown w a e r.0) = grows_to w a e r.0 g in
        omega (
          arith,
          before,
          less,
          few,
          ap (λ (x : Answer). num (is_step x.0)) l,
          ap (λ (x : Answer). steps_of plan (entries_at x.1)) l,
          ap (λ (x : Answer). work_of plan (entries_at x.1)) l,
          steps_grown plan w a e r.0 g.inside seat,
          work_grown plan w a e r.0 g.inside seat,
        )

    one_more : (e : WorldEvent) → IsOk (happens w e).0 → IsBounded (happens w e).1
    one_more (happening.Submit a p) ok =
        by_handed a (event.Submit p) (added_by (session_work w.plan a p) (handed w a (event.Submit p)).0) ok (steps (happening.Submit a p))
        (omega (arith, at_most (session_work w.plan a p) (handed w a (event.Submit p)).0, ap (λ q. session_work q a p) seat.planned))
    one_more (happening.Withdraw a t) ok = by_handed a (event.Withdraw t) 0 ok (steps (happening.Withdraw a t)) (omega arith)
    one_more (happening.Do a rule) ok = by_handed a (event.Do rule) 0 ok (steps (happening.Do a rule)) (omega arith)
    one_more (happening.Send a v i) ok = by_handed a (event.Send v i) 0 ok (steps (happening.Send a v i)) (omega arith)
    one_more (happening.Deliver zero) ok = absurd cc
    one_more (happening.Deliver (suc j)) ok = of (slice_get w.frames j) (steps (happening.Deliver (suc j))) ok
      where
        of : (f : Option Fields) → num (is_step (delivered w f).0) + work_left (delivered w f).1 ≤ work_left w + 0 → IsOk (delivered w f).0 → IsBounded (delivered w f).1
        of None less is = absurd cc
        of (Some f) less is = by_handed f.to (event.Took f) 0 is less (omega arith)

  along : (w : World) (es : List WorldEvent) → IsSeated plan w → ((fs : List WorldEvent) → StepsUseUpWork (run_of w fs)) → AreAccepted w es → IsBounded w → IsBounded (run_of w es)
  along w [] seat steps ok before = before
  along w (e ∷ es) seat steps (ok, oks) before = along (happens w e).1 es (happens_leaves plan w e seat).seated (λ fs. steps (e ∷ fs)) oks (one_more w seat (steps []) before e ok)

-- from the start on
run_bounded : Always StepsUseUpWork → (plan : PlanValue) (events : List WorldEvent) → IsConsistent plan → AreAccepted (opening plan) events → IsBounded plan (work_left (opening plan)) (run_of (opening plan) events)
run_bounded steps plan events c ok =
    along plan (work_left (opening plan)) (opening plan) events (seated_opening plan) (λ fs. steps plan fs c) ok
    (omega (arith, none_at_all (λ a. entry_steps (entries_at (opening plan) a)) (λ a. ap entry_steps (nothing_told plan a)) (range_with_len 0 (length plan.offices))))

-- ---- what stands

abbrev work_by : PlanValue → (ℕ → Office) → ℕ
work_by plan o = sum_by (λ a. office_work plan a (o a)) (range_with_len 0 (length plan.offices)) + pairs_work plan (λ a. (o a).pairs)

module _ (l : Lives) (events : List WorldEvent) (told : (a : ℕ) → entries_at (run_of (opening l.plan) events) a ≡ map untagged (standing l a)) where
  abbrev w : World
  w = run_of (opening l.plan) events

  seat : IsSeated l.plan w
  seat = seated l.plan events

  -- each office is as it is in that world
  pub stands_there : (a : ℕ) → office_at w a ≡ office_at (durable_world l) a
  stands_there a = ⊎_elim
      (λ lt.
      ap office_of (site_is l.plan w a seat)
      ∙ ap (λ xs. office_of (site_with l.plan a xs)) (told a)
      ∙ office_untagged l.plan a (standing l a)
      ∙ sym (ap office_of (get_or-map-range_with_len (λ b. site_with l.plan b (standing l b)) 0 (length l.plan.offices) a a (silent l.plan a) lt (omega arith))))
      (λ ge.
      ap office_of (get_or_past w.sites a (silent w.plan a) (omega (arith, ge, seat.size)))
      ∙ ap (λ p. office_of (silent p a)) seat.planned
      ∙ sym (ap office_of (get_or_past (map (λ b. site_with l.plan b (standing l b)) (range_with_len 0 (length l.plan.offices))) a (silent l.plan a) (omega (arith, ge, length-map-range_with_len (λ b. site_with l.plan b (standing l b)) 0 (length l.plan.offices))))))
      (cases_lt a (length l.plan.offices))

  as_much_left : work_left w ≡ work_left (durable_world l)
  as_much_left = ap (λ p. work_by p (office_at w)) seat.planned ∙ ap (work_by l.plan) (fun_ext stands_there)

  steps_there : steps_of l.plan (entries_at w) ≡ durable_steps l
  steps_there = ap (λ (s : ℕ → ℕ). sum_by s (range_with_len 0 (length l.plan.offices))) (fun_ext (λ a. ap entry_steps (told a) ∙ as_untagged step_told (λ x. refl) (standing l a)))

  work_there : work_of l.plan (entries_at w) ≡ durable_work l
  work_there = ap (λ (s : ℕ → ℕ). sum_by s (range_with_len 0 (length l.plan.offices))) (fun_ext (λ a. ap (entry_work l.plan a) (told a) ∙ as_untagged (λ (x : Entry). brought_by l.plan a x.event) (λ x. refl) (standing l a)))

pub kept_few : Always StepsUseUpWork → (plan : PlanValue) (l : Lives) → IsConsistent plan → Kept plan l → durable_steps l + work_left (durable_world l) ≤ work_left (opening plan) + durable_work l
kept_few steps plan l c k =
    let has = k.at.has in
    let few = run_bounded steps l.plan k.at.schedule (subst IsConsistent (sym k.planned) c) has.accepted in
    omega (
      arith,
      few,
      as_much_left l k.at.schedule has.entries,
      steps_there l k.at.schedule has.entries,
      work_there l k.at.schedule has.entries,
      ap (λ p. work_left (opening p)) k.planned,
    )

pub few_steps_stand : Always StepsUseUpWork → FewStepsStand
few_steps_stand steps plan history c = kept_few steps plan (lived plan history) c (kept_on plan (newborn plan) history (kept_newborn plan))
