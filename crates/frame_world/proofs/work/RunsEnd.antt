-- Where each step lowers what is left, every run ends, and whoever goes on finishes.
use Rattle.std.proofs.Common.{◌≡◌, ℕ, zero, suc, ◌+◌, ◌-◌, ◌<◌, ◌≤◌, Bool, true, false, cond, List, [], ◌∷◌, ◌++◌, length, map, get_or, Result, refl, sym, ap, subst, ◌∙◌, arith, ⊎_elim, eqb-true, eq-eqb}
use Rattle.std.specs.Prelude.{◌==◌, ◌&&◌}
use Rattle.std.specs.List.{range_with_len, list_all}
use Rattle.std.proofs.lemmas.Bool.{cases_lt}
use Rattle.std.proofs.lemmas.List.{get_or_past}
use Rattle.std.proofs.lemmas.List.Sums.{sum_by-cons, AllPass-from_list_all}
use Rattle.std.proofs.lemmas.List.FromFn.{map-range_with_len_more}
use Rattle.bottle_values.specs.Lists.{num}
use Rattle.office_map.specs.PlanValue.{PlanValue}
use Rattle.office_map.specs.Consistency.{IsConsistent}
use Rattle.office_journal.specs.declared.reply.Reply.{Reply}
use Rattle.site_core.specs.Agenda.{unfinished}
use Rattle.site_core.specs.Offices.{Office}
use Rattle.site_core.specs.Journals.{Site, office_of}
use Rattle.site_core.specs.JournalLaws.{office_empty}
use Rattle.frame_world.specs.declared.event.WorldEvent.{WorldEvent}
use Rattle.frame_world.specs.declared.event.WorldEvent.TheVariants as happening
use Rattle.frame_world.specs.declared.refusal.WorldRefusal.{WorldRefusal}
use Rattle.frame_world.specs.Worlds.{World, opening, silent, happens, run_of, replies_of, office_at}
use Rattle.frame_world.specs.WorldStates.{IsSeated}
use Rattle.frame_world.specs.WorldLaws.{seated}
use Rattle.frame_world.specs.Headline.{Always}
use Rattle.frame_world.specs.Standstill.{AllAreFinished, are_all_finished}
use Rattle.frame_world.specs.WorkLeft.{work_left}
use Rattle.frame_world.specs.Termination.{is_step, steps_in, added, added_in, StepsUseUpWork, EveryRunEnds, after, is_submit, GoesOn, WhoGoesOnFinishes}

-- ---- lists of events

run_append : (w : World) (es fs : List WorldEvent) → run_of (run_of w es) fs ≡ run_of w (es ++ fs)
run_append w [] fs = refl
run_append w (e ∷ es) fs = run_append (happens w e).1 es fs

num_cond : (b : Bool) → num b ≡ cond b 1 0
num_cond true = refl
num_cond false = refl

along : (w : World) (events : List WorldEvent) → ((es : List WorldEvent) → StepsUseUpWork (run_of w es)) → steps_in (replies_of w events) + work_left (run_of w events) ≤ work_left w + added_in w events
along w [] h = omega arith
along w (e ∷ events) h =
    let w' : World = (happens w e).1 in
    omega (
      arith,
      sum_by-cons (λ (r : Result Reply WorldRefusal). cond (is_step r) 1 0) (happens w e).0 (replies_of w' events),
      num_cond (is_step (happens w e).0),
      h [] e,
      along w' events (λ es. h (e ∷ es)),
    )

from_here : Always StepsUseUpWork → (plan : PlanValue) (es : List WorldEvent) → IsConsistent plan → (more : List WorldEvent) → StepsUseUpWork (run_of (run_of (opening plan) es) more)
from_here steps plan es c more = subst StepsUseUpWork (sym (run_append (opening plan) es more)) (steps plan (es ++ more) c)

pub every_run_ends : Always StepsUseUpWork → EveryRunEnds
every_run_ends steps plan es c events = along (run_of (opening plan) es) events (from_here steps plan es c)

-- ---- endless events

-- whether all are finished
module _ (plan : PlanValue) (w : World) (seat : IsSeated plan w) where
  strange : (a : ℕ) → length w.sites ≤ a → unfinished (office_at w a).agenda ≡ 0
  strange a past = ap (λ x. unfinished (office_of x).agenda) (get_or_past w.sites a (silent w.plan a) past) ∙ ap (λ (o : Office). unfinished o.agenda) (office_empty w.plan a)

  are_finished : are_all_finished w ≡ true → AllAreFinished w
  are_finished e a = ⊎_elim
      (λ lt. eqb-true (unfinished (office_at w a).agenda) 0 (AllPass-from_list_all (λ (s : Site). unfinished (office_of s).agenda == 0) w.sites e a (silent w.plan a) lt))
      (λ past. strange a past)
      (cases_lt a (length w.sites))

all_pass : (p : Site → Bool) (xs : List Site) (d : ℕ → Site) → ((a : ℕ) → p (get_or xs a (d a)) ≡ true) → list_all p xs ≡ true
all_pass p [] d h = refl
all_pass p (x ∷ xs) d h = ap (λ b. b && list_all p xs) (h 0) ∙ all_pass p xs (λ a. d (suc a)) (λ a. h (suc a))

finished_are : (w : World) → AllAreFinished w → are_all_finished w ≡ true
finished_are w h = all_pass (λ (s : Site). unfinished (office_of s).agenda == 0) w.sites (silent w.plan) (λ a. eq-eqb (unfinished (office_at w a).agenda) 0 (h a))

none_added : (w : World) (e : WorldEvent) → is_submit e ≡ false → added w e ≡ 0
none_added w (happening.Submit a p) e = absurd cc
none_added w (happening.Withdraw a t) e = refl
none_added w (happening.Do a rule) e = refl
none_added w (happening.Send a v i) e = refl
none_added w (happening.Deliver k) e = refl

module _ (steps : Always StepsUseUpWork) (plan : PlanValue) (begun : List WorldEvent) (c : IsConsistent plan) (events : ℕ → WorldEvent) (none : (n : ℕ) → is_submit (events n) ≡ false) where
  abbrev first : World
  first = run_of (opening plan) begun

  abbrev at : ℕ → World
  at n = after first events n

  next : (n : ℕ) → at (n + 1) ≡ (happens (at n) (events n)).1
  next n = ap (run_of first) (map-range_with_len_more events 0 n n (omega arith)) ∙ sym (run_append first (map events (range_with_len 0 n)) (events n ∷ []))

  uses : (n : ℕ) → num (is_step (happens (at n) (events n)).0) + work_left (at (n + 1)) ≤ work_left (at n)
  uses n =
      omega (
        arith,
        from_here steps plan begun c (map events (range_with_len 0 n)) (events n),
        ap work_left (next n),
        none_added (at n) (events n) (none n),
      )

  -- what is left doesn't rise
  falls : (k n : ℕ) → work_left (at (n + k)) ≤ work_left (at n)
  falls zero n = let same : n + 0 ≡ n = omega arith in omega (arith, ap (λ j. work_left (at j)) same)
  falls (suc k) n = let same : n + suc k ≡ n + k + 1 = omega arith in omega (arith, ap (λ j. work_left (at j)) same, uses (n + k), falls k n)

  falls_to : (n m : ℕ) → n ≤ m → work_left (at m) ≤ work_left (at n)
  falls_to n m le = ⊎_elim (λ lt. by_difference lt) (λ ge. let same : m ≡ n = omega (arith, le, ge) in omega (arith, ap (λ j. work_left (at j)) same)) (cases_lt n m)
    where
      by_difference : n < m → work_left (at m) ≤ work_left (at n)
      by_difference lt = let k = m - n in let same : n + k ≡ m = omega (arith, lt) in omega (arith, ap (λ j. work_left (at j)) same, falls k n)

  seat : (n : ℕ) → IsSeated plan (at n)
  seat n = subst (IsSeated plan) (sym (run_append (opening plan) begun (map events (range_with_len 0 n)))) (seated plan (begun ++ map events (range_with_len 0 n)))

  not_yet : (n : ℕ) → are_all_finished (at n) ≡ false → AllAreFinished (at n) → ⊥
  not_yet n e h = let no : false ≡ true = sym e ∙ finished_are (at n) h in absurd cc

  ends : GoesOn first events → (k n : ℕ) → work_left (at n) ≤ k → (m : ℕ) × AllAreFinished (at m)
  ends goes zero n le = by (are_all_finished (at n)) refl
    where
      by : (b : Bool) → are_all_finished (at n) ≡ b → (m : ℕ) × AllAreFinished (at m)
      by true e = (n, are_finished plan (at n) (seat n) e)
      by false e =
          let s : (m : ℕ) × (n ≤ m) × (is_step (happens (at m) (events m)).0 ≡ true) = goes n (not_yet n e) in
          absurd (omega (arith, le, uses s.0, ap num s.2, falls_to n s.0 s.1))
  ends goes (suc k) n le = by (are_all_finished (at n)) refl (ends goes k)
    where
      by : (b : Bool) → are_all_finished (at n) ≡ b → ((n : ℕ) → work_left (at n) ≤ k → (m : ℕ) × AllAreFinished (at m)) → (m : ℕ) × AllAreFinished (at m)
      by true e rest = (n, are_finished plan (at n) (seat n) e)
      by false e rest =
          let s : (m : ℕ) × (n ≤ m) × (is_step (happens (at m) (events m)).0 ≡ true) = goes n (not_yet n e) in
          rest (s.0 + 1) (omega (arith, le, uses s.0, ap num s.2, falls_to n s.0 s.1))

pub who_goes_on_finishes : Always StepsUseUpWork → Always WhoGoesOnFinishes
who_goes_on_finishes steps plan es c events none goes = ends steps plan es c events none goes (work_left (run_of (opening plan) es)) 0 (omega arith)
