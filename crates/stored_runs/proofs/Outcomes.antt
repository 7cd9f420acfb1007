-- Sessions that have finished by the first entries of an office's journal have finished by more of them.
use Rattle.std.proofs.Common.{◌≡◌, ℕ, ◌≤◌, List, [], ◌∷◌, ◌++◌, length, take, drop, refl, sym, ap, subst, ◌∙◌, append_assoc, append-nil, take-append-drop}
use mathlib.Core.List.{IsPrefix}
use Rattle.std.proofs.lemmas.List.{take-take, take-append-le}
use Rattle.office_map.specs.PlanValue.{PlanValue}
use Rattle.office_journal.specs.declared.event.Entry.{Entry}
use Rattle.site_core.specs.Offices.{Office, opened}
use Rattle.site_core.specs.Journals.{after, run_of, office_of, AreAccepted, IsLegal}
use Rattle.locked_office.specs.Calls.{Key, office_with}
use Rattle.site_core.proofs.OutcomesStay.{outcomes_stay}
use Rattle.office_stations.specs.Sessions.{finished_of}

module _ {A : Type 0} where
  pub itself : (xs : List A) → IsPrefix xs xs
  itself xs = ([], append-nil xs)

  pub both : (xs ys zs : List A) → IsPrefix xs ys → IsPrefix ys zs → IsPrefix xs zs
  both xs ys zs p q = (p.0 ++ q.0, sym (append_assoc xs p.0 q.0) ∙ ap (λ l. l ++ q.0) p.1 ∙ q.1)

  -- of one list that begins another the first are the first of the other
  pub first_same : (n : ℕ) (xs ys : List A) → n ≤ length xs → IsPrefix xs ys → take n xs ≡ take n ys
  first_same n xs ys le p = sym (take-append-le n xs p.0 le) ∙ ap (take n) p.1

  pub first_begin : (n m : ℕ) (xs : List A) → n ≤ m → IsPrefix (take n xs) (take m xs)
  first_begin n m xs le = (drop n (take m xs), ap (λ l. l ++ drop n (take m xs)) (sym (take-take n m xs le)) ∙ take-append-drop n (take m xs))

run_on : (plan : PlanValue) (me : ℕ) (o : Office) (xs ys : List Entry) → run_of plan me o (xs ++ ys) ≡ run_of plan me (run_of plan me o xs) ys
run_on plan me o [] ys = refl
run_on plan me o (x ∷ xs) ys = run_on plan me (after plan me o x.event) xs ys

accepted_on : (plan : PlanValue) (me : ℕ) (o : Office) (xs ys : List Entry) → AreAccepted plan me o (xs ++ ys) → AreAccepted plan me (run_of plan me o xs) ys
accepted_on plan me o [] ys h = h
accepted_on plan me o (x ∷ xs) ys (ok, lt, h) = accepted_on plan me (after plan me o x.event) xs ys h

outcomes_on : (plan : PlanValue) (me : ℕ) (o : Office) (xs : List Entry) → AreAccepted plan me o xs → IsPrefix o.agenda.outcomes (run_of plan me o xs).agenda.outcomes
outcomes_on plan me o [] h = itself o.agenda.outcomes
outcomes_on plan me o (x ∷ xs) (ok, lt, h) =
    let next : Office = after plan me o x.event in
    both o.agenda.outcomes next.agenda.outcomes (run_of plan me next xs).agenda.outcomes (outcomes_stay o plan me x.event) (outcomes_on plan me next xs h)

pub finished_on : (k : Key) (es fs : List Entry) → IsLegal (office_with k fs) → IsPrefix es fs → IsPrefix (finished_of (office_with k es)) (finished_of (office_with k fs))
unfolding office_of
finished_on k es fs legal (more, is) =
    let o : Office = run_of k.0 k.1 (opened k.0 k.1) es in
    let all : AreAccepted k.0 k.1 (opened k.0 k.1) (es ++ more) = subst (AreAccepted k.0 k.1 (opened k.0 k.1)) (sym is) legal.accepted in
    subst (λ (x : Office). IsPrefix o.agenda.outcomes x.agenda.outcomes) (sym (run_on k.0 k.1 (opened k.0 k.1) es more) ∙ ap (run_of k.0 k.1 (opened k.0 k.1)) is) (outcomes_on k.0 k.1 o more (accepted_on k.0 k.1 (opened k.0 k.1) es more all))
