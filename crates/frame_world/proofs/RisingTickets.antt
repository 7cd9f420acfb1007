-- Tickets that rise: an office's own, and so those of its sessions in the list of all.
use Rattle.std.proofs.Common.{◌≡◌, ℕ, zero, suc, ◌<◌, Bool, true, false, cond, List, [], ◌∷◌, refl, sym, subst, arith}
use Rattle.std.specs.Prelude.{◌==◌, All, AllPairs, filter}
use Rattle.std.proofs.lemmas.Bool.{eq-eqb}
use Rattle.std.proofs.lemmas.List.Elements.{All-nil, All-cons, All-head, All-tail, All-weaker}
use Rattle.std.proofs.lemmas.List.Kept.{AllPairs-cons}
use Rattle.session_meaning.specs.declared.ending.Outcome.{Outcome}
use Rattle.frame_world.specs.Tickets.{IsBelow}

-- ---- of all offices

drop_first : (b : Bool) (x : Outcome) (os : List Outcome) → AllPairs IsBelow (cond b (x ∷ os) os) → AllPairs IsBelow os
drop_first true x os h = λ i j d lt within. h (suc i) (suc j) d (omega (arith, lt)) (omega (arith, within))
drop_first false x os h = h

-- what holds of those that pass a test
of_passing : (P : Outcome → Type 0) (p : Outcome → Bool) (os : List Outcome) → All P (filter p os) → All (λ (o : Outcome). p o ≡ true → P o) os
of_passing P p [] h = All-nil (λ (o : Outcome). p o ≡ true → P o)
of_passing P p (x ∷ os) h = All-cons (λ (o : Outcome). p o ≡ true → P o) x os (here (p x) h) (of_passing P p os (there (p x) h))
  where
    here : (b : Bool) → All P (cond b (x ∷ filter p os) (filter p os)) → b ≡ true → P x
    here true k e = All-head P x (filter p os) k
    here false k e = absurd cc

    there : (b : Bool) → All P (cond b (x ∷ filter p os) (filter p os)) → All P (filter p os)
    there true k = All-tail P x (filter p os) k
    there false k = k

abbrev pub RisesAtOffice : Outcome → Outcome → Type 0
RisesAtOffice x y = x.office ≡ y.office → x.ticket < y.ticket

-- where those of each office rise
pub rise_by_office : (os : List Outcome) → ((a : ℕ) → AllPairs IsBelow (filter (λ (o : Outcome). o.office == a) os)) → AllPairs RisesAtOffice os
rise_by_office [] h = λ i j d lt within. absurd (omega (arith, within))
rise_by_office (x ∷ os) h = AllPairs-cons RisesAtOffice x os above (rise_by_office os (λ a. drop_first (x.office == a) x (filter (λ (o : Outcome). o.office == a) os) (h a)))
  where
    here : Outcome → Bool
    here o = o.office == x.office

    own : AllPairs IsBelow (x ∷ filter here os)
    own = subst (λ b. AllPairs IsBelow (cond b (x ∷ filter here os) (filter here os))) (eq-eqb x.office x.office refl) (h x.office)

    above : All (RisesAtOffice x) os
    above = All-weaker (λ (o : Outcome). here o ≡ true → IsBelow x o) (RisesAtOffice x) (λ y f e. f (eq-eqb y.office x.office (sym e))) os
        (of_passing (IsBelow x) here os (λ k d within. own zero (suc k) d (omega arith) (omega (arith, within))))
