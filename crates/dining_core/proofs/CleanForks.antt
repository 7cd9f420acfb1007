-- Who has a clean fork is hungry, and so is who is sent one or asked for one, event by event.
use Rattle.std.proofs.Common.{◌≡◌, ℕ, zero, suc, ◌+◌, ◌≤◌, Bool, true, false, not, ◌&&◌, cond, List, [], ◌∷◌, ◌++◌, length, refl, sym, ap, ◌∙◌, subst, arith, ⊎_elim}
use Rattle.std.specs.Prelude.{◌==◌, nat_lt}
use Rattle.std.specs.List.{list_all}
use Rattle.std.proofs.lemmas.Bool.{cond_both, and_parts}
use Rattle.office_map.specs.PlanValue.{PlanValue, are_neighbours, fork_starts_at}
use Rattle.office_map.specs.Consistency.{IsConsistent}
use Rattle.office_map.specs.NeighbourLaws.{neighbours_apart}
use Rattle.dining_core.specs.declared.phase.Phase.{Phase}
use Rattle.dining_core.specs.declared.phase.Phase.TheVariants.{Thinking, Hungry, Eating}
use Rattle.dining_core.specs.Diners.{Diner, ForkRule, BecomeHungry, AskFork, GiveFork, Eat, Leave, is_hungry, is_eating, may, act, with_token, with_fork}
use Rattle.dining_core.specs.Worlds.{World, Event, Do, TokenComes, ForkComes, opening, with_way, one_more, done, does, forks_after, token_taken, fork_taken, happens, run, HasOnePlaceEach}
use Rattle.dining_core.specs.WayLaws.{way_off, cases_two}
use Rattle.dining_core.proofs.ForkPlaces.{given, each_has_one_place}
use Rattle.dining_core.proofs.EatersForks.{both_ways, has_each}
use Rattle.dining_core.proofs.ForkLaws.{run_more}
use Rattle.bottle_values.specs.Lists.{num}
use Rattle.bottle_values.specs.ListLaws.{true_of}
use Rattle.bottle_values.specs.MapLaws.{put_cases}

no_true : false ≡ true → ⊥
no_true e = absurd cc

false_of : (b : Bool) → num b ≡ 0 → b ≡ false
false_of true h = absurd (omega (arith, h))
false_of false h = refl

-- an office with a clean fork is hungry; so is one to which a fork comes, with so many on the way from each neighbour,
-- and one that has neither a neighbour's fork nor the token to ask for it
record WantsForks (plan : PlanValue) (a : ℕ) (d : Diner) (coming : ℕ → ℕ) : Type 0 where
  pub clean : (v : ℕ) → (d.held v && d.clean v) ≡ true → is_hungry d.phase ≡ true
  pub comes : (v : ℕ) → are_neighbours plan a v ≡ true → 1 ≤ coming v → is_hungry d.phase ≡ true
  pub asked : (v : ℕ) → are_neighbours plan a v ≡ true → d.held v ≡ false → d.token v ≡ false → is_hungry d.phase ≡ true

abbrev AllWant : PlanValue → World → Type 0
AllWant plan w = (a : ℕ) → WantsForks plan a (w.diner a) (λ v. w.forks_on_way v a)

-- what of two neighbours one has, the other hasn't
fork_away : (plan : PlanValue) (w : World) (a b : ℕ) → HasOnePlaceEach plan w → are_neighbours plan a b ≡ true → (w.diner b).held a ≡ true → (w.diner a).held b ≡ false
fork_away plan w a b p near h = false_of ((w.diner a).held b) (omega (arith, p.fork a b, ap num near, ap num h))

token_away : (plan : PlanValue) (w : World) (a b : ℕ) → HasOnePlaceEach plan w → are_neighbours plan a b ≡ true → (w.diner b).token a ≡ true → (w.diner a).token b ≡ false
token_away plan w a b p near h = false_of ((w.diner a).token b) (omega (arith, p.token a b, ap num near, ap num h))

-- ---- a rule

token_given : (d : Diner) (v : ℕ) → may d (GiveFork v) ≡ true → d.token v ≡ true
token_given d v g = (and_parts (d.token v) (d.held v && not (d.clean v)) (and_parts (not (is_eating d.phase)) (d.token v && (d.held v && not (d.clean v))) g).1).0

not_hungry : (x : Phase) → is_eating x ≡ true → is_hungry x ≡ true → ⊥
not_hungry Thinking e f = no_true e
not_hungry Hungry e f = no_true e
not_hungry Eating e f = no_true f

-- at the office that does it
doer_wants : (plan : PlanValue) (w : World) (a : ℕ) (rule : ForkRule) → IsConsistent plan → HasOnePlaceEach plan w →
    ((v : ℕ) → are_neighbours plan a v ≡ true → list_all (w.diner a).held (w.diner a).neighbours ≡ true → (w.diner a).held v ≡ true) →
    may (w.diner a) rule ≡ true → WantsForks plan a (w.diner a) (λ v. w.forks_on_way v a) → WantsForks plan a (act (w.diner a) rule) (λ v. forks_after w.forks_on_way a rule v a)
doer_wants plan w a (BecomeHungry thirsty) c p all g h = record { clean = λ v e. refl; comes = λ v n e. refl; asked = λ v n e f. refl }
doer_wants plan w a (AskFork x) c p all g h =
    let hungry : is_hungry (w.diner a).phase ≡ true = (and_parts (is_hungry (w.diner a).phase) (not ((w.diner a).held x) && (w.diner a).token x) g).0 in
    record { clean = λ v e. hungry; comes = λ v n e. hungry; asked = λ v n e f. hungry }
doer_wants plan w a (GiveFork x) c p all g h =
    let d : Diner = w.diner a in
    record {
      clean = λ v e. h.clean v (still (v == x) (d.held v) (d.clean v) e);
      comes = λ v n e. h.comes v n (subst (λ k. 1 ≤ k) (way_off w.forks_on_way a x (w.forks_on_way a x + 1) v a (λ i. neighbours_apart plan a v c n (sym i.0))) e);
      asked = λ v n e f. put_cases d.held x false v (λ b. b ≡ false → is_hungry d.phase ≡ true)
          (λ i k. both_ways (d.token v) (ap d.token i ∙ token_given d x g) f)
          (λ i k. h.asked v n k f) e;
    }
  where
    still : (m k l : Bool) → (cond m false k && l) ≡ true → (k && l) ≡ true
    still true k l e = absurd (no_true e)
    still false k l e = e
doer_wants plan w a Eat c p all g h =
    let d : Diner = w.diner a in
    let here : (v : ℕ) → are_neighbours plan a v ≡ true → d.held v ≡ true = λ v n. all v n (and_parts (is_hungry d.phase) (list_all d.held d.neighbours) g).1 in
    record {
      clean = λ v e. absurd (no_true (and_parts (d.held v) false e).1);
      comes = λ v n e. absurd (omega (arith, p.fork a v, ap num n, ap num (here v n), e));
      asked = λ v n e f. both_ways (d.held v) (here v n) e;
    }
doer_wants plan w a (Leave thirsty) c p all g h =
    let d : Diner = w.diner a in
    let eats : is_eating d.phase ≡ true = (and_parts (is_eating d.phase) (not thirsty) g).0 in
    record {
      clean = λ v e. absurd (not_hungry d.phase eats (h.clean v e));
      comes = λ v n e. absurd (not_hungry d.phase eats (h.comes v n e));
      asked = λ v n e f. absurd (not_hungry d.phase eats (h.asked v n e f));
    }

-- at another office, to which no fork comes but one that it asked for
other_wants : (plan : PlanValue) (w : World) (b : ℕ) (rule : ForkRule) (a : ℕ) → HasOnePlaceEach plan w → may (w.diner b) rule ≡ true →
    WantsForks plan a (w.diner a) (λ v. w.forks_on_way v a) → WantsForks plan a (w.diner a) (λ v. forks_after w.forks_on_way b rule v a)
other_wants plan w b (BecomeHungry thirsty) a p g h = h
other_wants plan w b (AskFork x) a p g h = h
other_wants plan w b Eat a p g h = h
other_wants plan w b (Leave thirsty) a p g h = h
other_wants plan w b (GiveFork x) a p g h = record { clean = h.clean; comes = comes; asked = h.asked }
  where
    comes : (v : ℕ) → are_neighbours plan a v ≡ true → 1 ≤ one_more w.forks_on_way b x v a → is_hungry (w.diner a).phase ≡ true
    comes v n e = ⊎_elim
        (λ i.
        let d : Diner = w.diner b in
        let near : are_neighbours plan a b ≡ true = ap (are_neighbours plan a) (sym i.0) ∙ n in
        let fork : d.held a ≡ true = ap d.held i.1 ∙ (given (is_eating d.phase) (d.token x) (d.held x) (d.clean x) g).0 in
        h.asked b near (fork_away plan w a b p near fork) (token_away plan w a b p near (ap d.token i.1 ∙ token_given d x g)))
        (λ off. h.comes v n (subst (λ k. 1 ≤ k) (way_off w.forks_on_way b x (w.forks_on_way b x + 1) v a off) e))
        (cases_two v b a x)

rule_wants : (plan : PlanValue) (w : World) (b : ℕ) (rule : ForkRule) → IsConsistent plan → HasOnePlaceEach plan w →
    ((a v : ℕ) → are_neighbours plan a v ≡ true → list_all (w.diner a).held (w.diner a).neighbours ≡ true → (w.diner a).held v ≡ true) →
    may (w.diner b) rule ≡ true → AllWant plan w → AllWant plan (done w b rule)
rule_wants plan w b rule c p all g h a = put_cases w.diner b (act (w.diner b) rule) a (λ d. WantsForks plan a d (λ v. forks_after w.forks_on_way b rule v a))
    (λ i. subst (λ z. WantsForks plan z (act (w.diner b) rule) (λ v. forks_after w.forks_on_way b rule v z)) (sym i) (doer_wants plan w b rule c p (all b) g (h b)))
    (λ ne. other_wants plan w b rule a p g (h a))

-- ---- what comes

token_wants : (plan : PlanValue) (w : World) (b v n : ℕ) → AllWant plan w → AllWant plan (token_taken w b v n)
token_wants plan w b v zero h a = h a
token_wants plan w b v (suc left) h a = put_cases w.diner b (with_token (w.diner b) v) a (λ d. WantsForks plan a d (λ x. w.forks_on_way x a))
    (λ i. subst (λ z. WantsForks plan z (with_token (w.diner b) v) (λ x. w.forks_on_way x z)) (sym i) (record {
      clean = (h b).clean;
      comes = (h b).comes;
      asked = λ x near e f. (h b).asked x near e (lacked (x == v) ((w.diner b).token x) f);
    }))
    (λ ne. h a)
  where
    lacked : (m t : Bool) → cond m true t ≡ false → t ≡ false
    lacked true t e = absurd cc
    lacked false t e = e

fork_wants : (plan : PlanValue) (w : World) (b v n : ℕ) → HasOnePlaceEach plan w → w.forks_on_way v b ≡ n → AllWant plan w → AllWant plan (fork_taken w b v n)
fork_wants plan w b v zero p is h a = h a
fork_wants plan w b v (suc left) p is h a = put_cases w.diner b (with_fork (w.diner b) v) a (λ d. WantsForks plan a d (λ x. with_way w.forks_on_way v b left x a))
    (λ i. subst (λ z. WantsForks plan z (with_fork (w.diner b) v) (λ x. with_way w.forks_on_way v b left x z)) (sym i)
    (record { clean = λ x e. hungry; comes = λ x n e. hungry; asked = λ x n e f. hungry }))
    (λ ne. record {
      clean = (h a).clean;
      comes = λ x n e. (h a).comes x n (subst (λ k. 1 ≤ k) (way_off w.forks_on_way v b left x a (λ i. ne i.1)) e);
      asked = (h a).asked;
    })
  where
    near : are_neighbours plan b v ≡ true
    near = true_of (are_neighbours plan b v) (omega (arith, p.fork b v, is))

    hungry : is_hungry (w.diner b).phase ≡ true
    hungry = (h b).comes v near (omega (arith, is))

-- ---- every list of events

after_event : (plan : PlanValue) (w : World) (e : Event) → IsConsistent plan → HasOnePlaceEach plan w →
    ((a v : ℕ) → are_neighbours plan a v ≡ true → list_all (w.diner a).held (w.diner a).neighbours ≡ true → (w.diner a).held v ≡ true) →
    AllWant plan w → AllWant plan (happens plan w e)
after_event plan w (Do b rule) c p all h = cond_both (does plan w b rule) (done w b rule) w (AllWant plan)
    (λ e. rule_wants plan w b rule c p all (and_parts (nat_lt b (length plan.offices)) (may (w.diner b) rule) e).1 h)
    (λ e. h)
after_event plan w (TokenComes a v) c p all h = token_wants plan w a v (w.tokens_on_way v a) h
after_event plan w (ForkComes a v) c p all h = fork_wants plan w a v (w.forks_on_way v a) p refl h

after_run : (plan : PlanValue) (so_far es : List Event) → IsConsistent plan → AllWant plan (run plan (opening plan) so_far) → AllWant plan (run plan (run plan (opening plan) so_far) es)
after_run plan so_far [] c h = h
after_run plan so_far (e ∷ es) c h =
    let w : World = run plan (opening plan) so_far in
    let is : run plan (opening plan) (so_far ++ e ∷ []) ≡ happens plan w e = run_more plan (opening plan) so_far e in
    subst (λ (x : World). AllWant plan (run plan x es)) is
    (after_run plan (so_far ++ e ∷ []) es c (subst (AllWant plan) (sym is) (after_event plan w e c (each_has_one_place plan so_far c) (λ a v n. has_each plan so_far a v c n) h)))

at_start : (plan : PlanValue) → AllWant plan (opening plan)
at_start plan a = record {
  clean = λ v e. absurd (no_true (and_parts (are_neighbours plan a v && fork_starts_at plan a v a) false e).1);
  comes = λ v n e. absurd (omega (arith, e));
  asked = λ v n e f. absurd (either (are_neighbours plan a v) (fork_starts_at plan a v a) n e f);
}
  where
    either : (n s : Bool) → n ≡ true → (n && s) ≡ false → (n && not s) ≡ false → ⊥
    either true true e f g = absurd cc
    either true false e f g = absurd cc
    either false s e f g = absurd cc

pub clean_forks_are_for_the_hungry : (plan : PlanValue) (es : List Event) (a v : ℕ) → IsConsistent plan →
    (((run plan (opening plan) es).diner a).held v && ((run plan (opening plan) es).diner a).clean v) ≡ true → is_hungry ((run plan (opening plan) es).diner a).phase ≡ true
clean_forks_are_for_the_hungry plan es a v c = (after_run plan [] es c (at_start plan) a).clean v
