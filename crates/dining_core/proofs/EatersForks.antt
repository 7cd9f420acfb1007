-- An office that eats has all its forks, event by event; so two neighbours never eat at once.
use Rattle.std.proofs.Common.{◌≡◌, ℕ, zero, suc, Bool, true, false, not, ◌&&◌, List, [], ◌∷◌, length, refl, ap, ◌∙◌, subst, arith, ⊎_elim}
use Rattle.std.specs.Prelude.{nat_lt}
use Rattle.std.specs.List.{list_all}
use Rattle.std.proofs.lemmas.Bool.{cond_both, and_parts, and_from, not-true, cases_Bool}
use Rattle.office_map.specs.PlanValue.{PlanValue, are_neighbours}
use Rattle.office_map.specs.Consistency.{IsConsistent}
use Rattle.office_map.specs.NeighbourLaws.{near_within, near_both}
use Rattle.dining_core.specs.Diners.{Diner, ForkRule, BecomeHungry, AskFork, GiveFork, Eat, Leave, is_hungry, is_eating, may, act, with_token, with_fork}
use Rattle.dining_core.specs.Worlds.{World, Event, Do, TokenComes, ForkComes, opening, done, does, token_taken, fork_taken, happens, run, HasOnePlaceEach, HasItsForks}
use Rattle.dining_core.proofs.ForkPlaces.{each_has_one_place, neighbours_stay}
use Rattle.dining_core.proofs.EaterLast.{of_each}
use Rattle.bottle_values.specs.Maps.{put}
use Rattle.bottle_values.specs.Lists.{num}
use Rattle.bottle_values.specs.MapLaws.{put_cases}

no_true : false ≡ true → ⊥
no_true e = absurd cc

pub both_ways : {P : Type 0} (b : Bool) → b ≡ true → b ≡ false → P
both_ways true e f = absurd cc
both_ways false e f = absurd cc

-- one more fork is here
one_came : (held : ℕ → Bool) (v : ℕ) (ns : List ℕ) → list_all held ns ≡ true → list_all (put held v true) ns ≡ true
one_came held v [] e = refl
one_came held v (n ∷ ns) e =
    let k : (held n ≡ true) × (list_all held ns ≡ true) = and_parts (held n) (list_all held ns) e in
    and_from (put held v true n) (list_all (put held v true) ns) (put_cases held v true n (λ b. b ≡ true) (λ s. refl) (λ ne. k.0)) (one_came held v ns k.1)

forks_after_rule : (d : Diner) (rule : ForkRule) → may d rule ≡ true → HasItsForks d → HasItsForks (act d rule)
forks_after_rule d (BecomeHungry thirsty) g h = λ e. absurd (no_true e)
forks_after_rule d (AskFork v) g h = h
forks_after_rule d (GiveFork v) g h = λ e. both_ways (is_eating d.phase) e (not-true (is_eating d.phase) (and_parts (not (is_eating d.phase)) (d.token v && (d.held v && not (d.clean v))) g).0)
forks_after_rule d Eat g h = λ e. (and_parts (is_hungry d.phase) (list_all d.held d.neighbours) g).1
forks_after_rule d (Leave thirsty) g h = λ e. absurd (no_true e)

abbrev AllHave : World → Type 0
AllHave w = (a : ℕ) → HasItsForks (w.diner a)

one_put : (f : ℕ → Diner) (a : ℕ) (d : Diner) → HasItsForks d → ((x : ℕ) → HasItsForks (f x)) → (x : ℕ) → HasItsForks (put f a d x)
one_put f a d p h x = put_cases f a d x HasItsForks (λ e. p) (λ ne. h x)

after_token : (w : World) (a v n : ℕ) → AllHave w → AllHave (token_taken w a v n)
after_token w a v zero h = h
after_token w a v (suc left) h = one_put w.diner a (with_token (w.diner a) v) (h a) h

after_fork : (w : World) (a v n : ℕ) → AllHave w → AllHave (fork_taken w a v n)
after_fork w a v zero h = h
after_fork w a v (suc left) h = one_put w.diner a (with_fork (w.diner a) v) (λ e. one_came (w.diner a).held v (w.diner a).neighbours (h a e)) h

after_event : (plan : PlanValue) (w : World) (e : Event) → AllHave w → AllHave (happens plan w e)
after_event plan w (Do a rule) h =
    cond_both (does plan w a rule) (done w a rule) w AllHave
    (λ e. one_put w.diner a (act (w.diner a) rule) (forks_after_rule (w.diner a) rule (and_parts (nat_lt a (length plan.offices)) (may (w.diner a) rule) e).1 (h a)) h)
    (λ e. h)
after_event plan w (TokenComes a v) h = after_token w a v (w.tokens_on_way v a) h
after_event plan w (ForkComes a v) h = after_fork w a v (w.forks_on_way v a) h

after_run : (plan : PlanValue) (w : World) (es : List Event) → AllHave w → AllHave (run plan w es)
after_run plan w [] h = h
after_run plan w (e ∷ es) h = after_run plan (happens plan w e) es (after_event plan w e h)

pub eaters_have_their_forks : (plan : PlanValue) (es : List Event) (a : ℕ) → HasItsForks ((run plan (opening plan) es).diner a)
eaters_have_their_forks plan es = after_run plan (opening plan) es (λ a e. absurd (no_true e))

-- who has all forks has each neighbour's
pub has_each : (plan : PlanValue) (es : List Event) (a v : ℕ) → IsConsistent plan → are_neighbours plan a v ≡ true →
    list_all ((run plan (opening plan) es).diner a).held ((run plan (opening plan) es).diner a).neighbours ≡ true → ((run plan (opening plan) es).diner a).held v ≡ true
has_each plan es a v c near all =
    let d : Diner = (run plan (opening plan) es).diner a in
    of_each d.held (are_neighbours plan a) (length plan.offices) v (subst (λ (ns : List ℕ). list_all d.held ns ≡ true) (neighbours_stay plan es a) all) (near_within plan a v c near) near

pub neighbours_eat_apart : (plan : PlanValue) (es : List Event) (u v : ℕ) → IsConsistent plan → are_neighbours plan u v ≡ true →
    (is_eating ((run plan (opening plan) es).diner u).phase && is_eating ((run plan (opening plan) es).diner v).phase) ≡ false
neighbours_eat_apart plan es u v h near = ⊎_elim (λ both. absurd (never both)) (λ apart. apart) (cases_Bool (is_eating (w.diner u).phase && is_eating (w.diner v).phase))
  where
    w : World
    w = run plan (opening plan) es

    places : HasOnePlaceEach plan w
    places = each_has_one_place plan es h

    has : (x y : ℕ) → are_neighbours plan x y ≡ true → is_eating (w.diner x).phase ≡ true → (w.diner x).held y ≡ true
    has x y n e = has_each plan es x y h n (eaters_have_their_forks plan es x e)

    never : (is_eating (w.diner u).phase && is_eating (w.diner v).phase) ≡ true → ⊥
    never both =
        let e : (is_eating (w.diner u).phase ≡ true) × (is_eating (w.diner v).phase ≡ true) = and_parts (is_eating (w.diner u).phase) (is_eating (w.diner v).phase) both in
        omega (arith, places.fork u v, ap num near, ap num (has u v near e.0), ap num (has v u (near_both plan v u ∙ near) e.1))
