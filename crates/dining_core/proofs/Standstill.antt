-- Where all offices stand still, the thirsty wait for one of them that eats.
use Rattle.std.proofs.Common.{◌≡◌, ℕ, zero, suc, ◌<◌, ◌≤◌, Bool, true, false, not, ◌&&◌, List, length, refl, ap, ◌∙◌, subst, arith, ⊎_elim, inl, inr, ◌⊎◌}
use Rattle.std.specs.Prelude.{nat_lt}
use Rattle.std.specs.List.{list_all, range_with_len}
use Rattle.std.proofs.lemmas.Bool.{or_left, cases_Bool, and_from, not-false}
use Rattle.office_map.specs.PlanValue.{PlanValue, are_neighbours}
use Rattle.office_map.specs.Precedence.{occurrences, place}
use Rattle.office_map.specs.Consistency.{IsConsistent, IsAccepted}
use Rattle.bottle_values.specs.ListLaws.{other_false, num_one, true_of, one_fails, passed}
use Rattle.office_map.specs.NeighbourLaws.{near_both, near_within}
use Rattle.office_map.specs.OrderLaws.{placed_before}
use Rattle.dining_core.specs.declared.phase.Phase.{Phase}
use Rattle.dining_core.specs.declared.phase.Phase.TheVariants.{Thinking, Hungry, Eating}
use Rattle.dining_core.specs.Diners.{Diner, is_thinking, is_hungry, is_eating}
use Rattle.dining_core.specs.Worlds.{World, Event, opening, run, precedes, HasOnePlaceEach, HasNoRing}
use Rattle.dining_core.specs.Standstill.{IsAtRest, StandsStill, HasThirstyEater}
use Rattle.dining_core.proofs.ForkPlaces.{each_has_one_place, neighbours_stay}
use Rattle.dining_core.proofs.ForkLaws.{no_ring_from_plan}
use Rattle.dining_core.proofs.CleanForks.{clean_forks_are_for_the_hungry}
use Rattle.bottle_values.specs.Lists.{num, is_among}

awake : (p : Phase) (thirsty : Bool) → (is_thinking p && thirsty) ≡ false → thirsty ≡ true → (is_hungry p ≡ true) ⊎ (is_eating p ≡ true)
awake Thinking true e f = absurd cc
awake Thinking false e f = absurd cc
awake Hungry t e f = inl refl
awake Eating t e f = inr refl

module _ (plan : PlanValue) (es : List Event) (thirsty : ℕ → Bool) (c : IsConsistent plan) (ring : HasNoRing plan (run plan (opening plan) es)) (still : StandsStill plan (run plan (opening plan) es) thirsty) where
  abbrev w : World
  w = run plan (opening plan) es

  p : HasOnePlaceEach plan w
  p = each_has_one_place plan es c

  once : (a : ℕ) → occurrences a ring.order ≤ 1
  once a = omega (arith, ring.is.once a, num_one (nat_lt a (length plan.offices)))

  -- what isn't here is with the neighbour
  fork_there : (a v : ℕ) → are_neighbours plan a v ≡ true → (w.diner a).held v ≡ false → (w.diner v).held a ≡ true
  fork_there a v n e = true_of ((w.diner v).held a) (omega (arith, p.fork a v, ap num n, ap num e, still.forks a v n, still.forks v a (near_both plan v a ∙ n)))

  token_there : (a v : ℕ) → are_neighbours plan a v ≡ true → (w.diner a).token v ≡ false → (w.diner v).token a ≡ true
  token_there a v n e = true_of ((w.diner v).token a) (omega (arith, p.token a v, ap num n, ap num e, still.tokens a v n, still.tokens v a (near_both plan v a ∙ n)))

  -- a neighbour whose fork a hungry office lacks
  record Holder (a : ℕ) : Type 0 where
    pub office : ℕ
    pub near : are_neighbours plan a office ≡ true
    pub fork : (w.diner office).held a ≡ true
    pub token : (w.diner office).token a ≡ true

  holder : (a : ℕ) → a < length plan.offices → is_hungry (w.diner a).phase ≡ true → Holder a
  holder a inside hungry =
      let d : Diner = w.diner a in
      let rest : IsAtRest plan a d (thirsty a) = still.rests a inside in
      let lack : (v : ℕ) × (is_among d.neighbours v ≡ true) × (d.held v ≡ false) = one_fails d.held d.neighbours (other_false (is_hungry d.phase) (list_all d.held d.neighbours) rest.eats hungry) in
      let v : ℕ = lack.0 in
      let near : are_neighbours plan a v ≡ true = passed (are_neighbours plan a) (range_with_len 0 (length plan.offices)) v (subst (λ (ns : List ℕ). is_among ns v ≡ true) (neighbours_stay plan es a) lack.1) in
      let no_token : d.token v ≡ false = other_false (not (d.held v)) (d.token v) (other_false (is_hungry d.phase) (not (d.held v) && d.token v) (rest.asks v near) hungry) (ap not lack.2) in
      record { office = v; near = near; fork = fork_there a v near lack.2; token = token_there a v near no_token }

  -- a fork that is asked for, and that an office keeps though it doesn't eat, is clean
  kept_clean : (a v : ℕ) → a < length plan.offices → are_neighbours plan a v ≡ true → (w.diner a).held v ≡ true → (w.diner a).token v ≡ true → is_eating (w.diner a).phase ≡ false → (w.diner a).clean v ≡ true
  kept_clean a v inside near fork token fasts =
      let d : Diner = w.diner a in
      let kept : (d.token v && (d.held v && not (d.clean v))) ≡ false = other_false (not (is_eating d.phase)) (d.token v && (d.held v && not (d.clean v))) ((still.rests a inside).gives v near) (ap not fasts) in
      not-false (d.clean v) (other_false (d.held v) (not (d.clean v)) (other_false (d.token v) (d.held v && not (d.clean v)) kept token) fork)

  -- a hungry office waits for the holder of a fork that it lacks: for one that eats, or for one that is hungry itself and
  -- comes earlier in the order
  waits : (k a : ℕ) → place a ring.order < k → a < length plan.offices → is_hungry (w.diner a).phase ≡ true → HasThirstyEater plan w thirsty
  waits zero a lt inside hungry = absurd (omega (arith, lt))
  waits (suc k) a lt inside hungry =
      let h : Holder a = holder a inside hungry in
      let v : ℕ = h.office in
      let d : Diner = w.diner v in
      let back : are_neighbours plan v a ≡ true = near_both plan v a ∙ h.near in
      let within : v < length plan.offices = near_within plan a v c h.near in
      ⊎_elim
      (λ eats. record { office = v; of_plan = within; eats = eats; thirsts = not-false (thirsty v) (other_false (is_eating d.phase) (not (thirsty v)) (still.rests v within).leaves eats) })
      (λ fasts.
      let clean : (d.held a && d.clean a) ≡ true = and_from (d.held a) (d.clean a) h.fork (kept_clean v a within back h.fork h.token fasts) in
      let first : precedes w v a ≡ true = or_left (d.held a && d.clean a) _ clean in
      let ahead : place v ring.order < place a ring.order = placed_before ring.order v a once (ring.is.earlier v a back first) in
      waits k v (omega (arith, ahead, lt)) within (clean_forks_are_for_the_hungry plan es v a c clean))
      (cases_Bool (is_eating d.phase))

  the_thirsty_wait : (a : ℕ) → a < length plan.offices → thirsty a ≡ true → HasThirstyEater plan w thirsty
  the_thirsty_wait a inside t = ⊎_elim
      (λ hungry. waits (suc (place a ring.order)) a (omega arith) inside hungry)
      (λ eats. record { office = a; of_plan = inside; eats = eats; thirsts = t })
      (awake (w.diner a).phase (thirsty a) (still.rests a inside).hungers t)

pub the_thirsty_wait_for_an_eater : (plan : PlanValue) (es : List Event) (thirsty : ℕ → Bool) (a : ℕ) → IsAccepted plan →
    StandsStill plan (run plan (opening plan) es) thirsty → a < length plan.offices → thirsty a ≡ true → HasThirstyEater plan (run plan (opening plan) es) thirsty
the_thirsty_wait_for_an_eater plan es thirsty a accepted still inside t = the_thirsty_wait plan es thirsty accepted.consistent (no_ring_from_plan plan es accepted) still a inside t
