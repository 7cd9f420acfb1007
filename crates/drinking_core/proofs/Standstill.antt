-- Where all offices stand still, a thirsty one lacks the fork of the neighbour that keeps a bottle from it.
use Rattle.std.proofs.Common.{◌≡◌, ℕ, ◌+◌, ◌<◌, Bool, true, false, not, ◌&&◌, ◌||◌, List, length, sym, ap, ◌∙◌, subst, arith}
use Rattle.std.specs.Prelude.{◌==◌}
use Rattle.std.specs.List.{list_all, range_with_len}
use Rattle.std.proofs.Math.Bool.{and-false}
use Rattle.std.proofs.lemmas.Bool.{and_parts, or_parts, eq-eqb, not-false}
use Rattle.office_map.specs.PlanValue.{PlanValue, are_neighbours, is_end, has_ends, peer}
use Rattle.office_map.specs.Consistency.{IsConsistent}
use Rattle.office_map.specs.NeighbourLaws.{peer_near, has_peer, peer_back, near_within, has_ends_both, is_first_end}
use Rattle.bottle_values.specs.ListLaws.{true_of, passed, one_fails, other_false}
use Rattle.drinking_core.specs.Drinkers.{Drinker, is_thirsty, is_drinking, is_served, holds}
use Rattle.drinking_core.specs.Worlds.{World, Event, opening, run, HasOnePlaceEach}
use Rattle.drinking_core.specs.Standstill.{IsAtRest, StandsStill, LacksAFork}
use Rattle.drinking_core.proofs.BottlePlaces.{each_has_one_place}
use Rattle.drinking_core.proofs.StayingParts.{peers_stay, records_stay}
use Rattle.bottle_values.specs.Lists.{num, is_among}

-- a bottle is kept for the fork where no session works
for_the_fork : (needed drinks fork : Bool) → (needed && (drinks || fork)) ≡ true → drinks ≡ false → fork ≡ true
for_the_fork needed true fork kept rests = absurd cc
for_the_fork needed false fork kept rests = (and_parts needed fork kept).1

module _ (plan : PlanValue) (es : List Event) (forks : ℕ → ℕ → Bool) (c : IsConsistent plan) (still : StandsStill plan (run plan (opening plan) es) forks) where
  abbrev w : World
  w = run plan (opening plan) es

  p : HasOnePlaceEach plan w
  p = each_has_one_place plan es c

  -- a record whose bottle the session of an office needs and lacks, and whose token it has sent
  record Missing (a : ℕ) : Type 0 where
    pub at : ℕ
    pub ours : is_end plan at a ≡ true
    pub bottle : holds (w.drinker a) at ≡ false
    pub token : (w.drinker a).token at ≡ false

  missing : (a : ℕ) → a < length plan.offices → is_thirsty (w.drinker a).phase ≡ true → Missing a
  missing a inside thirsty =
      let d : Drinker = w.drinker a in
      let rest : IsAtRest plan a d (forks a) = still.rests a inside in
      let lack : (r : ℕ) × (is_among d.records r ≡ true) × (is_served d r ≡ false) = one_fails (is_served d) d.records (other_false (is_thirsty d.phase) (list_all (is_served d) d.records) rest.drinks thirsty) in
      let r : ℕ = lack.0 in
      let ours : is_end plan r a ≡ true = passed (λ x. is_end plan x a) (range_with_len 0 (length plan.records)) r (subst (λ (rs : List ℕ). is_among rs r ≡ true) (records_stay plan es a) lack.1) in
      let unserved : (not (d.needed r) ≡ false) × (holds d r ≡ false) = or_parts (not (d.needed r)) (holds d r) lack.2 in
      let unasked : (not (holds d r) && d.token r) ≡ false =
      other_false (d.needed r) (not (holds d r) && d.token r) (other_false (is_thirsty d.phase) (d.needed r && (not (holds d r) && d.token r)) (rest.asks r ours) thirsty) (not-false (d.needed r) unserved.0) in
      record { at = r; ours = ours; bottle = unserved.1; token = other_false (not (holds d r)) (d.token r) unasked (ap not unserved.1) }

  -- an end that has neither of two things is matched by the other end that has both
  there : (r a b : ℕ) (x y : Bool) (back here : ℕ) → has_ends plan r a b ≡ true → (w.drinker b).peer r ≡ a → x ≡ false → back ≡ 0 → here ≡ 0 →
      num ((w.drinker a).peer r == b && x) + (num ((w.drinker b).peer r == a && y) + (back + here)) ≡ num (has_ends plan r a b) → y ≡ true
  there r a b x y back here ends meets none nb nh places = true_of y (omega (
    arith,
    places,
    ap num ends,
    ap (λ k. num ((w.drinker a).peer r == b && k)) none,
    ap num (and-false ((w.drinker a).peer r == b)),
    ap (λ k. num (k && y)) (eq-eqb ((w.drinker b).peer r) a meets),
    nb,
    nh,
  ))

  lacks : (a : ℕ) → a < length plan.offices → is_thirsty (w.drinker a).phase ≡ true → LacksAFork plan a forks
  lacks a inside thirsty =
      let m : Missing a = missing a inside thirsty in
      let r : ℕ = m.at in
      let q : ℕ = peer plan a r in
      let e : Drinker = w.drinker q in
      let ends : has_ends plan r a q ≡ true = has_peer plan r a m.ours in
      let back : has_ends plan r q a ≡ true = has_ends_both plan r q a ∙ ends in
      let near : are_neighbours plan a q ≡ true = peer_near plan r a c m.ours in
      let meets : e.peer r ≡ a = peers_stay plan es q r ∙ peer_back plan r a m.ours in
      let bottle : holds e r ≡ true =
      there r a q (holds (w.drinker a) r) (holds e r) (length (w.bottles_on_way r a q)) (length (w.bottles_on_way r q a)) ends meets m.bottle (ap length (still.bottles r a q ends)) (ap length (still.bottles r q a back)) (p.bottle r a q) in
      let token : e.token r ≡ true = there r a q ((w.drinker a).token r) (e.token r) (w.tokens_on_way r a q) (w.tokens_on_way r q a) ends meets m.token (still.tokens r a q ends) (still.tokens r q a back) (p.token r a q) in
      let rest : IsAtRest plan q e (forks q) = still.rests q (near_within plan a q c near) in
      let keeps : Bool = e.needed r && (is_drinking e.phase || forks q (e.peer r)) in
      let kept : (e.needed r && (is_drinking e.phase || forks q (e.peer r))) ≡ true =
      not-false keeps (other_false (holds e r) (not keeps) (other_false (e.token r) (holds e r && not keeps) (rest.gives r (is_first_end plan r q a back)) token) bottle) in
      record { neighbour = q; near = near; there = ap (forks q) (sym meets) ∙ for_the_fork (e.needed r) (is_drinking e.phase) (forks q (e.peer r)) kept rest.rests }

pub the_thirsty_lack_a_fork : (plan : PlanValue) (es : List Event) (forks : ℕ → ℕ → Bool) (a : ℕ) → IsConsistent plan →
    StandsStill plan (run plan (opening plan) es) forks → a < length plan.offices → is_thirsty ((run plan (opening plan) es).drinker a).phase ≡ true → LacksAFork plan a forks
the_thirsty_lack_a_fork plan es forks a c still = lacks plan es forks c still a
