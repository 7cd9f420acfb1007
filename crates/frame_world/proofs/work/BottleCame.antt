-- A bottle that comes lowers the work of the pairs by one.
use Rattle.std.proofs.Common.{◌≡◌, ℕ, ◌+◌, ◌≤◌, Bool, true, false, not, cond, inr, Some, refl, ap, ◌∙◌, arith, eq-eqb}
use Rattle.std.specs.Prelude.{◌==◌, ◌&&◌}
use Rattle.bottle_values.specs.declared.Value.{Value}
use Rattle.bottle_values.specs.Lists.{num}
use Rattle.bottle_values.specs.ListLaws.{true_of}
use Rattle.bottle_values.specs.Maps.{put}
use Rattle.frame_codec.specs.declared.message.Msg.TheVariants as msg
use Rattle.office_map.specs.PlanValue.{PlanValue, has_ends, peer}
use Rattle.office_map.specs.NeighbourLaws.{peer_is, has_ends_both}
use Rattle.window_link.specs.declared.arrival.Arrival.TheVariants as arrival
use Rattle.window_link.specs.Links.{LinkState}
use Rattle.token_channel.specs.declared.thing.Thing.{Thing}
use Rattle.token_channel.specs.declared.thing.Thing.TheVariants.{Bottle, BottleToken}
use Rattle.token_channel.specs.Things.{count_carrying}
use Rattle.token_channel.specs.Ends.{is_shared}
use Rattle.site_core.specs.Pairs.{Pairs, held, arrived}
use Rattle.site_core.specs.neighbours.HeldLaws.{after_message}
use Rattle.frame_world.specs.WorkLeft.{pairs_work}
use Rattle.frame_world.proofs.Links.{Comes}
use Rattle.frame_world.proofs.PlacesAndForks.{places_of}
use Rattle.frame_world.proofs.WaysBetween.{one_came}
use Rattle.frame_world.proofs.work.RequestsGo.{is_way, reaches}
use Rattle.frame_world.proofs.work.ForkAsked.{kept_at}
use Rattle.frame_world.proofs.work.BottleSteps.{Takes, held_then, came_count, came_same, kept_same, came_forks_same, came_as_given, left_stays, way_work, ways_fall, way_less}

-- a token that was with the bottle is, and where the bottle comes to none is without it
less_alone : (c token token' bottle bottle' : Bool) → token' ≡ token → bottle' ≡ cond c true bottle → num (token' && not bottle') ≤ num (token && not bottle)
less_alone true token true bottle true e f = omega arith
less_alone true token false bottle bottle' e f = omega arith
less_alone true token true bottle false e f = absurd cc
less_alone false token token' bottle bottle' e f = omega (arith, ap (λ b. num (b && not bottle')) e ∙ ap (λ b. num (token && not b)) f)

module _ (plan : PlanValue) (pairs pairs' : ℕ → Pairs) (u a r : ℕ) (z : Value) (s : Takes pairs pairs' u a (msg.Bottle r z)) where
  way_falls : (q x y : ℕ) → way_work pairs' q x y + num (is_way u a x y && (q == r)) ≤ way_work pairs q x y
  way_falls q x y =
      omega (
        arith,
        came_count pairs pairs' u a (msg.Bottle r z) s x y (Bottle q),
        came_same pairs pairs' u a (msg.Bottle r z) s x y (BottleToken q) refl,
        less_alone (is_way a u x y && (q == r)) (held (pairs x) y (BottleToken q)) (held (pairs' x) y (BottleToken q)) (held (pairs x) y (Bottle q)) (held (pairs' x) y (Bottle q)) (kept_same pairs pairs' u a (msg.Bottle r z) s x y (BottleToken q) refl) (s.held x y (Bottle q)),
      )

  pub came_less : has_ends plan r u a ≡ true → pairs_work plan pairs' + 1 ≤ pairs_work plan pairs
  came_less ends =
      way_less plan pairs pairs' r u a ends (came_forks_same pairs pairs' u a (msg.Bottle r z) s plan refl refl)
      (λ q x y. ways_fall pairs pairs' q x y (num (is_way u a x y && (q == r))) (num (is_way u a y x && (q == r)))
      (left_stays pairs pairs' q (came_as_given pairs pairs' u a (msg.Bottle r z) s q refl (λ ms. refl) (λ x y. inr (kept_same pairs pairs' u a (msg.Bottle r z) s x y (BottleToken q) refl))) x y)
      (way_falls q x y) (way_falls q y x))

-- what an office is once a bottle came
abbrev pub with_the_bottle : Pairs → ℕ → LinkState → ℕ → Value → Pairs
with_the_bottle p u l r z = arrived p u l (arrival.Fresh (msg.Bottle r z))

pub bottle_came : (plan : PlanValue) (pairs : ℕ → Pairs) (u a r : ℕ) (z : Value) (l : LinkState) → ((x y : ℕ) (t : Thing) → places_of pairs x y t ≡ num (is_shared plan x y t)) → ((q : ℕ) → (pairs a).drinker.peer q ≡ peer plan a q) →
    Comes pairs u a (Some (msg.Bottle r z)) (put pairs a (with_the_bottle (pairs a) u l r z)) → pairs_work plan (put pairs a (with_the_bottle (pairs a) u l r z)) + 1 ≤ pairs_work plan pairs
bottle_came plan pairs u a r z l placed peers c = came_less plan pairs (put pairs a (with_the_bottle (pairs a) u l r z)) u a r z takes ends
  where
    ends : has_ends plan r u a ≡ true
    ends = true_of (has_ends plan r u a) (omega (arith, placed u a (Bottle r), ap (count_carrying (Bottle r)) (one_came pairs (put pairs a (with_the_bottle (pairs a) u l r z)) u a (msg.Bottle r z) c).1, ap num (eq-eqb r r refl)))

    its_end : (pairs a).drinker.peer r ≡ u
    its_end = peers r ∙ peer_is plan r a u (has_ends_both plan r a u ∙ ends)

    takes : Takes pairs (put pairs a (with_the_bottle (pairs a) u l r z)) u a (msg.Bottle r z)
    takes = record {
      diner = λ x. kept_at (λ p. p.diner) pairs a (with_the_bottle (pairs a) u l r z) refl x;
      needed = λ q x. kept_at (λ p. p.drinker.needed q) pairs a (with_the_bottle (pairs a) u l r z) refl x;
      held = held_then pairs a u (Bottle r) true (with_the_bottle (pairs a) u l r z) (after_message (pairs a).diner (pairs a).drinker u (msg.Bottle r z) its_end);
      ways = (reaches pairs u a (msg.Bottle r z) (with_the_bottle (pairs a) u l r z) (after_message (pairs a).diner (pairs a).drinker u (msg.Bottle r z) its_end) c).ways;
    }
