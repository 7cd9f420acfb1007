-- A request for a bottle that comes lowers the work of the pairs by one.
use Rattle.std.proofs.Common.{◌≡◌, ℕ, ◌+◌, ◌≤◌, Bool, true, false, not, cond, ◌⊎◌, inl, inr, Some, refl, ap, ◌∙◌, arith, eq-eqb}
use Rattle.std.specs.Prelude.{◌==◌, ◌&&◌, ◌||◌}
use Rattle.bottle_values.specs.Lists.{num}
use Rattle.bottle_values.specs.ListLaws.{true_of}
use Rattle.bottle_values.specs.Maps.{put}
use Rattle.frame_codec.specs.declared.message.Msg.TheVariants as msg
use Rattle.office_map.specs.PlanValue.{PlanValue, has_ends, peer}
use Rattle.office_map.specs.NeighbourLaws.{peer_is, has_ends_both}
use Rattle.window_link.specs.declared.arrival.Arrival.TheVariants as arrival
use Rattle.window_link.specs.Links.{LinkState}
use Rattle.token_channel.specs.declared.thing.Thing.{Thing}
use Rattle.token_channel.specs.declared.thing.Thing.TheVariants.{Bottle, BottleToken}
use Rattle.token_channel.specs.Things.{count_carrying}
use Rattle.token_channel.specs.Ends.{is_shared}
use Rattle.site_core.specs.Pairs.{Pairs, held, arrived}
use Rattle.site_core.specs.neighbours.HeldLaws.{after_message}
use Rattle.frame_world.specs.WorkLeft.{is_sent, is_near, pairs_work}
use Rattle.frame_world.proofs.Links.{Comes}
use Rattle.frame_world.proofs.PlacesAndForks.{places_of}
use Rattle.frame_world.proofs.WaysBetween.{one_came}
use Rattle.frame_world.proofs.work.RequestsGo.{is_way, reaches}
use Rattle.frame_world.proofs.work.ForkAsked.{kept_at}
use Rattle.frame_world.proofs.work.BottleSteps.{Takes, held_then, came_count, came_same, kept_same, came_forks_same, came_as_given, left_stays, way_work, ways_fall, way_less, there}

-- where the token comes to, the bottle is held
with_bottle : (c token token' bottle : Bool) → token' ≡ cond c true token → (c ≡ true → bottle ≡ true) → num (token' && not bottle) ≡ num (token && not bottle)
with_bottle true token true true e f = absent token
  where
    absent : (b : Bool) → num (true && not true) ≡ num (b && not true)
    absent true = refl
    absent false = refl
with_bottle true token false bottle e f = absurd cc
with_bottle true token true false e f = let no : false ≡ true = f refl in absurd cc
with_bottle false token token' bottle e f = ap (λ b. num (b && not bottle)) e

module _ (plan : PlanValue) (pairs pairs' : ℕ → Pairs) (u a r : ℕ) (s : Takes pairs pairs' u a (msg.AskBottle r)) (found : held (pairs a) u (Bottle r) ≡ true) where
  with_it : (q x y : ℕ) → (is_way a u x y && (q == r)) ≡ true → held (pairs x) y (Bottle q) ≡ true
  with_it q x y c = there (λ x y q. held (pairs x) y (Bottle q)) a u r x y q c ∙ found

  token_stays : (q x y : ℕ) → (is_near pairs x y (Bottle q) ≡ true) ⊎ (held (pairs' x) y (BottleToken q) ≡ held (pairs x) y (BottleToken q))
  token_stays q x y = go (is_way a u x y && (q == r)) refl
    where
      go : (c : Bool) → (is_way a u x y && (q == r)) ≡ c → (is_near pairs x y (Bottle q) ≡ true) ⊎ (held (pairs' x) y (BottleToken q) ≡ held (pairs x) y (BottleToken q))
      go true c = inl (ap (λ b. b || is_sent pairs y x (Bottle q)) (with_it q x y c))
      go false c = inr (s.held x y (BottleToken q) ∙ ap (λ b. cond b true (held (pairs x) y (BottleToken q))) c)

  way_falls : (q x y : ℕ) → way_work pairs' q x y + num (is_way u a x y && (q == r)) ≤ way_work pairs q x y
  way_falls q x y =
      omega (
        arith,
        came_same pairs pairs' u a (msg.AskBottle r) s x y (Bottle q) refl,
        came_count pairs pairs' u a (msg.AskBottle r) s x y (BottleToken q),
        ap (λ b. num (held (pairs' x) y (BottleToken q) && not b)) (kept_same pairs pairs' u a (msg.AskBottle r) s x y (Bottle q) refl),
        with_bottle (is_way a u x y && (q == r)) (held (pairs x) y (BottleToken q)) (held (pairs' x) y (BottleToken q)) (held (pairs x) y (Bottle q)) (s.held x y (BottleToken q)) (with_it q x y),
      )

  pub request_came_less : has_ends plan r u a ≡ true → pairs_work plan pairs' + 1 ≤ pairs_work plan pairs
  request_came_less ends =
      way_less plan pairs pairs' r u a ends (came_forks_same pairs pairs' u a (msg.AskBottle r) s plan refl refl)
      (λ q x y. ways_fall pairs pairs' q x y (num (is_way u a x y && (q == r))) (num (is_way u a y x && (q == r))) (left_stays pairs pairs' q (came_as_given pairs pairs' u a (msg.AskBottle r) s q refl (λ ms. refl) (token_stays q)) x y) (way_falls q x y) (way_falls q y x))

-- what an office is once a request for a bottle came
abbrev pub with_bottle_request : Pairs → ℕ → LinkState → ℕ → Pairs
with_bottle_request p u l r = arrived p u l (arrival.Fresh (msg.AskBottle r))

pub bottle_request_came : (plan : PlanValue) (pairs : ℕ → Pairs) (u a r : ℕ) (l : LinkState) → ((x y : ℕ) (t : Thing) → places_of pairs x y t ≡ num (is_shared plan x y t)) → ((q : ℕ) → (pairs a).drinker.peer q ≡ peer plan a q) → held (pairs a) u (Bottle r) ≡ true →
    Comes pairs u a (Some (msg.AskBottle r)) (put pairs a (with_bottle_request (pairs a) u l r)) → pairs_work plan (put pairs a (with_bottle_request (pairs a) u l r)) + 1 ≤ pairs_work plan pairs
bottle_request_came plan pairs u a r l placed peers found c = request_came_less plan pairs (put pairs a (with_bottle_request (pairs a) u l r)) u a r takes found ends
  where
    ends : has_ends plan r u a ≡ true
    ends = true_of (has_ends plan r u a) (omega (arith, placed u a (BottleToken r), ap (count_carrying (BottleToken r)) (one_came pairs (put pairs a (with_bottle_request (pairs a) u l r)) u a (msg.AskBottle r) c).1, ap num (eq-eqb r r refl)))

    its_end : (pairs a).drinker.peer r ≡ u
    its_end = peers r ∙ peer_is plan r a u (has_ends_both plan r a u ∙ ends)

    takes : Takes pairs (put pairs a (with_bottle_request (pairs a) u l r)) u a (msg.AskBottle r)
    takes = record {
      diner = λ x. kept_at (λ p. p.diner) pairs a (with_bottle_request (pairs a) u l r) refl x;
      needed = λ q x. kept_at (λ p. p.drinker.needed q) pairs a (with_bottle_request (pairs a) u l r) refl x;
      held = held_then pairs a u (BottleToken r) true (with_bottle_request (pairs a) u l r) (after_message (pairs a).diner (pairs a).drinker u (msg.AskBottle r) its_end);
      ways = (reaches pairs u a (msg.AskBottle r) (with_bottle_request (pairs a) u l r) (after_message (pairs a).diner (pairs a).drinker u (msg.AskBottle r) its_end) c).ways;
    }
