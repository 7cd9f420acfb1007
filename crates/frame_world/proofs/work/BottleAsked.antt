-- An office that asks for a bottle lowers the work of the pairs by one.
use Rattle.std.proofs.Common.{◌≡◌, ℕ, ◌+◌, ◌*◌, ◌≤◌, Bool, true, false, not, cond, ◌⊎◌, inl, inr, refl, ap, ◌∙◌, arith}
use Rattle.std.specs.Prelude.{◌==◌, ◌&&◌}
use Rattle.std.proofs.Math.Bool.{and-false}
use Rattle.std.proofs.lemmas.Bool.{and_parts}
use Rattle.bottle_values.specs.Lists.{num}
use Rattle.bottle_values.specs.ListLaws.{true_of}
use Rattle.bottle_values.specs.Maps.{put}
use Rattle.frame_codec.specs.declared.message.Msg.TheVariants as msg
use Rattle.office_map.specs.PlanValue.{PlanValue, has_ends}
use Rattle.token_channel.specs.declared.thing.Thing.{Thing}
use Rattle.token_channel.specs.declared.thing.Thing.TheVariants.{Bottle, BottleToken}
use Rattle.token_channel.specs.Things.{count_carrying}
use Rattle.token_channel.specs.Ends.{is_shared}
use Rattle.drinking_core.specs.Drinkers.{holds}
use Rattle.drinking_core.specs.Drinkers as bottles
use Rattle.site_core.specs.Pairs.{Pairs, held, bottle_sends, after_bottle_rule}
use Rattle.site_core.specs.neighbours.HeldLaws.{after_ask_bottle}
use Rattle.frame_world.specs.Ways.{between}
use Rattle.frame_world.specs.WorkLeft.{pairs_work}
use Rattle.frame_world.proofs.Links.{Goes}
use Rattle.frame_world.proofs.PlacesAndForks.{places_of}
use Rattle.frame_world.proofs.work.RequestsGo.{is_way, leaves}
use Rattle.frame_world.proofs.WhatWaits.{for_its_end}
use Rattle.frame_world.proofs.work.ForkAsked.{kept_at}
use Rattle.frame_world.proofs.work.BottleSteps.{Sends, held_then, sent_count, sent_same, left_same, sent_forks_same, sent_as_given, left_stays, way_work, ways_fall, way_less, there}

-- the token that goes is at an office without the bottle
record IsAlone (c token bottle : Bool) : Type 0 where
  pub with_token : c ≡ true → token ≡ true
  pub without_bottle : c ≡ true → bottle ≡ false

-- it was two, and is one
spent : (c token token' bottle : Bool) (n n' : ℕ) → token' ≡ cond c false token → n' ≡ n + num c → IsAlone c token bottle → n' + 2 * num (token' && not bottle) + num c ≤ n + 2 * num (token && not bottle)
spent true true true bottle n n' e f i = absurd cc
spent true true false true n n' e f i = let no : true ≡ false = i.without_bottle refl in absurd cc
spent true true false false n n' e f i = omega (arith, f)
spent true false token' bottle n n' e f i = let no : false ≡ true = i.with_token refl in absurd cc
spent false token token' bottle n n' e f i = omega (arith, f, ap (λ b. num (b && not bottle)) e)

module _ (plan : PlanValue) (pairs pairs' : ℕ → Pairs) (a v r : ℕ) (s : Sends pairs pairs' a v (msg.AskBottle r)) (needs : (pairs a).drinker.needed r ≡ true) (token_here : held (pairs a) v (BottleToken r) ≡ true) (away : held (pairs a) v (Bottle r) ≡ false) where
  token_stays : (q x y : ℕ) → ((pairs x).drinker.needed q ≡ true) ⊎ (held (pairs' x) y (BottleToken q) ≡ held (pairs x) y (BottleToken q))
  token_stays q x y = go (is_way a v x y && (q == r)) refl
    where
      go : (c : Bool) → (is_way a v x y && (q == r)) ≡ c → ((pairs x).drinker.needed q ≡ true) ⊎ (held (pairs' x) y (BottleToken q) ≡ held (pairs x) y (BottleToken q))
      go true c = inl (there (λ x y q. (pairs x).drinker.needed q) a v r x y q c ∙ needs)
      go false c = inr (s.held x y (BottleToken q) ∙ ap (λ b. cond b false (held (pairs x) y (BottleToken q))) c)

  alone : (q x y : ℕ) → IsAlone (is_way a v x y && (q == r)) (held (pairs x) y (BottleToken q)) (held (pairs x) y (Bottle q))
  alone q x y = record {
    with_token = λ c. there (λ x y q. held (pairs x) y (BottleToken q)) a v r x y q c ∙ token_here;
    without_bottle = λ c. there (λ x y q. held (pairs x) y (Bottle q)) a v r x y q c ∙ away;
  }

  way_falls : (q x y : ℕ) → way_work pairs' q x y + num (is_way a v x y && (q == r)) ≤ way_work pairs q x y
  way_falls q x y =
      omega (
        arith,
        sent_same pairs pairs' a v (msg.AskBottle r) s x y (Bottle q) refl,
        ap (λ b. num (held (pairs' x) y (BottleToken q) && not b)) (left_same pairs pairs' a v (msg.AskBottle r) s x y (Bottle q) refl),
        spent (is_way a v x y && (q == r)) (held (pairs x) y (BottleToken q)) (held (pairs' x) y (BottleToken q)) (held (pairs x) y (Bottle q)) (count_carrying (BottleToken q) (between pairs x y)) (count_carrying (BottleToken q) (between pairs' x y)) (s.held x y (BottleToken q)) (sent_count pairs pairs' a v (msg.AskBottle r) s x y (BottleToken q)) (alone q x y),
      )

  pub asked_less : has_ends plan r a v ≡ true → pairs_work plan pairs' + 1 ≤ pairs_work plan pairs
  asked_less ends =
      way_less plan pairs pairs' r a v ends (sent_forks_same pairs pairs' a v (msg.AskBottle r) s plan refl refl)
      (λ q x y. ways_fall pairs pairs' q x y (num (is_way a v x y && (q == r))) (num (is_way a v y x && (q == r))) (left_stays pairs pairs' q (sent_as_given pairs pairs' a v (msg.AskBottle r) s q refl refl (token_stays q)) x y) (way_falls q x y) (way_falls q y x))

not_false : (b : Bool) → not b ≡ true → b ≡ false
not_false true e = absurd cc
not_false false e = refl

pub bottle_asked : (plan : PlanValue) (pairs : ℕ → Pairs) (a r : ℕ) → ((x y : ℕ) (t : Thing) → places_of pairs x y t ≡ num (is_shared plan x y t)) → bottles.may (pairs a).drinker (bottles.AskBottle r) ≡ true →
    Goes pairs a (bottle_sends (pairs a).drinker (bottles.AskBottle r)) (put pairs a (after_bottle_rule (pairs a) (bottles.AskBottle r))) → pairs_work plan (put pairs a (after_bottle_rule (pairs a) (bottles.AskBottle r))) + 1 ≤ pairs_work plan pairs
bottle_asked plan pairs a r placed may g = asked_less plan pairs (put pairs a (after_bottle_rule (pairs a) (bottles.AskBottle r))) a ((pairs a).drinker.peer r) r sends rest.0 token_here away ends
  where
    rest : ((pairs a).drinker.needed r ≡ true) × ((not (holds (pairs a).drinker r) && (pairs a).drinker.token r) ≡ true)
    rest = and_parts ((pairs a).drinker.needed r) (not (holds (pairs a).drinker r) && (pairs a).drinker.token r) (and_parts (bottles.is_thirsty (pairs a).drinker.phase) ((pairs a).drinker.needed r && (not (holds (pairs a).drinker r) && (pairs a).drinker.token r)) may).1

    parts : (not (holds (pairs a).drinker r) ≡ true) × ((pairs a).drinker.token r ≡ true)
    parts = and_parts (not (holds (pairs a).drinker r)) ((pairs a).drinker.token r) rest.1

    token_here : held (pairs a) ((pairs a).drinker.peer r) (BottleToken r) ≡ true
    token_here = for_its_end (pairs a).drinker r ((pairs a).drinker.token r) parts.1

    away : held (pairs a) ((pairs a).drinker.peer r) (Bottle r) ≡ false
    away = ap (λ b. ((pairs a).drinker.peer r == (pairs a).drinker.peer r) && b) (not_false (holds (pairs a).drinker r) parts.0) ∙ and-false ((pairs a).drinker.peer r == (pairs a).drinker.peer r)

    ends : has_ends plan r a ((pairs a).drinker.peer r) ≡ true
    ends = true_of (has_ends plan r a ((pairs a).drinker.peer r)) (omega (arith, placed a ((pairs a).drinker.peer r) (BottleToken r), ap num token_here))

    sends : Sends pairs (put pairs a (after_bottle_rule (pairs a) (bottles.AskBottle r))) a ((pairs a).drinker.peer r) (msg.AskBottle r)
    sends = record {
      diner = λ x. kept_at (λ p. p.diner) pairs a (after_bottle_rule (pairs a) (bottles.AskBottle r)) refl x;
      needed = λ q x. kept_at (λ p. p.drinker.needed q) pairs a (after_bottle_rule (pairs a) (bottles.AskBottle r)) refl x;
      held = held_then pairs a ((pairs a).drinker.peer r) (BottleToken r) false (after_bottle_rule (pairs a) (bottles.AskBottle r)) (after_ask_bottle (pairs a).diner (pairs a).drinker r ((pairs a).drinker.peer r) refl);
      ways = (leaves pairs a ((pairs a).drinker.peer r) (msg.AskBottle r) (after_bottle_rule (pairs a) (bottles.AskBottle r)) (after_ask_bottle (pairs a).diner (pairs a).drinker r ((pairs a).drinker.peer r) refl) token_here g).ways;
    }
