-- An office that gives a bottle lowers the work of the pairs by one.
use Rattle.std.proofs.Common.{◌≡◌, ℕ, zero, suc, ◌+◌, ◌*◌, ◌≤◌, Bool, true, false, not, cond, inr, List, [], ◌∷◌, ◌++◌, Option, None, Some, is_some, refl, sym, ap, subst, ◌∙◌, arith, append-nil, eq-eqb, lt-ltb}
use Rattle.std.specs.Prelude.{◌==◌, ◌&&◌, ◌||◌, nat_lt}
use Rattle.std.proofs.lemmas.Bool.{and_parts, or_right, ne_eqb}
use Rattle.bottle_values.specs.declared.Value.{Value}
use Rattle.bottle_values.specs.Lists.{num}
use Rattle.bottle_values.specs.ListLaws.{num_one, true_of}
use Rattle.bottle_values.specs.Maps.{put}
use Rattle.frame_codec.specs.declared.message.Msg.{Msg}
use Rattle.frame_codec.specs.declared.message.Msg.TheVariants as msg
use Rattle.office_map.specs.PlanValue.{PlanValue, are_neighbours, has_ends}
use Rattle.office_map.specs.Consistency.{IsConsistent}
use Rattle.office_map.specs.NeighbourLaws.{peer_is, peer_near, is_first_end, neighbours_apart}
use Rattle.token_channel.specs.declared.thing.Thing.{Thing}
use Rattle.token_channel.specs.declared.thing.Thing.TheVariants.{Fork, Bottle, BottleToken}
use Rattle.token_channel.specs.Things.{count_carrying}
use Rattle.token_channel.specs.Ends.{is_shared}
use Rattle.token_channel.specs.ThingLaws.{count_carrying-push}
use Rattle.drinking_core.specs.Drinkers.{holds, is_drinking}
use Rattle.drinking_core.specs.Drinkers as bottles
use Rattle.site_core.specs.Pairs.{Pairs, held, bottle_sends, bottle_message, after_bottle_rule}
use Rattle.site_core.specs.neighbours.HeldLaws.{after_give_bottle}
use Rattle.frame_world.specs.Ways.{between}
use Rattle.frame_world.specs.WorkLeft.{is_sent, is_near, is_behind, gives_between, gives_left, bottle_work, pairs_work}
use Rattle.frame_world.proofs.Links.{Goes}
use Rattle.frame_world.proofs.PlacesAndForks.{places_of}
use Rattle.frame_world.proofs.work.RequestsGo.{is_way, leaves}
use Rattle.frame_world.proofs.WhatWaits.{for_its_end}
use Rattle.frame_world.proofs.work.ForkAsked.{kept_at}
use Rattle.frame_world.proofs.work.BottleSteps.{Sends, held_then, sent_count, sent_same, left_same, sent_forks_same, sent_as_given, left_stays, gives, gives_at, way_work, ways_fall, bottle_less}

-- ---- behind a fork

not_behind : (r : ℕ) (ms : List Msg) → count_carrying (Bottle r) ms ≡ 0 → is_behind r ms ≡ false
not_behind r [] e = refl
not_behind r (msg.Fork ∷ ms) e = let none : count_carrying (Bottle r) ms ≡ 0 = omega (arith, e) in ap (nat_lt 0) none
not_behind r (msg.AskFork ∷ ms) e = not_behind r ms (omega (arith, e))
not_behind r (msg.AskBottle q ∷ ms) e = not_behind r ms (omega (arith, e))
not_behind r (msg.Bottle q z ∷ ms) e = not_behind r ms (omega (arith, e))

-- a bottle at the end is behind each fork
last_behind : (r : ℕ) (z : Value) (ms : List Msg) → 1 ≤ count_carrying Fork ms → is_behind r (ms ++ msg.Bottle r z ∷ []) ≡ true
last_behind r z [] le = absurd (omega (arith, le))
last_behind r z (msg.Fork ∷ ms) le = lt-ltb 0 (count_carrying (Bottle r) (ms ++ msg.Bottle r z ∷ [])) (omega (arith, count_carrying-push (Bottle r) ms (msg.Bottle r z), ap num (eq-eqb r r refl)))
last_behind r z (msg.AskFork ∷ ms) le = last_behind r z ms (omega (arith, le))
last_behind r z (msg.AskBottle q ∷ ms) le = last_behind r z ms (omega (arith, le))
last_behind r z (msg.Bottle q y ∷ ms) le = last_behind r z ms (omega (arith, le))

-- ---- the fork's place, by truths: held at a, held at v, on the way to v, on the way to a

-- at most one message as a truth
some_sent : (n : ℕ) → n ≤ 1 → n ≡ num (nat_lt 0 n)
some_sent zero le = refl
some_sent (suc n) le = omega (arith, le, ap num (lt-ltb 0 (suc n) (omega arith)))

-- from the other office it looks the same
other_way : (mine theirs out back : Bool) (m n : ℕ) → num mine + (num theirs + (num out + num back)) ≡ 1 → cond (theirs || out) m n ≡ cond (mine || back) n m
other_way true true out back m n e = absurd (omega (arith, e))
other_way true false true back m n e = absurd (omega (arith, e))
other_way true false false back m n e = refl
other_way false true out true m n e = absurd (omega (arith, e, num_one out))
other_way false true out false m n e = refl
other_way false false true true m n e = absurd (omega (arith, e))
other_way false false true false m n e = refl
other_way false false false true m n e = refl
other_way false false false false m n e = absurd (omega (arith, e))

-- The office that gives has the token and the bottle, and doesn't need the record where it has the fork. So wherever the fork is, the bottle may be given once less.
given_once : (mine theirs out back need needs behind : Bool) → num mine + (num theirs + (num out + num back)) ≡ 1 → (mine ≡ true → need ≡ false) → (out ≡ true → behind ≡ true) →
    cond (mine || back) (gives mine need false true false) (gives theirs needs true false behind) + 1 ≤ cond (mine || back) (gives mine need true true false) (gives theirs needs false false false)
given_once true theirs out back true needs behind e f g = let no : true ≡ false = f refl in absurd cc
given_once true theirs out back false needs behind e f g = omega arith
given_once false theirs out true need needs behind e f g = omega arith
given_once false true out false need true behind e f g = omega arith
given_once false true out false need false behind e f g = omega arith
given_once false false true false need needs true e f g = omega arith
given_once false false true false need needs false e f g = let no : false ≡ true = g refl in absurd cc
given_once false false false false need needs behind e f g = absurd (omega (arith, e))

left_by : (pairs : ℕ → Pairs) (r x y : ℕ) (near : Bool) (m n : ℕ) → is_near pairs x y Fork ≡ near → gives_between pairs r x y ≡ m → gives_between pairs r y x ≡ n → gives_left pairs r (x, y) ≡ cond near m n
left_by pairs r x y near m n e f g =
    ap (λ b. cond b (gives_between pairs r x y) (gives_between pairs r y x)) e
    ∙ ap (λ k. cond near k (gives_between pairs r y x)) f
    ∙ ap (λ k. cond near m k) g

-- a token may be without the bottle then
more_alone : (c token token' bottle bottle' : Bool) → token' ≡ token → bottle' ≡ cond c false bottle → num (token' && not bottle') ≤ num (token && not bottle) + num c
more_alone true token token' bottle bottle' e f = omega (arith, num_one (token' && not bottle'))
more_alone false token token' bottle bottle' e f = omega (arith, ap (λ b. num (b && not bottle')) e ∙ ap (λ b. num (token && not b)) f)

none_of : (b : Bool) → num b ≤ 0 → b ≡ false
none_of true e = absurd (omega (arith, e))
none_of false e = refl

module _ (plan : PlanValue) (pairs pairs' : ℕ → Pairs) (a v r : ℕ) (z : Value) (s : Sends pairs pairs' a v (msg.Bottle r z)) (placed : (x y : ℕ) (t : Thing) → places_of pairs x y t ≡ num (is_shared plan x y t)) (ends : has_ends plan r a v ≡ true) (near : are_neighbours plan a v ≡ true) (apart : a ≡ v → ⊥) (token_here : held (pairs a) v (BottleToken r) ≡ true) (bottle_here : held (pairs a) v (Bottle r) ≡ true) (free : held (pairs a) v Fork ≡ true → (pairs a).drinker.needed r ≡ false) where
  one_bottle : places_of pairs a v (Bottle r) ≡ 1
  one_bottle = placed a v (Bottle r) ∙ ap num ends

  one_token : places_of pairs a v (BottleToken r) ≡ 1
  one_token = placed a v (BottleToken r) ∙ ap num ends

  one_fork : num (held (pairs a) v Fork) + (num (held (pairs v) a Fork) + (num (is_sent pairs a v Fork) + num (is_sent pairs v a Fork))) ≡ 1
  one_fork =
      let one : places_of pairs a v Fork ≡ 1 = placed a v Fork ∙ ap num near in
      omega (arith, one, some_sent (count_carrying Fork (between pairs a v)) (omega (arith, one)), some_sent (count_carrying Fork (between pairs v a)) (omega (arith, one)))

  none_out : count_carrying (Bottle r) (between pairs a v) ≡ 0
  none_out = omega (arith, one_bottle, ap num bottle_here)

  none_back : count_carrying (Bottle r) (between pairs v a) ≡ 0
  none_back = omega (arith, one_bottle, ap num bottle_here)

  not_theirs : held (pairs v) a (Bottle r) ≡ false
  not_theirs = none_of (held (pairs v) a (Bottle r)) (omega (arith, one_bottle, ap num bottle_here))

  token_not_theirs : held (pairs v) a (BottleToken r) ≡ false
  token_not_theirs = none_of (held (pairs v) a (BottleToken r)) (omega (arith, one_token, ap num token_here))

  here : (is_way a v a v && (r == r)) ≡ true
  here = ap (λ b. (b && (v == v)) && (r == r)) (eq-eqb a a refl) ∙ ap (λ b. b && (r == r)) (eq-eqb v v refl) ∙ eq-eqb r r refl

  this_way : is_way a v a v ≡ true
  this_way = ap (λ b. b && (v == v)) (eq-eqb a a refl) ∙ eq-eqb v v refl

  not_back : is_way a v v a ≡ false
  not_back = ap (λ b. b && (a == v)) (ne_eqb v a (λ e. apart (sym e)))

  out_then : between pairs' a v ≡ between pairs a v ++ msg.Bottle r z ∷ []
  out_then = s.ways a v ∙ ap (λ b. between pairs a v ++ cond b (msg.Bottle r z ∷ []) []) this_way

  back_then : between pairs' v a ≡ between pairs v a
  back_then = s.ways v a ∙ ap (λ b. between pairs v a ++ cond b (msg.Bottle r z ∷ []) []) not_back ∙ append-nil (between pairs v a)

  -- the bottle is near a, and then near v
  near_mine : is_near pairs a v (Bottle r) ≡ true
  near_mine = ap (λ b. b || is_sent pairs v a (Bottle r)) bottle_here

  near_theirs : is_near pairs v a (Bottle r) ≡ false
  near_theirs = ap (λ b. b || is_sent pairs a v (Bottle r)) not_theirs ∙ ap (nat_lt 0) none_out

  then_mine : is_near pairs' a v (Bottle r) ≡ false
  then_mine =
      ap (λ b. b || is_sent pairs' v a (Bottle r)) (s.held a v (Bottle r) ∙ ap (λ b. cond b false (held (pairs a) v (Bottle r))) here)
      ∙ ap (λ ms. nat_lt 0 (count_carrying (Bottle r) ms)) back_then ∙ ap (nat_lt 0) none_back

  then_theirs : is_near pairs' v a (Bottle r) ≡ true
  then_theirs = or_right (held (pairs' v) a (Bottle r)) (is_sent pairs' a v (Bottle r)) (lt-ltb 0 (count_carrying (Bottle r) (between pairs' a v)) (omega (arith, sent_count pairs pairs' a v (msg.Bottle r z) s a v (Bottle r), ap num here)))

  fork_then : (x y : ℕ) → is_near pairs' x y Fork ≡ is_near pairs x y Fork
  fork_then x y = ap (λ b. b || is_sent pairs' y x Fork) (left_same pairs pairs' a v (msg.Bottle r z) s x y Fork refl) ∙ ap (λ n. held (pairs x) y Fork || nat_lt 0 n) (sent_same pairs pairs' a v (msg.Bottle r z) s y x Fork refl)

  mine : gives_between pairs r a v ≡ gives (held (pairs a) v Fork) ((pairs a).drinker.needed r) true true false
  mine = gives_at pairs r a v (held (pairs a) v Fork) ((pairs a).drinker.needed r) true true false refl refl near_mine token_here (not_behind r (between pairs v a) none_back)

  theirs : gives_between pairs r v a ≡ gives (held (pairs v) a Fork) ((pairs v).drinker.needed r) false false false
  theirs = gives_at pairs r v a (held (pairs v) a Fork) ((pairs v).drinker.needed r) false false false refl refl near_theirs token_not_theirs (not_behind r (between pairs a v) none_out)

  mine_then : gives_between pairs' r a v ≡ gives (held (pairs a) v Fork) ((pairs a).drinker.needed r) false true false
  mine_then =
      gives_at pairs' r a v (held (pairs a) v Fork) ((pairs a).drinker.needed r) false true false (left_same pairs pairs' a v (msg.Bottle r z) s a v Fork refl) (s.needed r a) then_mine
      (left_same pairs pairs' a v (msg.Bottle r z) s a v (BottleToken r) refl ∙ token_here) (ap (is_behind r) back_then ∙ not_behind r (between pairs v a) none_back)

  theirs_then : gives_between pairs' r v a ≡ gives (held (pairs v) a Fork) ((pairs v).drinker.needed r) true false (is_behind r (between pairs' a v))
  theirs_then =
      gives_at pairs' r v a (held (pairs v) a Fork) ((pairs v).drinker.needed r) true false (is_behind r (between pairs' a v)) (left_same pairs pairs' a v (msg.Bottle r z) s v a Fork refl) (s.needed r v) then_theirs
      (left_same pairs pairs' a v (msg.Bottle r z) s v a (BottleToken r) refl ∙ token_not_theirs) refl

  behind_then : is_sent pairs a v Fork ≡ true → is_behind r (between pairs' a v) ≡ true
  behind_then e = ap (is_behind r) out_then ∙ last_behind r z (between pairs a v) (omega (arith, one_of (count_carrying Fork (between pairs a v)) e))
    where
      one_of : (n : ℕ) → nat_lt 0 n ≡ true → 1 ≤ n
      one_of zero e = absurd cc
      one_of (suc n) e = omega arith

  once : cond (is_near pairs a v Fork) (gives (held (pairs a) v Fork) ((pairs a).drinker.needed r) false true false) (gives (held (pairs v) a Fork) ((pairs v).drinker.needed r) true false (is_behind r (between pairs' a v))) + 1
      ≤ cond (is_near pairs a v Fork) (gives (held (pairs a) v Fork) ((pairs a).drinker.needed r) true true false) (gives (held (pairs v) a Fork) ((pairs v).drinker.needed r) false false false)
  once = given_once (held (pairs a) v Fork) (held (pairs v) a Fork) (is_sent pairs a v Fork) (is_sent pairs v a Fork) ((pairs a).drinker.needed r) ((pairs v).drinker.needed r) (is_behind r (between pairs' a v)) one_fork free behind_then

  swapped : (m n : ℕ) → cond (is_near pairs v a Fork) m n ≡ cond (is_near pairs a v Fork) n m
  swapped m n = other_way (held (pairs a) v Fork) (held (pairs v) a Fork) (is_sent pairs a v Fork) (is_sent pairs v a Fork) m n one_fork

  left_there : gives_left pairs' r (a, v) + 1 ≤ gives_left pairs r (a, v)
  left_there =
      omega (
        arith,
        once,
        left_by pairs r a v (is_near pairs a v Fork) (gives (held (pairs a) v Fork) ((pairs a).drinker.needed r) true true false) (gives (held (pairs v) a Fork) ((pairs v).drinker.needed r) false false false) refl mine theirs,
        left_by pairs' r a v (is_near pairs a v Fork) (gives (held (pairs a) v Fork) ((pairs a).drinker.needed r) false true false) (gives (held (pairs v) a Fork) ((pairs v).drinker.needed r) true false (is_behind r (between pairs' a v))) (fork_then a v) mine_then theirs_then,
      )

  left_back : gives_left pairs' r (v, a) + 1 ≤ gives_left pairs r (v, a)
  left_back =
      omega (
        arith,
        once,
        left_by pairs r v a (is_near pairs v a Fork) (gives (held (pairs v) a Fork) ((pairs v).drinker.needed r) false false false) (gives (held (pairs a) v Fork) ((pairs a).drinker.needed r) true true false) refl theirs mine
            ∙ swapped (gives (held (pairs v) a Fork) ((pairs v).drinker.needed r) false false false) (gives (held (pairs a) v Fork) ((pairs a).drinker.needed r) true true false),
        left_by pairs' r v a (is_near pairs v a Fork) (gives (held (pairs v) a Fork) ((pairs v).drinker.needed r) true false (is_behind r (between pairs' a v))) (gives (held (pairs a) v Fork) ((pairs a).drinker.needed r) false true false) (fork_then v a) theirs_then mine_then
            ∙ swapped (gives (held (pairs v) a Fork) ((pairs v).drinker.needed r) true false (is_behind r (between pairs' a v))) (gives (held (pairs a) v Fork) ((pairs a).drinker.needed r) false true false),
      )

  -- the bottle is on the way, and its token without it
  way_grows : (q x y : ℕ) → way_work pairs' q x y ≤ way_work pairs q x y + 3 * num (is_way a v x y && (q == r))
  way_grows q x y =
      omega (
        arith,
        sent_count pairs pairs' a v (msg.Bottle r z) s x y (Bottle q),
        sent_same pairs pairs' a v (msg.Bottle r z) s x y (BottleToken q) refl,
        more_alone (is_way a v x y && (q == r)) (held (pairs x) y (BottleToken q)) (held (pairs' x) y (BottleToken q)) (held (pairs x) y (Bottle q)) (held (pairs' x) y (Bottle q)) (left_same pairs pairs' a v (msg.Bottle r z) s x y (BottleToken q) refl) (s.held x y (Bottle q)),
      )

  way_there : way_work pairs' r a v ≤ way_work pairs r a v + 3
  way_there = omega (arith, way_grows r a v, ap num here)

  way_back : way_work pairs' r v a ≤ way_work pairs r v a
  way_back = omega (arith, way_grows r v a, ap (λ b. num (b && (r == r))) not_back)

  way_still : (q x y : ℕ) → (q == r) ≡ false → way_work pairs' q x y + 0 ≤ way_work pairs q x y
  way_still q x y e = omega (arith, way_grows q x y, no_way (is_way a v x y) (q == r) e)
    where
      no_way : (b c : Bool) → c ≡ false → num (b && c) ≡ 0
      no_way true true e = absurd cc
      no_way true false e = refl
      no_way false c e = refl

  others : (q x y : ℕ) → (q == r) ≡ false → bottle_work pairs' q (x, y) ≤ bottle_work pairs q (x, y)
  others q x y e =
      omega (
        arith,
        ways_fall pairs pairs' q x y 0 0 (left_stays pairs pairs' q (sent_as_given pairs pairs' a v (msg.Bottle r z) s q refl e (λ x y. inr (left_same pairs pairs' a v (msg.Bottle r z) s x y (BottleToken q) refl))) x y) (way_still q x y e) (way_still q y x e),
      )

  given_there : bottle_work pairs' r (a, v) + 1 ≤ bottle_work pairs r (a, v)
  given_there = omega (arith, left_there, way_there, way_back)

  given_back : bottle_work pairs' r (v, a) + 1 ≤ bottle_work pairs r (v, a)
  given_back = omega (arith, left_back, way_there, way_back)

  pub given_less : pairs_work plan pairs' + 1 ≤ pairs_work plan pairs
  given_less = bottle_less plan pairs pairs' r a v ends (sent_forks_same pairs pairs' a v (msg.Bottle r z) s plan refl refl) others given_there given_back

-- where the fork is here, the bottle that may be given isn't needed
not_needed : (needed drinking fork : Bool) → not (needed && (drinking || fork)) ≡ true → fork ≡ true → needed ≡ false
not_needed true true fork e f = absurd cc
not_needed true false true e f = absurd cc
not_needed true false false e f = absurd cc
not_needed false drinking fork e f = refl

pub bottle_given : (plan : PlanValue) (pairs : ℕ → Pairs) (a r : ℕ) → IsConsistent plan → ((x y : ℕ) (t : Thing) → places_of pairs x y t ≡ num (is_shared plan x y t)) → bottles.may (pairs a).drinker (bottles.GiveBottle r (pairs a).diner.held) ≡ true →
    Goes pairs a (bottle_sends (pairs a).drinker (bottles.GiveBottle r (pairs a).diner.held)) (put pairs a (after_bottle_rule (pairs a) (bottles.GiveBottle r (pairs a).diner.held))) → pairs_work plan (put pairs a (after_bottle_rule (pairs a) (bottles.GiveBottle r (pairs a).diner.held))) + 1 ≤ pairs_work plan pairs
bottle_given plan pairs a r consistent placed may g = of ((pairs a).drinker.bottle r) refl
  where
    rest : (holds (pairs a).drinker r ≡ true) × (not ((pairs a).drinker.needed r && (is_drinking (pairs a).drinker.phase || (pairs a).diner.held ((pairs a).drinker.peer r))) ≡ true)
    rest = and_parts (holds (pairs a).drinker r) _ (and_parts ((pairs a).drinker.token r) _ may).1

    token_here : held (pairs a) ((pairs a).drinker.peer r) (BottleToken r) ≡ true
    token_here = for_its_end (pairs a).drinker r ((pairs a).drinker.token r) (and_parts ((pairs a).drinker.token r) _ may).0

    bottle_here : held (pairs a) ((pairs a).drinker.peer r) (Bottle r) ≡ true
    bottle_here = for_its_end (pairs a).drinker r (holds (pairs a).drinker r) rest.0

    ends : has_ends plan r a ((pairs a).drinker.peer r) ≡ true
    ends = true_of (has_ends plan r a ((pairs a).drinker.peer r)) (omega (arith, placed a ((pairs a).drinker.peer r) (BottleToken r), ap num token_here))

    near : are_neighbours plan a ((pairs a).drinker.peer r) ≡ true
    near = ap (are_neighbours plan a) (sym (peer_is plan r a ((pairs a).drinker.peer r) ends)) ∙ peer_near plan r a consistent (is_first_end plan r a ((pairs a).drinker.peer r) ends)

    free : held (pairs a) ((pairs a).drinker.peer r) Fork ≡ true → (pairs a).drinker.needed r ≡ false
    free e = not_needed ((pairs a).drinker.needed r) (is_drinking (pairs a).drinker.phase) ((pairs a).diner.held ((pairs a).drinker.peer r)) rest.1 e

    of : (o : Option Value) → (pairs a).drinker.bottle r ≡ o → pairs_work plan (put pairs a (after_bottle_rule (pairs a) (bottles.GiveBottle r (pairs a).diner.held))) + 1 ≤ pairs_work plan pairs
    of None e = let no : false ≡ true = sym (ap is_some e) ∙ rest.0 in absurd cc
    of (Some z) e =
        given_less plan pairs (put pairs a (after_bottle_rule (pairs a) (bottles.GiveBottle r (pairs a).diner.held))) a ((pairs a).drinker.peer r) r z sends placed ends near (neighbours_apart plan a ((pairs a).drinker.peer r) consistent near) token_here bottle_here free
      where
        goes : Goes pairs a (Some ((pairs a).drinker.peer r, msg.Bottle r z)) (put pairs a (after_bottle_rule (pairs a) (bottles.GiveBottle r (pairs a).diner.held)))
        goes = subst (λ o. Goes pairs a (bottle_message ((pairs a).drinker.peer r) r o) (put pairs a (after_bottle_rule (pairs a) (bottles.GiveBottle r (pairs a).diner.held)))) e g

        sends : Sends pairs (put pairs a (after_bottle_rule (pairs a) (bottles.GiveBottle r (pairs a).diner.held))) a ((pairs a).drinker.peer r) (msg.Bottle r z)
        sends = record {
          diner = λ x. kept_at (λ p. p.diner) pairs a (after_bottle_rule (pairs a) (bottles.GiveBottle r (pairs a).diner.held)) refl x;
          needed = λ q x. kept_at (λ p. p.drinker.needed q) pairs a (after_bottle_rule (pairs a) (bottles.GiveBottle r (pairs a).diner.held)) refl x;
          held = held_then pairs a ((pairs a).drinker.peer r) (Bottle r) false (after_bottle_rule (pairs a) (bottles.GiveBottle r (pairs a).diner.held)) (after_give_bottle (pairs a).diner (pairs a).drinker r ((pairs a).drinker.peer r) z (pairs a).diner.held refl);
          ways = (leaves pairs a ((pairs a).drinker.peer r) (msg.Bottle r z) (after_bottle_rule (pairs a) (bottles.GiveBottle r (pairs a).diner.held)) (after_give_bottle (pairs a).diner (pairs a).drinker r ((pairs a).drinker.peer r) z (pairs a).diner.held refl) bottle_here goes).ways;
        }
