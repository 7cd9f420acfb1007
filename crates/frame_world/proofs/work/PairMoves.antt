-- What each step of an office takes of the pairs' work and adds to it, from what holds in every world; and that what comes takes one for each message that is taken.
use Rattle.std.proofs.Common.{◌≡◌, ℕ, ◌+◌, ◌≤◌, ◌<◌, Bool, true, List, Option, None, Some, is_some, length, refl, sym, ap, subst, ◌∙◌, arith, ltb-true}
use Rattle.std.specs.Prelude.{nat_lt}
use Rattle.std.specs.List.{range_with_len}
use Rattle.bottle_values.specs.declared.Value.{Value}
use Rattle.bottle_values.specs.Lists.{num, is_among}
use Rattle.bottle_values.specs.ListLaws.{num_one}
use Rattle.bottle_values.specs.Maps.{put}
use Rattle.frame_codec.specs.declared.message.Msg.{Msg}
use Rattle.frame_codec.specs.declared.message.Msg.TheVariants as msg
use Rattle.frame_codec.specs.Frame.{Fields}
use Rattle.office_map.specs.PlanValue.{PlanValue, are_neighbours, has_ends, peer}
use Rattle.office_map.specs.Consistency.{IsConsistent}
use Rattle.office_map.specs.NeighbourLaws.{near_both, near_within, is_first_end, peer_is, peer_near, among_neighbours}
use Rattle.window_link.specs.declared.arrival.Arrival.{Arrival}
use Rattle.window_link.specs.declared.arrival.Arrival.TheVariants as arrival
use Rattle.window_link.specs.Windows.{next_kept}
use Rattle.window_link.specs.Links.{LinkState, after_arrival}
use Rattle.token_channel.specs.declared.thing.Thing.{Thing}
use Rattle.token_channel.specs.declared.thing.Thing.TheVariants.{Fork, ForkToken, Bottle, BottleToken}
use Rattle.token_channel.specs.Things.{thing_of}
use Rattle.token_channel.specs.Places.{waits}
use Rattle.token_channel.specs.Ends.{is_shared}
use Rattle.token_channel.specs.Channels.{breach_among, left_by, link_then}
use Rattle.token_channel.specs.ThingLaws.{same_self, no_breach, follows_unbreached}
use Rattle.dining_core.specs.Diners.{Diner, ForkRule}
use Rattle.dining_core.specs.Diners as forks
use Rattle.drinking_core.specs.Drinkers.{Drinker, BottleRule}
use Rattle.drinking_core.specs.Drinkers as bottles
use Rattle.site_core.specs.Pairs.{Pairs, held, frame_fault, arrival_of, arrived, follows, fork_sends, bottle_sends}
use Rattle.site_core.specs.neighbours.PairLaws.{passed}
use Rattle.frame_world.specs.Ways.{between}
use Rattle.frame_world.specs.WorkLeft.{turn_work, change_work, pairs_work}
use Rattle.frame_world.proofs.Answers.{PairStep, ByFork, ByBottle, ByFrame, ByKept, pair_after, MayStep}
use Rattle.frame_world.proofs.OneLink.{Keeps, keeps_next, brought}
use Rattle.frame_world.proofs.Links.{AreLinked, IsHonest, Goes, Comes, goes_out, comes_in, follows_in, receiving_of, taken_of}
use Rattle.frame_world.proofs.WaysBetween.{nothing_came, one_came}
use Rattle.frame_world.proofs.Following.{moved, kept_there}
use Rattle.frame_world.proofs.PlacesAndForks.{places_of}
use Rattle.frame_world.proofs.WhatWaits.{fresh_is_apart}
use Rattle.frame_world.proofs.work.RequestsKept.{AllFollow, finds}
use Rattle.frame_world.proofs.work.WorkParts.{among_range, view_of}
use Rattle.frame_world.proofs.work.ForkAsked.{fork_asked}
use Rattle.frame_world.proofs.work.ForkRequestCame.{fork_request_came}
use Rattle.frame_world.proofs.work.ForkGiven.{fork_given}
use Rattle.frame_world.proofs.work.ForkCame.{fork_came}
use Rattle.frame_world.proofs.work.ForksDirty.{forks_dirty}
use Rattle.frame_world.proofs.work.NeedsChanged.{work_as_it_was, session_starts, session_finishes, session_withdrawn, hungry_as_it_was, leave_as_it_was, drink_as_it_was}
use Rattle.frame_world.proofs.work.BottleAsked.{bottle_asked}
use Rattle.frame_world.proofs.work.BottleGiven.{bottle_given}
use Rattle.frame_world.proofs.work.BottleRequestCame.{bottle_request_came}
use Rattle.frame_world.proofs.work.BottleCame.{bottle_came}

-- what the laws of the world say of its pairs
pub record AreInOrder (plan : PlanValue) (pairs : ℕ → Pairs) : Type 0 where
  pub linked : AreLinked pairs
  pub placed : (x y : ℕ) (t : Thing) → places_of pairs x y t ≡ num (is_shared plan x y t)
  pub peers : (x r : ℕ) → (pairs x).drinker.peer r ≡ peer plan x r
  pub requests : AllFollow pairs

-- this step of an office, where it may be done, takes n of the pairs' work and adds k at most
abbrev pub Takes : PlanValue → (ℕ → Pairs) → ℕ → PairStep → (n k : ℕ) → Type 0
Takes plan pairs a step n k = nat_lt a (length plan.offices) ≡ true → AreInOrder plan pairs → MayStep plan a (pairs a) step → pairs_work plan (moved pairs a step) + n ≤ pairs_work plan pairs + k

-- so does this message that comes to a from u
abbrev pub TakesOne : PlanValue → (ℕ → Pairs) → (u a : ℕ) → Msg → Type 0
TakesOne plan pairs u a m = (l : LinkState) → AreInOrder plan pairs → is_shared plan a u (thing_of m) ≡ true → Comes pairs u a (Some m) (put pairs a (arrived (pairs a) u l (arrival.Fresh m))) →
    pairs_work plan (put pairs a (arrived (pairs a) u l (arrival.Fresh m))) + 1 ≤ pairs_work plan pairs

-- ---- places in the sums

among_offices : (plan : PlanValue) (a : ℕ) → a < length plan.offices → is_among (range_with_len 0 (length plan.offices)) a ≡ true
among_offices plan a lt = among_range a 0 (length plan.offices) (omega arith) (omega (arith, lt))

-- who shares something are neighbours
shared_near : (plan : PlanValue) (a v : ℕ) (t : Thing) → IsConsistent plan → is_shared plan a v t ≡ true → are_neighbours plan a v ≡ true
shared_near plan a v t c e = of t e
  where
    by_record : (r : ℕ) → has_ends plan r a v ≡ true → are_neighbours plan a v ≡ true
    by_record r h = ap (are_neighbours plan a) (sym (peer_is plan r a v h)) ∙ peer_near plan r a c (is_first_end plan r a v h)

    of : (t : Thing) → is_shared plan a v t ≡ true → are_neighbours plan a v ≡ true
    of Fork h = h
    of ForkToken h = h
    of (Bottle r) h = by_record r h
    of (BottleToken r) h = by_record r h

-- ---- what a rule sends goes out

by_fork : (pairs : ℕ → Pairs) (a : ℕ) (r : ForkRule) → AreLinked pairs → Goes pairs a (fork_sends r) (moved pairs a (ByFork r))
by_fork pairs a r l = goes_out pairs a (pair_after (pairs a) (ByFork r)) (fork_sends r) refl l

by_bottle : (pairs : ℕ → Pairs) (a : ℕ) (r : BottleRule) → AreLinked pairs → Goes pairs a (bottle_sends (pairs a).drinker r) (moved pairs a (ByBottle r))
by_bottle pairs a r l = goes_out pairs a (pair_after (pairs a) (ByBottle r)) (bottle_sends (pairs a).drinker r) refl l

-- where a link changes alone
quiet_work : (plan : PlanValue) (pairs : ℕ → Pairs) (a : ℕ) (p' : Pairs) → p'.diner ≡ (pairs a).diner → p'.drinker ≡ (pairs a).drinker → between (put pairs a p') ≡ between pairs → pairs_work plan (put pairs a p') ≡ pairs_work plan pairs
quiet_work plan pairs a p' d k =
    work_as_it_was plan pairs a p' (record {
      held = ap (λ (z : Diner). z.held) d;
      clean = ap (λ (z : Diner). z.clean) d;
      token = ap (λ (z : Diner). z.token) d;
      views = λ r y fork ms. ap (λ (z : Drinker). view_of r y fork z ms) k;
    })

module _ (plan : PlanValue) (c : IsConsistent plan) where
  -- ---- forks

  pub hungry_takes : (pairs : ℕ → Pairs) (a : ℕ) (thirsty : Bool) → Takes plan pairs a (ByFork (forks.BecomeHungry thirsty)) 0 0
  hungry_takes pairs a thirsty inside o may = omega (arith, hungry_as_it_was plan pairs a thirsty (by_fork pairs a (forks.BecomeHungry thirsty) o.linked))

  pub ask_fork_takes : (pairs : ℕ → Pairs) (a v : ℕ) → are_neighbours plan a v ≡ true → Takes plan pairs a (ByFork (forks.AskFork v)) 1 0
  ask_fork_takes pairs a v near inside o may =
      omega (arith, fork_asked plan pairs a v (among_offices plan a (ltb-true a (length plan.offices) inside)) (among_neighbours plan a v c near) may (by_fork pairs a (forks.AskFork v) o.linked))

  pub give_fork_takes : (pairs : ℕ → Pairs) (a v : ℕ) → are_neighbours plan a v ≡ true → Takes plan pairs a (ByFork (forks.GiveFork v)) 1 0
  give_fork_takes pairs a v near inside o may =
      omega (arith, fork_given plan pairs a v (among_offices plan a (ltb-true a (length plan.offices) inside)) (among_neighbours plan a v c near) may (by_fork pairs a (forks.GiveFork v) o.linked))

  pub eat_takes : (pairs : ℕ → Pairs) (a : ℕ) → Takes plan pairs a (ByFork forks.Eat) 0 (turn_work plan a)
  eat_takes pairs a inside o may = omega (arith, forks_dirty plan pairs a (by_fork pairs a forks.Eat o.linked))

  pub leave_takes : (pairs : ℕ → Pairs) (a : ℕ) (thirsty : Bool) → Takes plan pairs a (ByFork (forks.Leave thirsty)) 0 0
  leave_takes pairs a thirsty inside o may = omega (arith, leave_as_it_was plan pairs a thirsty (by_fork pairs a (forks.Leave thirsty) o.linked))

  -- ---- bottles

  pub start_takes : (pairs : ℕ → Pairs) (a : ℕ) (session : Option (List ℕ)) → Takes plan pairs a (ByBottle (bottles.Start session)) 0 (change_work plan a)
  start_takes pairs a session inside o may = omega (arith, session_starts plan pairs a session (by_bottle pairs a (bottles.Start session) o.linked))

  pub ask_bottle_takes : (pairs : ℕ → Pairs) (a r : ℕ) → Takes plan pairs a (ByBottle (bottles.AskBottle r)) 1 0
  ask_bottle_takes pairs a r inside o may = omega (arith, bottle_asked plan pairs a r o.placed may (by_bottle pairs a (bottles.AskBottle r) o.linked))

  pub give_bottle_takes : (pairs : ℕ → Pairs) (a r : ℕ) → Takes plan pairs a (ByBottle (bottles.GiveBottle r (pairs a).diner.held)) 1 0
  give_bottle_takes pairs a r inside o may = omega (arith, bottle_given plan pairs a r c o.placed may (by_bottle pairs a (bottles.GiveBottle r (pairs a).diner.held) o.linked))

  pub drink_takes : (pairs : ℕ → Pairs) (a : ℕ) → Takes plan pairs a (ByBottle bottles.Drink) 0 0
  drink_takes pairs a inside o may = omega (arith, drink_as_it_was plan pairs a (by_bottle pairs a bottles.Drink o.linked))

  pub finish_takes : (pairs : ℕ → Pairs) (a : ℕ) (writes : Option (List (ℕ × Value))) → Takes plan pairs a (ByBottle (bottles.Finish writes)) 0 (change_work plan a)
  finish_takes pairs a writes inside o may = omega (arith, session_finishes plan pairs a writes (by_bottle pairs a (bottles.Finish writes) o.linked))

  pub withdraw_takes : (pairs : ℕ → Pairs) (a : ℕ) → Takes plan pairs a (ByBottle bottles.Withdraw) 0 (change_work plan a)
  withdraw_takes pairs a inside o may = omega (arith, session_withdrawn plan pairs a (by_bottle pairs a bottles.Withdraw o.linked))

  -- ---- messages

  message_comes : (pairs : ℕ → Pairs) (u a : ℕ) (m : Msg) → TakesOne plan pairs u a m
  message_comes pairs u a msg.AskFork l o near comes =
      fork_request_came plan pairs u a l (among_offices plan u (near_within plan a u c near)) (among_neighbours plan u a c (near_both plan u a ∙ near))
      (finds pairs u a Fork ForkToken msg.AskFork (between (put pairs a (arrived (pairs a) u l (arrival.Fresh msg.AskFork))) u a) (are_neighbours plan u a) (o.placed u a Fork) (o.placed u a ForkToken) (o.requests.forks u a) refl refl
      (one_came pairs (put pairs a (arrived (pairs a) u l (arrival.Fresh msg.AskFork))) u a msg.AskFork comes).1)
      comes
  message_comes pairs u a msg.Fork l o near comes =
      fork_came plan pairs u a l (among_offices plan u (near_within plan a u c near)) (among_neighbours plan u a c (near_both plan u a ∙ near)) (λ x y. omega (arith, o.placed x y Fork, num_one (are_neighbours plan x y))) comes
  message_comes pairs u a (msg.AskBottle r) l o shared comes =
      bottle_request_came plan pairs u a r l o.placed (o.peers a)
      (finds pairs u a (Bottle r) (BottleToken r) (msg.AskBottle r) (between (put pairs a (arrived (pairs a) u l (arrival.Fresh (msg.AskBottle r)))) u a) (is_shared plan u a (Bottle r)) (o.placed u a (Bottle r)) (o.placed u a (BottleToken r)) (o.requests.bottles r u a)
      (same_self (BottleToken r)) refl (one_came pairs (put pairs a (arrived (pairs a) u l (arrival.Fresh (msg.AskBottle r)))) u a (msg.AskBottle r) comes).1)
      comes
  message_comes pairs u a (msg.Bottle r x) l o shared comes = bottle_came plan pairs u a r x l o.placed (o.peers a) comes

  something_arrives : (pairs : ℕ → Pairs) (a v : ℕ) (l' : LinkState) (x : Arrival) → AreInOrder plan pairs → ((m : Msg) → x ≡ arrival.Fresh m → is_shared plan a v (thing_of m) ≡ true) →
      Comes pairs v a (brought x) (put pairs a (arrived (pairs a) v l' x)) → pairs_work plan (put pairs a (arrived (pairs a) v l' x)) + num (is_some (brought x)) ≤ pairs_work plan pairs
  something_arrives pairs a v l' (arrival.Fresh m) o shared comes = message_comes pairs v a m l' o (shared m refl) comes
  something_arrives pairs a v l' arrival.Acked o shared comes = let p' : Pairs = arrived (pairs a) v l' arrival.Acked in omega (arith, quiet_work plan pairs a p' refl refl (nothing_came pairs (put pairs a p') v a comes))
  something_arrives pairs a v l' arrival.Repeat o shared comes = let p' : Pairs = arrived (pairs a) v l' arrival.Repeat in omega (arith, quiet_work plan pairs a p' refl refl (nothing_came pairs (put pairs a p') v a comes))
  something_arrives pairs a v l' arrival.Kept o shared comes = let p' : Pairs = arrived (pairs a) v l' arrival.Kept in omega (arith, quiet_work plan pairs a p' refl refl (nothing_came pairs (put pairs a p') v a comes))
  something_arrives pairs a v l' arrival.Early o shared comes = let p' : Pairs = arrived (pairs a) v l' arrival.Early in omega (arith, quiet_work plan pairs a p' refl refl (nothing_came pairs (put pairs a p') v a comes))

  frame_arrives : (pairs : ℕ → Pairs) (f : Fields) → IsHonest pairs f → frame_fault plan f.to (pairs f.to) f ≡ None → AreInOrder plan pairs → pairs_work plan (moved pairs f.to (ByFrame f)) + num (is_some (brought (arrival_of (pairs f.to) f))) ≤ pairs_work plan pairs
  frame_arrives pairs f honest fine o =
      something_arrives pairs f.to f.from (after_arrival ((pairs f.to).link f.from) f) (arrival_of (pairs f.to) f) o
      (λ m fresh. (fresh_is_apart (is_shared plan f.to f.from) (held (pairs f.to) f.from) ((pairs f.to).link f.from) f m (passed plan f.to (pairs f.to) f fine).1 fresh).0)
      (comes_in pairs f (pair_after (pairs f.to) (ByFrame f)) refl o.linked honest)

  -- a frame's own message is one, and Acked, Repeat, Kept and Early are none
  pub frame_comes : (pairs : ℕ → Pairs) (a : ℕ) (f : Fields) → f.to ≡ a → IsHonest pairs f → frame_fault plan a (pairs a) f ≡ None → AreInOrder plan pairs → pairs_work plan (moved pairs a (ByFrame f)) + num (is_some (brought (arrival_of (pairs a) f))) ≤ pairs_work plan pairs
  frame_comes pairs a f is honest fine o =
      subst (λ k. pairs_work plan (moved pairs k (ByFrame f)) + num (is_some (brought (arrival_of (pairs k) f))) ≤ pairs_work plan pairs) is
      (frame_arrives pairs f honest (subst (λ k. frame_fault plan k (pairs k) f ≡ None) (sym is) fine) o)

  -- a kept one that follows lowers the work too, and one that is thrown out leaves it
  pub kept_comes : (pairs : ℕ → Pairs) (a v : ℕ) (k : Option Msg) → follows plan a v (pairs a) ≡ k → AreInOrder plan pairs → pairs_work plan (moved pairs a (ByKept v k)) ≤ pairs_work plan pairs
  kept_comes pairs a v k may o = of k may (follows_in pairs v a k (pair_after (pairs a) (ByKept v k)) refl o.linked next)
    where
      link : LinkState
      link = (pairs a).link v

      breach : Msg → Bool
      breach = breach_among (is_shared plan a v) (held (pairs a) v) link link.sending.acked

      next : (m : Msg) → k ≡ Some m → Keeps (receiving_of pairs a v) (taken_of pairs a v + 1) m
      next m is = keeps_next (receiving_of pairs a v) m (kept_there breach (next_kept link.receiving) m (may ∙ is))

      of : (k : Option Msg) → follows plan a v (pairs a) ≡ k → Comes pairs v a k (moved pairs a (ByKept v k)) → pairs_work plan (moved pairs a (ByKept v k)) ≤ pairs_work plan pairs
      of None e comes = omega (arith, something_arrives pairs a v (link_then link None) arrival.Acked o (λ m i. absurd cc) comes)
      of (Some m) e comes =
          let it = no_breach (is_shared plan a v (thing_of m)) (held (pairs a) v (thing_of m)) (waits (thing_of m) (left_by link link.sending.acked)) (follows_unbreached breach (next_kept link.receiving) m e) in
          omega (arith, something_arrives pairs a v (link_then link (Some m)) (arrival.Fresh m) o (λ n i. let same_one : m ≡ n = cc in subst (λ z. is_shared plan a v (thing_of z) ≡ true) same_one it.0) comes)
