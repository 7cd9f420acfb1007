-- In every world each request token follows its thing.
use Rattle.std.proofs.Common.{◌≡◌, ℕ, ◌+◌, Bool, true, false, not, cond, List, ◌∷◌, Option, None, Some, is_some, refl, sym, ap, subst, ◌∙◌, arith, eqb-true}
use Rattle.std.specs.Prelude.{◌==◌, ◌&&◌}
use Rattle.std.proofs.Math.Bool.{and-false}
use Rattle.std.proofs.lemmas.Bool.{and_parts}
use Rattle.bottle_values.specs.declared.Value.{Value}
use Rattle.bottle_values.specs.Lists.{num}
use Rattle.bottle_values.specs.ListLaws.{num_one, true_of}
use Rattle.bottle_values.specs.Maps.{put}
use Rattle.frame_codec.specs.declared.message.Msg.{Msg}
use Rattle.frame_codec.specs.declared.message.Msg.TheVariants as msg
use Rattle.frame_codec.specs.Frame.{Fields}
use Rattle.office_map.specs.PlanValue.{PlanValue, peer}
use Rattle.office_map.specs.Consistency.{IsConsistent}
use Rattle.window_link.specs.declared.arrival.Arrival.{Arrival}
use Rattle.window_link.specs.declared.arrival.Arrival.TheVariants as arrival
use Rattle.window_link.specs.Windows.{next_kept}
use Rattle.window_link.specs.Links.{LinkState, after_arrival}
use Rattle.token_channel.specs.declared.thing.Thing.{Thing}
use Rattle.token_channel.specs.declared.thing.Thing.TheVariants.{Fork, ForkToken, Bottle, BottleToken}
use Rattle.token_channel.specs.Things.{thing_of, same, count_carrying}
use Rattle.token_channel.specs.Places.{waits}
use Rattle.token_channel.specs.Ends.{is_shared}
use Rattle.token_channel.specs.Channels.{breach_among, left_by, link_then}
use Rattle.token_channel.specs.ThingLaws.{same_self, no_breach, follows_unbreached}
use Rattle.dining_core.specs.Diners.{ForkRule}
use Rattle.dining_core.specs.Diners as forks
use Rattle.dining_core.specs.Worlds as tables
use Rattle.drinking_core.specs.Drinkers.{BottleRule, holds}
use Rattle.drinking_core.specs.Drinkers as bottles
use Rattle.drinking_core.specs.Worlds as bars
use Rattle.site_core.specs.Pairs.{Pairs, held, fork_sends, bottle_sends, bottle_message, after_fork_rule, after_bottle_rule, frame_fault, arrival_of, arrived, follows}
use Rattle.site_core.specs.neighbours.HeldLaws.{after_ask_fork, after_give_fork, after_ask_bottle, after_give_bottle, after_message, like_started, like_drinking, like_finished, like_diner, like_withdrawn}
use Rattle.site_core.specs.neighbours.PairLaws.{passed}
use Rattle.frame_world.specs.declared.event.WorldEvent.{WorldEvent}
use Rattle.frame_world.specs.Worlds.{World, opening, run_of}
use Rattle.frame_world.specs.Ways.{between, pairs_at}
use Rattle.frame_world.specs.Headline.{Always}
use Rattle.frame_world.specs.RequestsFollow.{Follows, RequestsFollow, RequestsFindTheirThings, thing_goes_first}
use Rattle.frame_world.specs.WorldStates.{State, state_of, starting, IsAccepted}
use Rattle.frame_world.specs.WorldLaws.{through}
use Rattle.frame_world.proofs.Answers.{PairStep, Stays, ByFork, ByBottle, ByFrame, ByKept, pair_after, MayStep, step_of, is_step}
use Rattle.frame_world.proofs.OneLink.{Keeps, keeps_next, brought}
use Rattle.frame_world.proofs.Links.{AreLinked, IsHonest, Goes, Comes, goes_out, comes_in, follows_in, receiving_of, taken_of}
use Rattle.frame_world.proofs.WaysBetween.{nothing_sent, nothing_came}
use Rattle.frame_world.proofs.TablesFollow.{put_kept}
use Rattle.frame_world.proofs.Following.{moved, Arrived, Follow, pairs_in, starts, kept_there, kept_follows, own_step_follows, through_moves, pairs_after}
use Rattle.frame_world.proofs.Following.{arrived as has_arrived}
use Rattle.frame_world.proofs.PlacesAndForks.{each_is_placed, places_of}
use Rattle.frame_world.proofs.WhatWaits.{fresh_is_apart, from_its_end, for_its_end}
use Rattle.frame_world.proofs.work.RequestsGo.{behind, AtMostOne, Leaves, leaves, Fits, sent_follows, Reaches, reaches, come_follows}

pub record AllFollow (pairs : ℕ → Pairs) : Type 0 where
  pub forks : (x y : ℕ) → Follows pairs x y Fork ForkToken
  pub bottles : (r x y : ℕ) → Follows pairs x y (Bottle r) (BottleToken r)

-- ---- nothing goes or comes

same_follows : (pairs pairs' : ℕ → Pairs) → ((x y : ℕ) (t : Thing) → held (pairs' x) y t ≡ held (pairs x) y t) → between pairs' ≡ between pairs → (thing token : Thing) (x y : ℕ) → Follows pairs x y thing token → Follows pairs' x y thing token
same_follows pairs pairs' held_is e thing token x y f = record {
  given = omega (arith, f.given, ap num (held_is y x token), counts x y thing, counts y x token);
  asked = omega (arith, f.asked, ap num (held_is x y thing), counts x y token, counts y x thing);
  order = ap (λ (b : ℕ → ℕ → List Msg). thing_goes_first thing token (b x y)) e ∙ f.order;
}
  where
    counts : (x y : ℕ) (t : Thing) → count_carrying t (between pairs' x y) ≡ count_carrying t (between pairs x y)
    counts x y t = ap (λ (b : ℕ → ℕ → List Msg). count_carrying t (b x y)) e

held_put : (pairs : ℕ → Pairs) (a : ℕ) (p' : Pairs) → ((u : ℕ) (t : Thing) → held p' u t ≡ held (pairs a) u t) → (x y : ℕ) (t : Thing) → held (put pairs a p' x) y t ≡ held (pairs x) y t
held_put pairs a p' same x y t = go (x == a) refl
  where
    go : (b : Bool) → (x == a) ≡ b → held (cond b p' (pairs x)) y t ≡ held (pairs x) y t
    go true i = same y t ∙ ap (λ k. held (pairs k) y t) (sym (eqb-true x a i))
    go false i = refl

quiet : (pairs : ℕ → Pairs) (a : ℕ) (p' : Pairs) → ((u : ℕ) (t : Thing) → held p' u t ≡ held (pairs a) u t) → between (put pairs a p') ≡ between pairs → AllFollow pairs → AllFollow (put pairs a p')
quiet pairs a p' same e h = record {
  forks = λ x y. same_follows pairs (put pairs a p') (held_put pairs a p' same) e Fork ForkToken x y (h.forks x y);
  bottles = λ r x y. same_follows pairs (put pairs a p') (held_put pairs a p' same) e (Bottle r) (BottleToken r) x y (h.bottles r x y);
}

-- ---- one message

sent_all : (pairs pairs' : ℕ → Pairs) (a v : ℕ) (m : Msg) → ((t : Thing) → AtMostOne pairs t) → Leaves pairs pairs' a v m → Fits pairs a v m Fork ForkToken → ((r : ℕ) → Fits pairs a v m (Bottle r) (BottleToken r)) → AllFollow pairs → AllFollow pairs'
sent_all pairs pairs' a v m one l fork bottle h = record {
  forks = sent_follows pairs pairs' a v m Fork ForkToken (one Fork) (one ForkToken) l fork h.forks;
  bottles = λ r. sent_follows pairs pairs' a v m (Bottle r) (BottleToken r) (one (Bottle r)) (one (BottleToken r)) l (bottle r) (h.bottles r);
}

come_all : (pairs pairs' : ℕ → Pairs) (u a : ℕ) (m : Msg) → ((t : Thing) → AtMostOne pairs t) → Reaches pairs pairs' u a m → AllFollow pairs → AllFollow pairs'
come_all pairs pairs' u a m one l h = record {
  forks = come_follows pairs pairs' u a m Fork ForkToken (one Fork) (one ForkToken) l h.forks;
  bottles = λ r. come_follows pairs pairs' u a m (Bottle r) (BottleToken r) (one (Bottle r)) (one (BottleToken r)) l (h.bottles r);
}

-- ---- rules

not_false : (b : Bool) → not b ≡ true → b ≡ false
not_false true e = absurd cc
not_false false e = refl

fork_keeps : (pairs : ℕ → Pairs) (a : ℕ) (rule : ForkRule) → ((t : Thing) → AtMostOne pairs t) → forks.may (pairs a).diner rule ≡ true → Goes pairs a (fork_sends rule) (put pairs a (after_fork_rule (pairs a) rule)) → AllFollow pairs → AllFollow (put pairs a (after_fork_rule (pairs a) rule))
fork_keeps pairs a (forks.BecomeHungry thirsty) one may g h =
    let p' : Pairs = after_fork_rule (pairs a) (forks.BecomeHungry thirsty) in
    quiet pairs a p' (like_diner (pairs a).diner p'.diner (pairs a).drinker refl refl) (nothing_sent pairs (put pairs a p') a g) h
fork_keeps pairs a (forks.AskFork v) one may g h =
    let d = (pairs a).diner in
    let p' : Pairs = after_fork_rule (pairs a) (forks.AskFork v) in
    let parts : (not (d.held v) ≡ true) × (d.token v ≡ true) = and_parts (not (d.held v)) (d.token v) (and_parts (forks.is_hungry d.phase) (not (d.held v) && d.token v) may).1 in
    sent_all pairs (put pairs a p') a v msg.AskFork one (leaves pairs a v msg.AskFork p' (after_ask_fork d (pairs a).drinker v) parts.1 g)
    (record { gives = λ e. absurd cc; asks = λ e. not_false (d.held v) parts.0 })
    (λ r. record { gives = λ e. absurd cc; asks = λ e. absurd cc }) h
fork_keeps pairs a (forks.GiveFork v) one may g h =
    let d = (pairs a).diner in
    let p' : Pairs = after_fork_rule (pairs a) (forks.GiveFork v) in
    let rest : (d.token v ≡ true) × ((d.held v && not (d.clean v)) ≡ true) = and_parts (d.token v) (d.held v && not (d.clean v)) (and_parts (not (forks.is_eating d.phase)) (d.token v && (d.held v && not (d.clean v))) may).1 in
    sent_all pairs (put pairs a p') a v msg.Fork one (leaves pairs a v msg.Fork p' (after_give_fork d (pairs a).drinker v) (and_parts (d.held v) (not (d.clean v)) rest.1).0 g)
    (record { gives = λ e. rest.0; asks = λ e. absurd cc })
    (λ r. record { gives = λ e. absurd cc; asks = λ e. absurd cc }) h
fork_keeps pairs a forks.Eat one may g h =
    let p' : Pairs = after_fork_rule (pairs a) forks.Eat in
    quiet pairs a p' (like_diner (pairs a).diner p'.diner (pairs a).drinker refl refl) (nothing_sent pairs (put pairs a p') a g) h
fork_keeps pairs a (forks.Leave thirsty) one may g h =
    let p' : Pairs = after_fork_rule (pairs a) (forks.Leave thirsty) in
    quiet pairs a p' (like_diner (pairs a).diner p'.diner (pairs a).drinker refl refl) (nothing_sent pairs (put pairs a p') a g) h

bottle_keeps : (pairs : ℕ → Pairs) (a : ℕ) (rule : BottleRule) → ((t : Thing) → AtMostOne pairs t) → bottles.may (pairs a).drinker rule ≡ true → Goes pairs a (bottle_sends (pairs a).drinker rule) (put pairs a (after_bottle_rule (pairs a) rule)) → AllFollow pairs → AllFollow (put pairs a (after_bottle_rule (pairs a) rule))
bottle_keeps pairs a (bottles.Start session) one may g h =
    let p' : Pairs = after_bottle_rule (pairs a) (bottles.Start session) in
    quiet pairs a p' ((like_started (pairs a).drinker session).held (pairs a).diner) (nothing_sent pairs (put pairs a p') a g) h
bottle_keeps pairs a (bottles.AskBottle r) one may g h =
    let d = (pairs a).drinker in
    let p' : Pairs = after_bottle_rule (pairs a) (bottles.AskBottle r) in
    let parts : (not (holds d r) ≡ true) × (d.token r ≡ true) = and_parts (not (holds d r)) (d.token r) (and_parts (d.needed r) (not (holds d r) && d.token r) (and_parts (bottles.is_thirsty d.phase) (d.needed r && (not (holds d r) && d.token r)) may).1).1 in
    let away : held (pairs a) (d.peer r) (Bottle r) ≡ false = ap (λ b. (d.peer r == d.peer r) && b) (not_false (holds d r) parts.0) ∙ and-false (d.peer r == d.peer r) in
    sent_all pairs (put pairs a p') a (d.peer r) (msg.AskBottle r) one
    (leaves pairs a (d.peer r) (msg.AskBottle r) p' (after_ask_bottle (pairs a).diner d r (d.peer r) refl) (for_its_end d r (d.token r) parts.1) g)
    (record { gives = λ e. absurd cc; asks = λ e. absurd cc })
    (λ q. record { gives = λ e. absurd cc; asks = λ e. ap (λ k. held (pairs a) (d.peer r) (Bottle k)) (eqb-true q r e) ∙ away }) h
bottle_keeps pairs a (bottles.GiveBottle r here) one may g h = of ((pairs a).drinker.bottle r) refl
  where
    held_here : holds (pairs a).drinker r ≡ true
    held_here = (and_parts (holds (pairs a).drinker r) _ (and_parts ((pairs a).drinker.token r) _ may).1).0

    token_here : held (pairs a) ((pairs a).drinker.peer r) (BottleToken r) ≡ true
    token_here = for_its_end (pairs a).drinker r ((pairs a).drinker.token r) (and_parts ((pairs a).drinker.token r) _ may).0

    p' : Pairs
    p' = after_bottle_rule (pairs a) (bottles.GiveBottle r here)

    of : (o : Option Value) → (pairs a).drinker.bottle r ≡ o → AllFollow (put pairs a p')
    of None e = let no : false ≡ true = sym (ap is_some e) ∙ held_here in absurd cc
    of (Some x) e =
        sent_all pairs (put pairs a p') a ((pairs a).drinker.peer r) (msg.Bottle r x) one
        (leaves pairs a ((pairs a).drinker.peer r) (msg.Bottle r x) p' (after_give_bottle (pairs a).diner (pairs a).drinker r ((pairs a).drinker.peer r) x here refl)
        (for_its_end (pairs a).drinker r (holds (pairs a).drinker r) held_here)
        (subst (λ o. Goes pairs a (bottle_message ((pairs a).drinker.peer r) r o) (put pairs a p')) e g))
        (record { gives = λ e. absurd cc; asks = λ e. absurd cc })
        (λ q. record { gives = λ e. ap (λ k. held (pairs a) ((pairs a).drinker.peer r) (BottleToken k)) (eqb-true q r e) ∙ token_here; asks = λ e. absurd cc }) h
bottle_keeps pairs a bottles.Drink one may g h =
    let p' : Pairs = after_bottle_rule (pairs a) bottles.Drink in
    quiet pairs a p' ((like_drinking (pairs a).drinker).held (pairs a).diner) (nothing_sent pairs (put pairs a p') a g) h
bottle_keeps pairs a bottles.Withdraw one may g h =
    let p' : Pairs = after_bottle_rule (pairs a) bottles.Withdraw in
    quiet pairs a p' ((like_withdrawn (pairs a).drinker).held (pairs a).diner) (nothing_sent pairs (put pairs a p') a g) h
bottle_keeps pairs a (bottles.Finish writes) one may g h =
    let p' : Pairs = after_bottle_rule (pairs a) (bottles.Finish writes) in
    quiet pairs a p' ((like_finished (pairs a).drinker writes).held (pairs a).diner) (nothing_sent pairs (put pairs a p') a g) h

-- ---- what comes

arrived_keeps : (plan : PlanValue) (pairs : ℕ → Pairs) (a v : ℕ) (l' : LinkState) (x : Arrival) → ((t : Thing) → AtMostOne pairs t) → ((r : ℕ) → (pairs a).drinker.peer r ≡ peer plan a r) → ((m : Msg) → x ≡ arrival.Fresh m → is_shared plan a v (thing_of m) ≡ true) →
    Comes pairs v a (brought x) (put pairs a (arrived (pairs a) v l' x)) → AllFollow pairs → AllFollow (put pairs a (arrived (pairs a) v l' x))
arrived_keeps plan pairs a v l' (arrival.Fresh m) one peers shared c h =
    let p' : Pairs = arrived (pairs a) v l' (arrival.Fresh m) in
    come_all pairs (put pairs a p') v a m one (reaches pairs v a m p' (after_message (pairs a).diner (pairs a).drinker v m (from_its_end plan a v (pairs a) m peers (shared m refl))) c) h
arrived_keeps plan pairs a v l' arrival.Acked one peers shared c h = let p' : Pairs = arrived (pairs a) v l' arrival.Acked in quiet pairs a p' (λ u t. refl) (nothing_came pairs (put pairs a p') v a c) h
arrived_keeps plan pairs a v l' arrival.Repeat one peers shared c h = let p' : Pairs = arrived (pairs a) v l' arrival.Repeat in quiet pairs a p' (λ u t. refl) (nothing_came pairs (put pairs a p') v a c) h
arrived_keeps plan pairs a v l' arrival.Kept one peers shared c h = let p' : Pairs = arrived (pairs a) v l' arrival.Kept in quiet pairs a p' (λ u t. refl) (nothing_came pairs (put pairs a p') v a c) h
arrived_keeps plan pairs a v l' arrival.Early one peers shared c h = let p' : Pairs = arrived (pairs a) v l' arrival.Early in quiet pairs a p' (λ u t. refl) (nothing_came pairs (put pairs a p') v a c) h

frame_keeps : (plan : PlanValue) (pairs : ℕ → Pairs) (f : Fields) → AreLinked pairs → IsHonest pairs f → frame_fault plan f.to (pairs f.to) f ≡ None → ((t : Thing) → AtMostOne pairs t) → ((r : ℕ) → (pairs f.to).drinker.peer r ≡ peer plan f.to r) → AllFollow pairs → AllFollow (moved pairs f.to (ByFrame f))
frame_keeps plan pairs f l honest fine one peers h =
    arrived_keeps plan pairs f.to f.from (after_arrival ((pairs f.to).link f.from) f) (arrival_of (pairs f.to) f) one peers
    (λ m fresh. (fresh_is_apart (is_shared plan f.to f.from) (held (pairs f.to) f.from) ((pairs f.to).link f.from) f m (passed plan f.to (pairs f.to) f fine).1 fresh).0)
    (comes_in pairs f (pair_after (pairs f.to) (ByFrame f)) refl l honest) h

kept_keeps : (plan : PlanValue) (pairs : ℕ → Pairs) (a v : ℕ) (o : Option Msg) → AreLinked pairs → follows plan a v (pairs a) ≡ o → ((t : Thing) → AtMostOne pairs t) → ((r : ℕ) → (pairs a).drinker.peer r ≡ peer plan a r) → AllFollow pairs → AllFollow (moved pairs a (ByKept v o))
kept_keeps plan pairs a v o l may one peers h = of o may (follows_in pairs v a o (pair_after (pairs a) (ByKept v o)) refl l next)
  where
    link : LinkState
    link = (pairs a).link v

    breach : Msg → Bool
    breach = breach_among (is_shared plan a v) (held (pairs a) v) link link.sending.acked

    next : (m : Msg) → o ≡ Some m → Keeps (receiving_of pairs a v) (taken_of pairs a v + 1) m
    next m is = keeps_next (receiving_of pairs a v) m (kept_there breach (next_kept link.receiving) m (may ∙ is))

    of : (o : Option Msg) → follows plan a v (pairs a) ≡ o → Comes pairs v a o (moved pairs a (ByKept v o)) → AllFollow (moved pairs a (ByKept v o))
    of None e c = arrived_keeps plan pairs a v (link_then link None) arrival.Acked one peers (λ m i. absurd cc) c h
    of (Some m) e c =
        let it = no_breach (is_shared plan a v (thing_of m)) (held (pairs a) v (thing_of m)) (waits (thing_of m) (left_by link link.sending.acked)) (follows_unbreached breach (next_kept link.receiving) m e) in
        arrived_keeps plan pairs a v (link_then link (Some m)) (arrival.Fresh m) one peers (λ n i. let same : m ≡ n = cc in subst (λ k. is_shared plan a v (thing_of k) ≡ true) same it.0) c h

-- ---- any step

step_keeps : (plan : PlanValue) (pairs : ℕ → Pairs) (a : ℕ) (step : PairStep) → AreLinked pairs → MayStep plan a (pairs a) step → Arrived pairs a step → ((t : Thing) → AtMostOne pairs t) → ((x r : ℕ) → (pairs x).drinker.peer r ≡ peer plan x r) → AllFollow pairs → AllFollow (moved pairs a step)
step_keeps plan pairs a Stays l may here one peers h = let same : moved pairs a Stays ≡ pairs = put_kept pairs a (pairs a) refl in subst AllFollow (sym same) h
step_keeps plan pairs a (ByFork rule) l may here one peers h = fork_keeps pairs a rule one may (goes_out pairs a (pair_after (pairs a) (ByFork rule)) (fork_sends rule) refl l) h
step_keeps plan pairs a (ByBottle rule) l may here one peers h = bottle_keeps pairs a rule one may (goes_out pairs a (pair_after (pairs a) (ByBottle rule)) (bottle_sends (pairs a).drinker rule) refl l) h
step_keeps plan pairs a (ByKept v o) l may here one peers h = kept_keeps plan pairs a v o l may one (peers a) h
step_keeps plan pairs a (ByFrame f) l may here one peers h =
    subst (λ k. AllFollow (moved pairs k (ByFrame f))) here.0
    (frame_keeps plan pairs f l here.1 (subst (λ k. MayStep plan k (pairs k) (ByFrame f)) (sym here.0) may) one (peers f.to) h)

-- ---- every world

pub record GoOn (plan : PlanValue) (frames : List Fields) (pairs : ℕ → Pairs) : Type 0 where
  pub follow : Follow plan frames pairs
  pub requests : AllFollow pairs

pub requests_start : (plan : PlanValue) → AllFollow (pairs_in (starting plan))
requests_start plan = record {
  forks = λ x y. record { given = omega (arith, num_one (held (pairs_in (starting plan) y) x ForkToken)); asked = omega (arith, num_one (held (pairs_in (starting plan) x) y Fork)); order = refl };
  bottles = λ r x y. record { given = omega (arith, num_one (held (pairs_in (starting plan) y) x (BottleToken r))); asked = omega (arith, num_one (held (pairs_in (starting plan) x) y (Bottle r))); order = refl };
}

module _ (forks_one : tables.EachHasOnePlace) (bottles_one : bars.EachHasOnePlace) (peers_stay : bars.PeersStay) (plan : PlanValue) (c : IsConsistent plan) where
  at_most_one : (frames : List Fields) (pairs : ℕ → Pairs) → Follow plan frames pairs → (t : Thing) → AtMostOne pairs t
  at_most_one frames pairs f t x y = omega (arith, each_is_placed forks_one bottles_one plan frames pairs c f x y t, num_one (is_shared plan x y t))

  pub peers_are : (frames : List Fields) (pairs : ℕ → Pairs) → Follow plan frames pairs → (a r : ℕ) → (pairs a).drinker.peer r ≡ peer plan a r
  peers_are frames pairs f a r = subst (λ (w : bars.World). (w.drinker a).peer r ≡ peer plan a r) (sym f.bars.led) (peers_stay plan f.bars.events a r)

  pub kept_goes_on : (frames : List Fields) (pairs : ℕ → Pairs) (a v : ℕ) (o : Option Msg) → follows plan a v (pairs a) ≡ o → GoOn plan frames pairs → GoOn plan frames (moved pairs a (ByKept v o))
  kept_goes_on frames pairs a v o e k = record {
    follow = kept_follows plan frames pairs a v o e k.follow;
    requests = kept_keeps plan pairs a v o k.follow.linked e (at_most_one frames pairs k.follow) (peers_are frames pairs k.follow a) k.requests;
  }

  -- with the event's own step alone
  pub own_goes_on : (s s' : State) → GoOn plan s.frames (pairs_in s) → (i : IsAccepted plan s s') → GoOn plan s'.frames (moved (pairs_in s) i.place (step_of (s.office i.place) i.event))
  own_goes_on s s' h i = record {
    follow = own_step_follows plan s s' h.follow i;
    requests = step_keeps plan (pairs_in s) i.place (step_of (s.office i.place) i.event) h.follow.linked (is_step plan i.place (s.office i.place) i.event i.reply i.new i.answered).may (has_arrived plan s s' i h.follow.honest) (at_most_one s.frames (pairs_in s) h.follow) (peers_are s.frames (pairs_in s) h.follow) h.requests;
  }

  event_goes_on : (s s' : State) → GoOn plan s.frames (pairs_in s) → IsAccepted plan s s' → GoOn plan s'.frames (pairs_in s')
  event_goes_on s s' h i = subst (GoOn plan s'.frames) (sym (pairs_after plan s s' i))
      (through_moves plan i.place (GoOn plan s'.frames) (λ qs v o e k. kept_goes_on s'.frames qs i.place v o e k) (pairs_in s) (step_of (s.office i.place) i.event) (own_goes_on s s' h i))

  pub all_go_on : (es : List WorldEvent) → GoOn plan (state_of (run_of (opening plan) es)).frames (pairs_in (state_of (run_of (opening plan) es)))
  all_go_on es = through plan (λ s. GoOn plan s.frames (pairs_in s)) (record { follow = starts plan; requests = requests_start plan }) event_goes_on es

pub requests_follow : tables.EachHasOnePlace → bars.EachHasOnePlace → bars.PeersStay → Always RequestsFollow
requests_follow forks_one bottles_one peers_stay plan es c =
    let all = all_go_on forks_one bottles_one peers_stay plan c es in
    record { forks = all.requests.forks; bottles = λ a b r. all.requests.bottles r a b }

-- ---- a request that is first finds its thing

pub finds : (pairs : ℕ → Pairs) (a b : ℕ) (thing token : Thing) (m : Msg) (ms : List Msg) (shared : Bool) → places_of pairs a b thing ≡ num shared → places_of pairs a b token ≡ num shared → Follows pairs a b thing token →
    same token (thing_of m) ≡ true → same thing (thing_of m) ≡ false → between pairs a b ≡ m ∷ ms → held (pairs b) a thing ≡ true
finds pairs a b thing token m ms shared one_thing one_token f is isnt e =
    true_of (held (pairs b) a thing) (omega (
      arith,
      one_thing,
      one_token,
      num_one shared,
      f.asked,
      ap (count_carrying token) e,
      ap (count_carrying thing) e,
      ap num is,
      ap num isnt,
      behind thing token m ms is (ap (thing_goes_first thing token) (sym e) ∙ f.order),
    ))

pub requests_find : tables.EachHasOnePlace → bars.EachHasOnePlace → bars.PeersStay → Always RequestsFindTheirThings
requests_find forks_one bottles_one peers_stay plan es c =
    let all = all_go_on forks_one bottles_one peers_stay plan c es in
    let w : World = run_of (opening plan) es in
    record {
      forks = λ a b ms e. finds (pairs_at w) a b Fork ForkToken msg.AskFork ms (is_shared plan a b Fork) (each_is_placed forks_one bottles_one plan w.frames (pairs_at w) c all.follow a b Fork)
          (each_is_placed forks_one bottles_one plan w.frames (pairs_at w) c all.follow a b ForkToken) (all.requests.forks a b) refl refl e;
      bottles = λ a b r ms e. finds (pairs_at w) a b (Bottle r) (BottleToken r) (msg.AskBottle r) ms (is_shared plan a b (Bottle r)) (each_is_placed forks_one bottles_one plan w.frames (pairs_at w) c all.follow a b (Bottle r))
          (each_is_placed forks_one bottles_one plan w.frames (pairs_at w) c all.follow a b (BottleToken r)) (all.requests.bottles r a b) (same_self (BottleToken r)) refl e;
    }
