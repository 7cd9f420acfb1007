-- A thing that an office shares with another is held there, or waits there once, or neither: kept by each step of the office.
use Rattle.std.proofs.Common.{◌≡◌, ℕ, ◌+◌, ◌-◌, ◌≤◌, Bool, true, false, not, cond, drop, Option, None, Some, is_some, refl, sym, ap, ◌∙◌, arith}
use Rattle.std.specs.Prelude.{◌==◌, ◌&&◌}
use Rattle.std.specs.Option.{option_map_or}
use Rattle.std.proofs.lemmas.Bool.{and_parts, eqb-true, eq-eqb}
use Rattle.bottle_values.specs.declared.Value.{Value}
use Rattle.bottle_values.specs.Lists.{num}
use Rattle.bottle_values.specs.Maps.{put}
use Rattle.frame_codec.specs.declared.message.Msg.{Msg}
use Rattle.frame_codec.specs.declared.message.Msg.TheVariants as msg
use Rattle.frame_codec.specs.Frame.{Fields}
use Rattle.office_map.specs.PlanValue.{PlanValue, peer}
use Rattle.office_map.specs.Consistency.{IsConsistent}
use Rattle.office_map.specs.NeighbourLaws.{peer_is}
use Rattle.window_link.specs.declared.arrival.Arrival.{Arrival}
use Rattle.window_link.specs.declared.arrival.Arrival.TheVariants as arrival
use Rattle.window_link.specs.declared.fault.LinkFault.{LinkFault}
use Rattle.window_link.specs.Windows.{next_kept}
use Rattle.window_link.specs.Links.{LinkState, fault_of, arrival_at, after_arrival}
use Rattle.token_channel.specs.declared.thing.Thing.{Thing}
use Rattle.token_channel.specs.Things.{thing_of, same, count_carrying, hold}
use Rattle.token_channel.specs.Places.{waits}
use Rattle.token_channel.specs.Ends.{is_shared, starts_here}
use Rattle.token_channel.specs.Channels.{breach_among, fault_among, left_by, link_fault_or, next_of, link_then}
use Rattle.token_channel.specs.ThingLaws.{same_is, count_carrying-push, count_carrying-drop, count_carrying-none, no_breach, follows_unbreached}
use Rattle.dining_core.specs.Diners.{ForkRule}
use Rattle.dining_core.specs.Diners as forks
use Rattle.drinking_core.specs.Drinkers.{Drinker, BottleRule, holds}
use Rattle.drinking_core.specs.Drinkers as bottles
use Rattle.site_core.specs.Pairs.{Pairs, opened, held, queued_to, sent, bottle_message, after_fork_rule, after_bottle_rule, frame_fault, arrival_of, arrived, after_frame, follows, as_arrival}
use Rattle.site_core.specs.neighbours.HeldLaws.{held_at_start, with_held, IsFrom, after_ask_fork, after_give_fork, after_ask_bottle, after_give_bottle, after_message, like_started, like_drinking, like_finished, like_diner, like_withdrawn}
use Rattle.site_core.specs.neighbours.PairLaws.{passed, same_records}
use Rattle.frame_world.proofs.Answers.{PairStep, Stays, ByFork, ByBottle, ByFrame, ByKept, pair_after, all_after, MayStep, through_all}
use Rattle.frame_world.proofs.Links.{queued_link}
use Rattle.frame_world.proofs.OneLink.{Arrives, Brings, BringsNone, arrives, brought}

-- what an office shares is held there, or waits there once, or neither
abbrev pub AreApart : PlanValue → ℕ → Pairs → Type 0
AreApart plan a p = (v : ℕ) (t : Thing) → num (held p v t) + count_carrying t (p.link v).sending.waiting ≤ num (is_shared plan a v t)

-- with the other ends as the plan has them
pub record StandApart (plan : PlanValue) (a : ℕ) (p : Pairs) : Type 0 where
  pub peers : (r : ℕ) → p.drinker.peer r ≡ peer plan a r
  pub apart : AreApart plan a p

-- ---- nothing goes or comes

quiet_apart : (plan : PlanValue) (a : ℕ) (p p' : Pairs) → p'.link ≡ p.link → ((u : ℕ) (t : Thing) → held p' u t ≡ held p u t) → AreApart plan a p → AreApart plan a p'
quiet_apart plan a p p' e held_is h u t = omega (arith, h u t, ap num (held_is u t), ap (λ (f : ℕ → LinkState). count_carrying t (f u).sending.waiting) e)

-- ---- a thing that is held goes

pub lost : (h : ℕ → Thing → Bool) (v : ℕ) (x : Thing) → h v x ≡ true → (u : ℕ) (t : Thing) → num (with_held h v x false u t) + num ((u == v) && same t x) ≤ num (h u t)
lost h v x e u t = go (u == v) refl
  where
    here : u ≡ v → (c : Bool) → same t x ≡ c → num (cond c false (h v t)) + num c ≤ num (h u t)
    here i true s = omega (arith, ap num (ap (λ k. h k t) i ∙ ap (h v) (same_is t x s) ∙ e))
    here i false s = omega (arith, ap num (ap (λ k. h k t) i))

    go : (b : Bool) → (u == v) ≡ b → num (cond b (hold (h v) x false) (h u) t) + num (b && same t x) ≤ num (h u t)
    go true i = here (eqb-true u v i) (same t x) refl
    go false i = omega arith

-- and waits
queued_count : (link : ℕ → LinkState) (v : ℕ) (m : Msg) (u : ℕ) (t : Thing) → count_carrying t (queued_to link v m u).sending.waiting ≡ count_carrying t (link u).sending.waiting + num ((u == v) && same t (thing_of m))
queued_count link v m u t = go (u == v) refl
  where
    go : (b : Bool) → (u == v) ≡ b → count_carrying t (cond b (queued_link (link v) m) (link u)).sending.waiting ≡ count_carrying t (link u).sending.waiting + num (b && same t (thing_of m))
    go true i = omega (arith, count_carrying-push t (link v).sending.waiting m, ap (λ k. count_carrying t (link k).sending.waiting) (eqb-true u v i))
    go false i = omega arith

sent_apart : (plan : PlanValue) (a : ℕ) (p p' : Pairs) (v : ℕ) (m : Msg) → p'.link ≡ queued_to p.link v m → ((u : ℕ) (t : Thing) → held p' u t ≡ with_held (held p) v (thing_of m) false u t) → held p v (thing_of m) ≡ true → AreApart plan a p → AreApart plan a p'
sent_apart plan a p p' v m e held_is here h u t =
    omega (
      arith,
      h u t,
      ap num (held_is u t),
      lost (held p) v (thing_of m) here u t,
      queued_count p.link v m u t,
      ap (λ (f : ℕ → LinkState). count_carrying t (f u).sending.waiting) e,
    )

-- ---- something comes, and of what waits no more than that is left

abbrev pub IsLeft : LinkState → LinkState → Type 0
IsLeft l l' = (t : Thing) → count_carrying t l'.sending.waiting ≤ count_carrying t l.sending.waiting

left_apart : (plan : PlanValue) (a : ℕ) (p p' : Pairs) (v : ℕ) (l' : LinkState) → p'.link ≡ put p.link v l' → ((u : ℕ) (t : Thing) → held p' u t ≡ held p u t) → IsLeft (p.link v) l' → AreApart plan a p → AreApart plan a p'
left_apart plan a p p' v l' e held_is less h u t = omega (arith, h u t, ap num (held_is u t), go (u == v) refl, ap (λ (f : ℕ → LinkState). count_carrying t (f u).sending.waiting) e)
  where
    go : (b : Bool) → (u == v) ≡ b → count_carrying t (cond b l' (p.link u)).sending.waiting ≤ count_carrying t (p.link u).sending.waiting
    go true i = omega (arith, less t, ap (λ k. count_carrying t (p.link k).sending.waiting) (eqb-true u v i))
    go false i = omega arith

-- a thing that is shared and doesn't wait
came_apart : (plan : PlanValue) (a : ℕ) (p p' : Pairs) (v : ℕ) (l' : LinkState) (m : Msg) → p'.link ≡ put p.link v l' → ((u : ℕ) (t : Thing) → held p' u t ≡ with_held (held p) v (thing_of m) true u t) → IsLeft (p.link v) l' →
    is_shared plan a v (thing_of m) ≡ true → waits (thing_of m) l'.sending.waiting ≡ false → AreApart plan a p → AreApart plan a p'
came_apart plan a p p' v l' m e held_is less shared none h u t = omega (arith, ap num (held_is u t), go (u == v) refl, ap (λ (f : ℕ → LinkState). count_carrying t (f u).sending.waiting) e)
  where
    here : u ≡ v → (c : Bool) → same t (thing_of m) ≡ c → num (cond c true (held p v t)) + count_carrying t l'.sending.waiting ≤ num (is_shared plan a u t)
    here i true s =
        let is : t ≡ thing_of m = same_is t (thing_of m) s in
        omega (
          arith,
          ap (λ k. count_carrying k l'.sending.waiting) is,
          count_carrying-none (thing_of m) l'.sending.waiting none,
          ap num (ap (λ k. is_shared plan a k t) i ∙ ap (is_shared plan a v) is ∙ shared),
        )
    here i false s = omega (arith, h v t, less t, ap (λ k. num (is_shared plan a k t)) i)

    go : (b : Bool) → (u == v) ≡ b → num (cond b (hold (held p v) (thing_of m) true) (held p u) t) + count_carrying t (cond b l' (p.link u)).sending.waiting ≤ num (is_shared plan a u t)
    go true i = here (eqb-true u v i) (same t (thing_of m)) refl
    go false i = h u t

-- ---- rules

fork_apart : (plan : PlanValue) (a : ℕ) (p : Pairs) (rule : ForkRule) → forks.may p.diner rule ≡ true → AreApart plan a p → AreApart plan a (after_fork_rule p rule)
fork_apart plan a p (forks.BecomeHungry thirsty) may h = quiet_apart plan a p (after_fork_rule p (forks.BecomeHungry thirsty)) refl (like_diner p.diner (forks.act p.diner (forks.BecomeHungry thirsty)) p.drinker refl refl) h
fork_apart plan a p (forks.AskFork v) may h =
    let token : p.diner.token v ≡ true = (and_parts (not (p.diner.held v)) (p.diner.token v) (and_parts (forks.is_hungry p.diner.phase) (not (p.diner.held v) && p.diner.token v) may).1).1 in
    sent_apart plan a p (after_fork_rule p (forks.AskFork v)) v msg.AskFork refl (after_ask_fork p.diner p.drinker v) token h
fork_apart plan a p (forks.GiveFork v) may h =
    let rest : (p.diner.held v && not (p.diner.clean v)) ≡ true = (and_parts (p.diner.token v) (p.diner.held v && not (p.diner.clean v)) (and_parts (not (forks.is_eating p.diner.phase)) (p.diner.token v && (p.diner.held v && not (p.diner.clean v))) may).1).1 in
    sent_apart plan a p (after_fork_rule p (forks.GiveFork v)) v msg.Fork refl (after_give_fork p.diner p.drinker v) (and_parts (p.diner.held v) (not (p.diner.clean v)) rest).0 h
fork_apart plan a p forks.Eat may h = quiet_apart plan a p (after_fork_rule p forks.Eat) refl (like_diner p.diner (forks.act p.diner forks.Eat) p.drinker refl refl) h
fork_apart plan a p (forks.Leave thirsty) may h = quiet_apart plan a p (after_fork_rule p (forks.Leave thirsty)) refl (like_diner p.diner (forks.act p.diner (forks.Leave thirsty)) p.drinker refl refl) h

-- what is here of a record is here for its other end
pub for_its_end : (d : Drinker) (r : ℕ) (b : Bool) → b ≡ true → ((d.peer r == d.peer r) && b) ≡ true
for_its_end d r b e = ap (λ x. x && b) (eq-eqb (d.peer r) (d.peer r) refl) ∙ e

bottle_apart : (plan : PlanValue) (a : ℕ) (p : Pairs) (rule : BottleRule) → bottles.may p.drinker rule ≡ true → AreApart plan a p → AreApart plan a (after_bottle_rule p rule)
bottle_apart plan a p (bottles.Start session) may h = quiet_apart plan a p (after_bottle_rule p (bottles.Start session)) refl ((like_started p.drinker session).held p.diner) h
bottle_apart plan a p (bottles.AskBottle r) may h =
    let rest : (not (holds p.drinker r) && p.drinker.token r) ≡ true = (and_parts (p.drinker.needed r) (not (holds p.drinker r) && p.drinker.token r) (and_parts (bottles.is_thirsty p.drinker.phase) (p.drinker.needed r && (not (holds p.drinker r) && p.drinker.token r)) may).1).1 in
    sent_apart plan a p (after_bottle_rule p (bottles.AskBottle r)) (p.drinker.peer r) (msg.AskBottle r) refl (after_ask_bottle p.diner p.drinker r (p.drinker.peer r) refl)
    (for_its_end p.drinker r (p.drinker.token r) (and_parts (not (holds p.drinker r)) (p.drinker.token r) rest).1) h
bottle_apart plan a p (bottles.GiveBottle r here) may h = of (p.drinker.bottle r) refl
  where
    held_here : holds p.drinker r ≡ true
    held_here = (and_parts (holds p.drinker r) _ (and_parts (p.drinker.token r) _ may).1).0

    of : (o : Option Value) → p.drinker.bottle r ≡ o → AreApart plan a (after_bottle_rule p (bottles.GiveBottle r here))
    of None e = let no : false ≡ true = sym (ap is_some e) ∙ held_here in absurd cc
    of (Some x) e = sent_apart plan a p (after_bottle_rule p (bottles.GiveBottle r here)) (p.drinker.peer r) (msg.Bottle r x) (ap (λ o. sent p.link (bottle_message (p.drinker.peer r) r o)) e)
        (after_give_bottle p.diner p.drinker r (p.drinker.peer r) x here refl) (for_its_end p.drinker r (holds p.drinker r) held_here) h
bottle_apart plan a p bottles.Drink may h = quiet_apart plan a p (after_bottle_rule p bottles.Drink) refl ((like_drinking p.drinker).held p.diner) h
bottle_apart plan a p bottles.Withdraw may h = quiet_apart plan a p (after_bottle_rule p bottles.Withdraw) refl ((like_withdrawn p.drinker).held p.diner) h
bottle_apart plan a p (bottles.Finish writes) may h = quiet_apart plan a p (after_bottle_rule p (bottles.Finish writes)) refl ((like_finished p.drinker writes).held p.diner) h

-- ---- frames

unbroken : (x : Option LinkFault) (b : Bool) → link_fault_or x b ≡ None → b ≡ false
unbroken None true e = absurd cc
unbroken None false e = refl
unbroken (Some fault) b e = absurd cc

-- what is fresh of a frame that isn't refused is shared, and doesn't wait once the count is used
pub fresh_is_apart : (shared held : Thing → Bool) (l : LinkState) (f : Fields) (m : Msg) → fault_among shared held l f ≡ None → arrival_at l f ≡ arrival.Fresh m →
    (shared (thing_of m) ≡ true) × (waits (thing_of m) (left_by l f.count) ≡ false)
fresh_is_apart shared held l f m fine fresh = of (arrives l.receiving f.number f.msg)
  where
    of : Arrives l.receiving f.number f.msg → (shared (thing_of m) ≡ true) × (waits (thing_of m) (left_by l f.count) ≡ false)
    of (Brings n is next fresh_too one) =
        let same_one : n ≡ m = cc in
        let this : next_of l f ≡ Some m = ap (λ b. cond b f.msg None) (eq-eqb f.number (l.receiving.taken + 1) next) ∙ is ∙ ap Some same_one in
        no_breach (shared (thing_of m)) (held (thing_of m)) (waits (thing_of m) (left_by l f.count))
        (unbroken (fault_of l f) (breach_among shared held l f.count m) (ap (λ o. link_fault_or (fault_of l f) (option_map_or (breach_among shared held l f.count) o false)) (sym this) ∙ fine))
    of (BringsNone nothing stays) = let none : Some m ≡ None = ap brought (sym fresh) ∙ nothing in absurd cc

-- a message is of what its two offices share
pub from_its_end : (plan : PlanValue) (a v : ℕ) (p : Pairs) (m : Msg) → ((r : ℕ) → p.drinker.peer r ≡ peer plan a r) → is_shared plan a v (thing_of m) ≡ true → IsFrom p.drinker.peer v m
from_its_end plan a v p msg.AskFork peers e = tt
from_its_end plan a v p msg.Fork peers e = tt
from_its_end plan a v p (msg.AskBottle r) peers e = peers r ∙ peer_is plan r a v e
from_its_end plan a v p (msg.Bottle r x) peers e = peers r ∙ peer_is plan r a v e

-- a message comes
message_apart : (plan : PlanValue) (a v : ℕ) (p : Pairs) (l' : LinkState) (m : Msg) → IsLeft (p.link v) l' → is_shared plan a v (thing_of m) ≡ true → waits (thing_of m) l'.sending.waiting ≡ false → StandApart plan a p → AreApart plan a (arrived p v l' (arrival.Fresh m))
message_apart plan a v p l' m less shared none h =
    came_apart plan a p (arrived p v l' (arrival.Fresh m)) v l' m refl (after_message p.diner p.drinker v m (from_its_end plan a v p m h.peers shared)) less shared none h.apart

-- a frame's own message, if it brings one
frame_apart : (plan : PlanValue) (a : ℕ) (p : Pairs) (f : Fields) → frame_fault plan a p f ≡ None → StandApart plan a p → AreApart plan a (after_frame p f)
frame_apart plan a p f fine h = of (arrival_of p f) refl
  where
    l : LinkState
    l = p.link f.from

    new : LinkState
    new = after_arrival l f

    less : IsLeft l new
    less t = count_carrying-drop t (f.count - l.sending.acked) l.sending.waiting

    of : (x : Arrival) → arrival_of p f ≡ x → AreApart plan a (arrived p f.from new x)
    of (arrival.Fresh m) e =
        let it = fresh_is_apart (is_shared plan a f.from) (held p f.from) l f m (passed plan a p f fine).1 e in
        message_apart plan a f.from p new m less it.0 it.1 h
    of arrival.Acked e = left_apart plan a p (arrived p f.from new arrival.Acked) f.from new refl (λ u t. refl) less h.apart
    of arrival.Kept e = left_apart plan a p (arrived p f.from new arrival.Kept) f.from new refl (λ u t. refl) less h.apart
    of arrival.Repeat e = left_apart plan a p (arrived p f.from new arrival.Repeat) f.from new refl (λ u t. refl) less h.apart
    of arrival.Early e = left_apart plan a p (arrived p f.from new arrival.Early) f.from new refl (λ u t. refl) less h.apart

-- what follows is no breach, and what is thrown out brings nothing
kept_apart : (plan : PlanValue) (a v : ℕ) (p : Pairs) (o : Option Msg) → follows plan a v p ≡ o → StandApart plan a p → AreApart plan a (arrived p v (link_then (p.link v) o) (as_arrival o))
kept_apart plan a v p None e h = left_apart plan a p (arrived p v (link_then (p.link v) None) arrival.Acked) v (link_then (p.link v) None) refl (λ u t. refl) (λ t. omega arith) h.apart
kept_apart plan a v p (Some m) e h =
    let l = p.link v in
    let it = no_breach (is_shared plan a v (thing_of m)) (held p v (thing_of m)) (waits (thing_of m) (left_by l l.sending.acked))
    (follows_unbreached (breach_among (is_shared plan a v) (held p v) l l.sending.acked) (next_kept l.receiving) m e) in
    let none : l.sending.acked - l.sending.acked ≡ 0 = omega arith in
    message_apart plan a v p (link_then l (Some m)) m (λ t. omega arith) it.0 (ap (λ n. waits (thing_of m) (drop n l.sending.waiting)) (sym none) ∙ it.1) h

-- ---- any step

pub peer_stays : (p : Pairs) (step : PairStep) → (pair_after p step).drinker.peer ≡ p.drinker.peer
peer_stays p Stays = refl
peer_stays p (ByFork rule) = refl
peer_stays p (ByBottle (bottles.Start session)) = (like_started p.drinker session).peer
peer_stays p (ByBottle (bottles.AskBottle r)) = refl
peer_stays p (ByBottle (bottles.GiveBottle r here)) = refl
peer_stays p (ByBottle bottles.Drink) = refl
peer_stays p (ByBottle bottles.Withdraw) = refl
peer_stays p (ByBottle (bottles.Finish writes)) = (like_finished p.drinker writes).peer
peer_stays p (ByFrame f) = (same_records p.drinker (arrival_of p f)).1
peer_stays p (ByKept v o) = (same_records p.drinker (as_arrival o)).1

step_apart : (plan : PlanValue) (a : ℕ) (p : Pairs) (step : PairStep) → MayStep plan a p step → StandApart plan a p → AreApart plan a (pair_after p step)
step_apart plan a p Stays may h = h.apart
step_apart plan a p (ByFork rule) may h = fork_apart plan a p rule may h.apart
step_apart plan a p (ByBottle rule) may h = bottle_apart plan a p rule may h.apart
step_apart plan a p (ByFrame f) may h = frame_apart plan a p f may h
step_apart plan a p (ByKept v o) may h = kept_apart plan a v p o may h

step_stands : (plan : PlanValue) (a : ℕ) (p : Pairs) (step : PairStep) → MayStep plan a p step → StandApart plan a p → StandApart plan a (pair_after p step)
step_stands plan a p step may h = record {
  peers = λ r. ap (λ (f : ℕ → ℕ). f r) (peer_stays p step) ∙ h.peers r;
  apart = step_apart plan a p step may h;
}

-- and what follows it
pub still_apart : (plan : PlanValue) (a : ℕ) (p : Pairs) (step : PairStep) → MayStep plan a p step → StandApart plan a p → StandApart plan a (all_after plan a p step)
still_apart plan a p step may h = through_all plan a (StandApart plan a) (λ q v o e k. step_stands plan a q (ByKept v o) e k) p step (step_stands plan a p step may h)

-- ---- at the start

pub apart_at_start : (plan : PlanValue) (a : ℕ) → IsConsistent plan → StandApart plan a (opened plan a)
apart_at_start plan a c = record { peers = λ r. refl; apart = λ v t. omega (arith, ap num (held_at_start plan a v t c), few (is_shared plan a v t) (starts_here plan a v t)) }
  where
    few : (b c : Bool) → num (b && c) ≤ num b
    few true true = omega arith
    few true false = omega arith
    few false c = omega arith
