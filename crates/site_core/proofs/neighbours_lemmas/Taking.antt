-- What is taken with a frame, at an office and in its channel to the sender: both go on alike.
use Rattle.std.proofs.Common.{◌≡◌, ℕ, zero, suc, ◌+◌, ◌<◌, Bool, true, false, cond, ◌&&◌, List, [], ◌∷◌, length, get_or, drop, Option, None, Some, refl, sym, ap, subst, ◌∙◌, set}
use Rattle.std.specs.Prelude.{◌==◌, is_some}
use Rattle.std.proofs.lemmas.Bool.{eq-eqb}
use Rattle.std.proofs.lemmas.List.{drop_more}
use mathlib.Core.Path.{fun_ext}
use Rattle.bottle_values.specs.Lists.{is_among}
use Rattle.bottle_values.specs.Maps.{put}
use Rattle.bottle_values.specs.MapLaws.{put_cases, put_other, put_at, put_same}
use Rattle.frame_codec.specs.declared.message.Msg.{Msg}
use Rattle.frame_codec.specs.declared.message.Msg.TheVariants as msg
use Rattle.frame_codec.specs.Frame.{Fields}
use Rattle.office_map.specs.PlanValue.{PlanValue, are_neighbours, has_ends}
use Rattle.office_map.specs.NeighbourLaws.{among_records, among_neighbours, is_first_end, peer_is}
use Rattle.window_link.specs.declared.arrival.Arrival.{Arrival}
use Rattle.window_link.specs.declared.arrival.Arrival.TheVariants as arrival
use Rattle.window_link.specs.Links.{LinkState, arrival_at, after_arrival}
use Rattle.token_channel.specs.declared.thing.Thing.{Thing}
use Rattle.token_channel.specs.Things.{thing_of}
use Rattle.token_channel.specs.Places.{holds, shares}
use Rattle.token_channel.specs.Ends.{is_shared}
use Rattle.token_channel.specs.Channels.{ChannelState, fault_among, channel_fault, follows_among, link_then, before, following, most_following, with_following, taken_with, held_after, held_with, WhatComesIsHeld, WhatComesWasAway, WhatFollowsIsHeld, WhatFollowsWasAway, WhatIsSharedStays}
use Rattle.token_channel.specs.Channels as channels
use Rattle.dining_core.specs.Diners.{Diner}
use Rattle.dining_core.specs.refinement.Tables.{TableValue, diner_of}
use Rattle.drinking_core.specs.Drinkers.{Drinker}
use Rattle.drinking_core.specs.refinement.Bars.{BarValue, drinker_of}
use Rattle.site_core.specs.neighbours.Pairs.{Pairs, held, held_by, frame_fault, fork_came, bottle_came, diner_after, drinker_after, arrived, arrival_of, after_frame, follows, as_arrival, after_kept, followed, settled, after_taking}
use Rattle.site_core.specs.neighbours.refinement.Slots.{Slot, slot_at, link_in, slot_taking, IsChannelTo, IsSlotOf}
use Rattle.site_core.specs.neighbours.refinement.PairsOfCode.{PairsValue, pairs_of, ArePairs, MayBring, MayAllBring, forks_came, bottles_came}
use Rattle.site_core.specs.neighbours.HeldLaws as updates
use Rattle.site_core.specs.neighbours.HeldLaws.{IsFrom}
use Rattle.site_core.specs.neighbours.PairLaws.{passed, same_records, followed_more}
use Rattle.site_core.proofs.neighbours_lemmas.PairUpdates.{pairs_value, still_pairs, made, pairs_are}
use Rattle.site_core.proofs.neighbours_lemmas.SlotUpdates.{held_after_same, links_taking, slots_taking}

-- ---- an office and its channel to v

-- they have the same link, and of what the two offices share the same is held
pub record Agrees (plan : PlanValue) (me v : ℕ) (p : Pairs) (c : ChannelState) : Type 0 where
  pub near : is_among p.diner.neighbours v ≡ true
  pub ours : (r : ℕ) → has_ends plan r me v ≡ true → is_among p.drinker.records r ≡ true
  pub peers : (r : ℕ) → has_ends plan r me v ≡ true → p.drinker.peer r ≡ v
  pub same_things : (t : Thing) → shares c.places t ≡ is_shared plan me v t
  pub same_held : (t : Thing) → holds c.places t ≡ held p v t
  pub same_link : p.link v ≡ c.link

-- what arrived is shared with v, and wasn't held
abbrev pub WasAway : PlanValue → ℕ → ℕ → Pairs → Arrival → Type 0
WasAway plan me v p a = (m : Msg) → a ≡ arrival.Fresh m → (is_shared plan me v (thing_of m) ≡ true) × (held p v (thing_of m) ≡ false)

from : (plan : PlanValue) (me v : ℕ) (p : Pairs) (c : ChannelState) (m : Msg) → Agrees plan me v p c → is_shared plan me v (thing_of m) ≡ true → IsFrom p.drinker.peer v m
from plan me v p c msg.AskFork g sh = tt
from plan me v p c msg.Fork g sh = tt
from plan me v p c (msg.AskBottle r) g sh = g.peers r sh
from plan me v p c (msg.Bottle r x) g sh = g.peers r sh

away : (p : Pairs) (v r : ℕ) (b : Bool) → p.drinker.peer r ≡ v → ((p.drinker.peer r == v) && b) ≡ false → b ≡ false
away p v r b e h = ap (λ x. x && b) (sym (eq-eqb _ v e)) ∙ h

may_bring : (plan : PlanValue) (me v : ℕ) (p : Pairs) (c : ChannelState) (m : Msg) → Agrees plan me v p c → is_shared plan me v (thing_of m) ≡ true → held p v (thing_of m) ≡ false → MayBring p.diner p.drinker v m
may_bring plan me v p c msg.AskFork g sh un = (g.near, un)
may_bring plan me v p c msg.Fork g sh un = (g.near, un)
may_bring plan me v p c (msg.AskBottle r) g sh un = (g.ours r sh, away p v r _ (g.peers r sh) un)
may_bring plan me v p c (msg.Bottle r x) g sh un = (g.ours r sh, away p v r _ (g.peers r sh) un)

same_neighbours : (d : Diner) (v : ℕ) (a : Arrival) → (diner_after d v a).neighbours ≡ d.neighbours
same_neighbours d v (arrival.Fresh msg.AskFork) = refl
same_neighbours d v (arrival.Fresh msg.Fork) = refl
same_neighbours d v (arrival.Fresh (msg.AskBottle r)) = refl
same_neighbours d v (arrival.Fresh (msg.Bottle r x)) = refl
same_neighbours d v arrival.Acked = refl
same_neighbours d v arrival.Repeat = refl
same_neighbours d v arrival.Kept = refl
same_neighbours d v arrival.Early = refl

-- what the office holds after something arrived from v
held_then : (plan : PlanValue) (me v : ℕ) (p : Pairs) (c : ChannelState) (a : Arrival) (l : LinkState) → Agrees plan me v p c → WasAway plan me v p a → (u : ℕ) (t : Thing) → held (arrived p v l a) u t ≡ put (held p) v (held_after (held p v) a) u t
held_then plan me v p c a l g new u t = updates.after_arrival p.diner p.drinker v a (λ m e. from plan me v p c m g (new m e).0) u t

-- where the same arrives in both, they still agree
still_agrees : (plan : PlanValue) (me v : ℕ) (p : Pairs) (c c' : ChannelState) (a : Arrival) (l : LinkState) → Agrees plan me v p c → WasAway plan me v p a →
    ((t : Thing) → shares c'.places t ≡ shares c.places t) → ((t : Thing) → holds c'.places t ≡ held_after (holds c.places) a t) → c'.link ≡ l → Agrees plan me v (arrived p v l a) c'
still_agrees plan me v p c c' a l g new sh hd e = record {
  near = ap (λ (ns : List ℕ). is_among ns v) (same_neighbours p.diner v a) ∙ g.near;
  ours = λ r h. ap (λ (rs : List ℕ). is_among rs r) (same_records p.drinker a).0 ∙ g.ours r h;
  peers = λ r h. ap (λ (f : ℕ → ℕ). f r) (same_records p.drinker a).1 ∙ g.peers r h;
  same_things = λ t. sh t ∙ g.same_things t;
  same_held = λ t. hd t ∙ held_after_same (holds c.places) (held p v) a t g.same_held ∙ sym (held_then plan me v p c a l g new v t ∙ ap (λ (h : Thing → Bool). h t) (put_same (held p) v (held_after (held p v) a)));
  same_link = put_same p.link v l ∙ sym e;
}

-- ---- both go on

-- these messages of v are held, and the link to v is this
abbrev pub with_messages : Pairs → ℕ → List Msg → LinkState → Pairs
with_messages p v ms l = made (forks_came p.diner v ms) (bottles_came p.drinker ms) (put p.link v l)

-- by these messages the office goes on to q, and its channel to d
pub record GoOn (plan : PlanValue) (me v : ℕ) (p : Pairs) (ms : List Msg) (q : Pairs) (d : ChannelState) : Type 0 where
  pub agrees : Agrees plan me v q d
  pub is : q ≡ with_messages p v ms d.link
  pub may : MayAllBring p.diner p.drinker v ms
  pub others : (u : ℕ) → (u ≡ v → ⊥) → (t : Thing) → held q u t ≡ held p u t

goes_on : (plan : PlanValue) (me v : ℕ) (p q q' : Pairs) (ms ms' : List Msg) (d d' : ChannelState) → ms' ≡ ms → q' ≡ q → d' ≡ d → GoOn plan me v p ms q d → GoOn plan me v p ms' q' d'
goes_on plan me v p q q' ms ms' d d' em eq ed g =
    subst (λ (x : List Msg). GoOn plan me v p x q' d') (sym em) (subst (λ (x : Pairs). GoOn plan me v p ms x d') (sym eq) (subst (λ (x : ChannelState). GoOn plan me v p ms q x) (sym ed) g))

put_held : (link : ℕ → LinkState) (v : ℕ) (l : LinkState) → link v ≡ l → link ≡ put link v l
put_held link v l e = fun_ext (λ u. put_cases link v l u (λ x. link u ≡ x) (λ uv. ap link uv ∙ e) (λ ne. refl))

put_twice : (link : ℕ → LinkState) (v : ℕ) (l k : LinkState) → put (put link v l) v k ≡ put link v k
put_twice link v l k = fun_ext (λ u. put_cases link v k u (λ x. put (put link v l) v k u ≡ x) (λ uv. put_at (put link v l) v k u uv) (λ ne. put_other (put link v l) v k u ne ∙ put_other link v l u ne))

-- nothing follows
at_once : (plan : PlanValue) (me v : ℕ) (p : Pairs) (c : ChannelState) → Agrees plan me v p c → GoOn plan me v p [] p c
at_once plan me v p c g = record { agrees = g; is = ap (made p.diner p.drinker) (put_held p.link v c.link g.same_link); may = tt; others = λ u ne t. refl }

-- what arrived brought no message
no_message : (plan : PlanValue) (me v : ℕ) (p : Pairs) (c d : ChannelState) (a : Arrival) (l : LinkState) → diner_after p.diner v a ≡ p.diner → drinker_after p.drinker a ≡ p.drinker → d.link ≡ l → Agrees plan me v p c → WasAway plan me v p a →
    Agrees plan me v (arrived p v l a) d → GoOn plan me v p [] (arrived p v l a) d
no_message plan me v p c d a l ed ek el g new h = record {
  agrees = h;
  is = ap (λ (x : Diner). made x (drinker_after p.drinker a) (put p.link v l)) ed ∙ ap (λ (x : Drinker). made p.diner x (put p.link v l)) ek ∙ ap (λ (x : LinkState). made p.diner p.drinker (put p.link v x)) (sym el);
  may = tt;
  others = λ u ne t. held_then plan me v p c a l g new u t ∙ ap (λ (f : Thing → Bool). f t) (put_other (held p) v (held_after (held p v) a) u ne);
}

-- a message, and then others
one_more : (plan : PlanValue) (me v : ℕ) (p q : Pairs) (c d : ChannelState) (m : Msg) (ms : List Msg) (l : LinkState) → Agrees plan me v p c → WasAway plan me v p (arrival.Fresh m) →
    GoOn plan me v (arrived p v l (arrival.Fresh m)) ms q d → GoOn plan me v p (m ∷ ms) q d
one_more plan me v p q c d m ms l g new h =
    let it = new m refl in
    record {
      agrees = h.agrees;
      is = h.is ∙ ap (made (forks_came (fork_came p.diner v m) v ms) (bottles_came (bottle_came p.drinker m) ms)) (put_twice p.link v l d.link);
      may = (may_bring plan me v p c m g it.0 it.1, h.may);
      others = λ u ne t. h.others u ne t ∙ held_then plan me v p c (arrival.Fresh m) l g new u t ∙ ap (λ (f : Thing → Bool). f t) (put_other (held p) v (held_after (held p v) (arrival.Fresh m)) u ne);
    }

-- ---- what was kept

-- the same message follows in both
same_follows : (plan : PlanValue) (me v : ℕ) (p : Pairs) (c : ChannelState) → Agrees plan me v p c → follows plan me v p ≡ channels.follows c
same_follows plan me v p c g =
    ap (follows_among (is_shared plan me v) (held p v)) g.same_link ∙ ap (λ (h : Thing → Bool). follows_among (is_shared plan me v) h c.link) (fun_ext (λ t. sym (g.same_held t)))
    ∙ ap (λ (s : Thing → Bool). follows_among s (holds c.places) c.link) (fun_ext (λ t. sym (g.same_things t)))

held_with_is : (h : Thing → Bool) (o : Option Msg) (t : Thing) → held_with h o t ≡ held_after h (as_arrival o) t
held_with_is h None t = refl
held_with_is h (Some m) t = refl

followed_was_away : (plan : PlanValue) (me v : ℕ) (p : Pairs) (o : Option Msg) → WhatFollowsWasAway → follows plan me v p ≡ o → WasAway plan me v p (as_arrival o)
followed_was_away plan me v p None new e m k = absurd cc
followed_was_away plan me v p (Some n) new e m k =
    let same : n ≡ m = cc in
    new (is_shared plan me v) (held p v) (p.link v) m (e ∙ ap Some same)

after_kept_is : (plan : PlanValue) (me v : ℕ) (p : Pairs) (c : ChannelState) (o : Option Msg) → Agrees plan me v p c → follows plan me v p ≡ o → after_kept plan me v p ≡ arrived p v (link_then c.link o) (as_arrival o)
after_kept_is plan me v p c o g e =
    ap (λ (x : Option Msg). arrived p v (link_then (p.link v) x) (as_arrival x)) e ∙ ap (λ (l : LinkState). arrived p v (link_then l o) (as_arrival o)) g.same_link

agrees_after_kept : (plan : PlanValue) (me v : ℕ) (p : Pairs) (c : ChannelState) (o : Option Msg) → WhatFollowsWasAway → WhatFollowsIsHeld → WhatIsSharedStays → Agrees plan me v p c → channels.follows c ≡ o →
    Agrees plan me v (arrived p v (link_then c.link o) (as_arrival o)) (channels.after_kept c)
agrees_after_kept plan me v p c o new kept stays g e =
    still_agrees plan me v p c (channels.after_kept c) (as_arrival o) (link_then c.link o) g (followed_was_away plan me v p o new (same_follows plan me v p c g ∙ e)) (λ t. (stays c t).2)
    (λ t. kept c t ∙ ap (λ (x : Option Msg). held_with (holds c.places) x t) e ∙ held_with_is (holds c.places) o t) (ap (link_then c.link) e)

-- one step, where so much is known of the steps after it
step_alike : (plan : PlanValue) (me v n : ℕ) (p : Pairs) (c : ChannelState) (o : Option Msg) → WhatFollowsWasAway → WhatFollowsIsHeld → WhatIsSharedStays → Agrees plan me v p c → channels.follows c ≡ o →
    ((q : Pairs) (d : ChannelState) → Agrees plan me v q d → GoOn plan me v q (following n d) (followed plan me v n q) (channels.followed n d)) →
    GoOn plan me v p (following (suc n) c) (followed plan me v (suc n) p) (channels.followed (suc n) c)
step_alike plan me v n p c None new kept stays g e later =
    let here : follows plan me v p ≡ None = same_follows plan me v p c g ∙ e in
    let q = arrived p v (link_then c.link None) arrival.Acked in
    goes_on plan me v p q (followed plan me v (suc n) p) [] (following (suc n) c) (channels.after_kept c) (channels.followed (suc n) c)
    (ap (λ (x : Option Msg). before x (following n (channels.after_kept c))) e)
    (ap (λ (x : Option Msg). cond (is_some x) (followed plan me v n (after_kept plan me v p)) (after_kept plan me v p)) here ∙ after_kept_is plan me v p c None g here)
    (ap (λ (x : Option Msg). cond (is_some x) (channels.followed n (channels.after_kept c)) (channels.after_kept c)) e)
    (no_message plan me v p c (channels.after_kept c) arrival.Acked (link_then c.link None) refl refl (ap (link_then c.link) e) g (followed_was_away plan me v p None new here)
    (agrees_after_kept plan me v p c None new kept stays g e))
step_alike plan me v n p c (Some m) new kept stays g e later =
    let here : follows plan me v p ≡ Some m = same_follows plan me v p c g ∙ e in
    let l = link_then c.link (Some m) in
    let q = arrived p v l (arrival.Fresh m) in
    let d = channels.after_kept c in
    goes_on plan me v p (followed plan me v n q) (followed plan me v (suc n) p) (m ∷ following n d) (following (suc n) c) (channels.followed n d) (channels.followed (suc n) c)
    (ap (λ (x : Option Msg). before x (following n d)) e)
    (followed_more plan me v p (suc n) n refl (ap is_some here) ∙ ap (followed plan me v n) (after_kept_is plan me v p c (Some m) g here))
    (ap (λ (x : Option Msg). cond (is_some x) (channels.followed n d) d) e)
    (one_more plan me v p (followed plan me v n q) c (channels.followed n d) m (following n d) l g (followed_was_away plan me v p (Some m) new here)
    (later q d (agrees_after_kept plan me v p c (Some m) new kept stays g e)))

follow_alike : (plan : PlanValue) (me v n : ℕ) (p : Pairs) (c : ChannelState) → WhatFollowsWasAway → WhatFollowsIsHeld → WhatIsSharedStays → Agrees plan me v p c → GoOn plan me v p (following n c) (followed plan me v n p) (channels.followed n c)
follow_alike plan me v zero p c new kept stays g = at_once plan me v p c g
follow_alike plan me v (suc n) p c new kept stays g =
    step_alike plan me v n p c (channels.follows c) new kept stays g refl (λ q d h. follow_alike plan me v n q d new kept stays h)

-- ---- a frame

same_fault : (plan : PlanValue) (me v : ℕ) (p : Pairs) (c : ChannelState) (f : Fields) → Agrees plan me v p c → channel_fault c f ≡ fault_among (is_shared plan me v) (held p v) (p.link v) f
same_fault plan me v p c f g =
    ap (λ (s : Thing → Bool). fault_among s (holds c.places) c.link f) (fun_ext g.same_things) ∙ ap (λ (h : Thing → Bool). fault_among (is_shared plan me v) h c.link f) (fun_ext g.same_held)
    ∙ ap (λ (l : LinkState). fault_among (is_shared plan me v) (held p v) l f) (sym g.same_link)

-- what the five laws of channels say
pub record Laws : Type 0 where
  pub comes_away : WhatComesWasAway
  pub comes_held : WhatComesIsHeld
  pub follows_away : WhatFollowsWasAway
  pub follows_held : WhatFollowsIsHeld
  pub stays : WhatIsSharedStays

-- one that was this is taken alike
taken_as : (plan : PlanValue) (me : ℕ) (p : Pairs) (c : ChannelState) (f : Fields) (a : Arrival) → Laws → Agrees plan me f.from (arrived p f.from (after_arrival c.link f) a) (channels.after_frame c f) → WasAway plan me f.from p a → Agrees plan me f.from p c →
    after_frame p f ≡ arrived p f.from (after_arrival c.link f) a →
    GoOn plan me f.from p (with_following a (following most_following (channels.after_frame c f))) (settled plan me f.from a (after_frame p f)) (channels.settled a (channels.after_frame c f))
taken_as plan me p c f (arrival.Fresh m) laws h new g is =
    let q = arrived p f.from (after_arrival c.link f) (arrival.Fresh m) in
    let d = channels.after_frame c f in
    goes_on plan me f.from p (followed plan me f.from most_following q) (followed plan me f.from most_following (after_frame p f)) (m ∷ following most_following d) (m ∷ following most_following d) (channels.followed most_following d) (channels.followed most_following d)
    refl (ap (followed plan me f.from most_following) is) refl
    (one_more plan me f.from p (followed plan me f.from most_following q) c (channels.followed most_following d) m (following most_following d) (after_arrival c.link f) g new
    (follow_alike plan me f.from most_following q d laws.follows_away laws.follows_held laws.stays h))
taken_as plan me p c f arrival.Acked laws h new g is =
    goes_on plan me f.from p (arrived p f.from (after_arrival c.link f) arrival.Acked) (after_frame p f) [] [] (channels.after_frame c f) (channels.after_frame c f) refl is refl (no_message plan me f.from p c (channels.after_frame c f) arrival.Acked (after_arrival c.link f) refl refl refl g new h)
taken_as plan me p c f arrival.Repeat laws h new g is =
    goes_on plan me f.from p (arrived p f.from (after_arrival c.link f) arrival.Repeat) (after_frame p f) [] [] (channels.after_frame c f) (channels.after_frame c f) refl is refl (no_message plan me f.from p c (channels.after_frame c f) arrival.Repeat (after_arrival c.link f) refl refl refl g new h)
taken_as plan me p c f arrival.Kept laws h new g is =
    goes_on plan me f.from p (arrived p f.from (after_arrival c.link f) arrival.Kept) (after_frame p f) [] [] (channels.after_frame c f) (channels.after_frame c f) refl is refl (no_message plan me f.from p c (channels.after_frame c f) arrival.Kept (after_arrival c.link f) refl refl refl g new h)
taken_as plan me p c f arrival.Early laws h new g is =
    goes_on plan me f.from p (arrived p f.from (after_arrival c.link f) arrival.Early) (after_frame p f) [] [] (channels.after_frame c f) (channels.after_frame c f) refl is refl (no_message plan me f.from p c (channels.after_frame c f) arrival.Early (after_arrival c.link f) refl refl refl g new h)

taken_alike : (plan : PlanValue) (me : ℕ) (p : Pairs) (c : ChannelState) (f : Fields) → Laws → Agrees plan me f.from p c → fault_among (is_shared plan me f.from) (held p f.from) (p.link f.from) f ≡ None →
    GoOn plan me f.from p (taken_with c f) (after_taking plan me p f) (channels.after_taking c f)
taken_alike plan me p c f laws g none =
    let v = f.from in
    let a = arrival_at c.link f in
    let l = after_arrival c.link f in
    let told : arrival_of p f ≡ a = ap (λ (x : LinkState). arrival_at x f) g.same_link in
    let new : WasAway plan me v p a = λ m e. laws.comes_away (is_shared plan me v) (held p v) (p.link v) f m none (told ∙ e) in
    let is : after_frame p f ≡ arrived p v l a = ap (λ (x : LinkState). arrived p v (after_arrival x f) (arrival_at x f)) g.same_link in
    let h = still_agrees plan me v p c (channels.after_frame c f) a l g new (λ t. (laws.stays c t).1 f) (λ t. laws.comes_held c f t (same_fault plan me v p c f g ∙ none)) refl in
    goes_on plan me v p (settled plan me v a (after_frame p f)) (after_taking plan me p f) (taken_with c f) (taken_with c f) (channels.after_taking c f) (channels.after_taking c f)
    refl (ap (λ (x : Arrival). settled plan me v x (after_frame p f)) told) refl (taken_as plan me p c f a laws h new g is)

-- ---- the pairs of the code

-- there is a channel to who sent a frame that isn't refused
pub channel_there : (p : PairsValue) (v : ℕ) → ArePairs p → are_neighbours p.plan p.me v ≡ true → is_some (slot_at p.channels v) ≡ true
channel_there p v are near = go (slot_at p.channels v) (are.channels v)
  where
    go : (s : Slot) → IsSlotOf p.plan p.me v (held (pairs_of p) v) s → is_some s ≡ true
    go None none = sym none ∙ near
    go (Some c) h = refl

code_agrees : (p : PairsValue) (v : ℕ) (c : ChannelState) → ArePairs p → slot_at p.channels v ≡ Some c → Agrees p.plan p.me v (pairs_of p) c
code_agrees p v c are is =
    let to : (are_neighbours p.plan p.me v ≡ true) × IsChannelTo p.plan p.me v (held (pairs_of p) v) c = subst (IsSlotOf p.plan p.me v (held (pairs_of p) v)) is (are.channels v) in
    record {
      near = ap (λ (l : List ℕ). is_among l v) are.neighbours ∙ among_neighbours p.plan p.me v are.consistent to.0;
      ours = λ r h. ap (λ (l : List ℕ). is_among l r) are.records ∙ among_records p.plan p.me r (is_first_end p.plan r p.me v h);
      peers = λ r h. are.peers r ∙ peer_is p.plan r p.me v h;
      same_things = to.1.shared;
      same_held = to.1.held;
      same_link = ap (link_in p.plan.run p.plan.version p.me v) is;
    }

-- the channel refuses it no more than the office does
pub passes_there : (p : PairsValue) (f : Fields) (c : ChannelState) → ArePairs p → frame_fault p.plan p.me (pairs_of p) f ≡ None → slot_at p.channels f.from ≡ Some c → channel_fault c f ≡ None
passes_there p f c are none is = same_fault p.plan p.me f.from (pairs_of p) c f (code_agrees p f.from c are is) ∙ (passed p.plan p.me (pairs_of p) f none).1

neighbours_stay : (d : Diner) (v : ℕ) (ms : List Msg) → (forks_came d v ms).neighbours ≡ d.neighbours
neighbours_stay d v [] = refl
neighbours_stay d v (m ∷ ms) = neighbours_stay (fork_came d v m) v ms ∙ same_neighbours d v (arrival.Fresh m)

records_stay : (k : Drinker) (ms : List Msg) → ((bottles_came k ms).records ≡ k.records) × ((bottles_came k ms).peer ≡ k.peer)
records_stay k [] = (refl, refl)
records_stay k (m ∷ ms) =
    let later = records_stay (bottle_came k m) ms in
    let here = same_records k (arrival.Fresh m) in
    (later.0 ∙ here.0, later.1 ∙ here.1)

-- what is known of the code, where its channel to v took a frame with these messages
pub record TookIn (p : PairsValue) (v : ℕ) (f : Fields) (a : Arrival) (ms : List Msg) (channels' : List Slot) : Type 0 where
  pub told : a ≡ arrival_of (pairs_of p) f
  pub may : MayAllBring (pairs_of p).diner (pairs_of p).drinker v ms
  pub are : (table' : TableValue) (bar' : BarValue) → diner_of table' ≡ forks_came (pairs_of p).diner v ms → drinker_of bar' ≡ bottles_came (pairs_of p).drinker ms → ArePairs (pairs_value p.plan p.me table' bar' channels')
  pub is : (table' : TableValue) (bar' : BarValue) → diner_of table' ≡ forks_came (pairs_of p).diner v ms → drinker_of bar' ≡ bottles_came (pairs_of p).drinker ms →
      pairs_of (pairs_value p.plan p.me table' bar' channels') ≡ after_taking p.plan p.me (pairs_of p) f

took_from : (p : PairsValue) (f : Fields) (c : ChannelState) (channels' : List Slot) → Laws → ArePairs p → frame_fault p.plan p.me (pairs_of p) f ≡ None → slot_at p.channels f.from ≡ Some c →
    f.from < length p.channels → channels' ≡ set p.channels f.from (slot_taking (slot_at p.channels f.from) f) → TookIn p f.from f (arrival_at c.link f) (taken_with c f) channels'
took_from p f c channels' laws are none is lt new =
    let v = f.from in
    let o = pairs_of p in
    let ms = taken_with c f in
    let c' = channels.after_taking c f in
    let g = code_agrees p v c are is in
    let h = taken_alike p.plan p.me o c f laws g (passed p.plan p.me o f none).1 in
    let there : (u : ℕ) (t : Thing) → held_by (forks_came o.diner v ms) (bottles_came o.drinker ms) u t ≡ put (held o) v (holds c'.places) u t = λ u t.
    ap (λ (x : Pairs). held x u t) (sym h.is) ∙ put_cases (held o) v (holds c'.places) u (λ (k : Thing → Bool). held (after_taking p.plan p.me o f) u t ≡ k t)
    (λ uv. ap (λ w. held (after_taking p.plan p.me o f) w t) uv ∙ sym (h.agrees.same_held t)) (λ ne. h.others u ne t) in
    let like = records_stay o.drinker ms in
    record {
      told = sym (ap (λ (x : LinkState). arrival_at x f) g.same_link);
      may = h.may;
      are = λ table' bar' ed ek.
          still_pairs p table' bar' channels' (forks_came o.diner v ms) (bottles_came o.drinker ms) (put (held o) v (holds c'.places)) are ed ek (neighbours_stay o.diner v ms) like.0 like.1 there
          (slots_taking p.plan p.me (held o) p.channels channels' v c f lt is new (λ t. h.agrees.same_things t ∙ sym (g.same_things t)) are.channels);
      is = λ table' bar' ed ek.
          pairs_are p.plan p.me table' bar' channels' (forks_came o.diner v ms) (bottles_came o.drinker ms) (put o.link v c'.link) ed ek (links_taking p.plan.run p.plan.version p.me p.channels channels' v c f lt is new) ∙ sym h.is;
    }

-- as the code has it, which knows who sent the frame by a number of its own
pub took_in : (p : PairsValue) (v : ℕ) (f : Fields) (a : Arrival) (ms : List Msg) (channels' : List Slot) → Laws → ArePairs p → frame_fault p.plan p.me (pairs_of p) f ≡ None → v ≡ f.from →
    v < length p.channels → ((c : ChannelState) → slot_at p.channels v ≡ Some c → a ≡ arrival_at c.link f) → ((c : ChannelState) → slot_at p.channels v ≡ Some c → ms ≡ taken_with c f) →
    channels' ≡ set p.channels v (slot_taking (slot_at p.channels v) f) → TookIn p v f a ms channels'
took_in p v f a ms channels' laws are none e lt told taken new =
    let near = (passed p.plan p.me (pairs_of p) f none).0 in
    go (slot_at p.channels f.from) refl (channel_there p f.from are near)
  where
    go : (s : Slot) → slot_at p.channels f.from ≡ s → is_some s ≡ true → TookIn p v f a ms channels'
    go None is some = absurd cc
    go (Some c) is some =
        let here : slot_at p.channels v ≡ Some c = ap (slot_at p.channels) e ∙ is in
        let it = took_from p f c channels' laws are none is (subst (λ w. w < length p.channels) e lt) (new ∙ ap (λ w. set p.channels w (slot_taking (slot_at p.channels w) f)) e) in
        subst (λ w. TookIn p w f a ms channels') (sym e) (subst (λ (x : Arrival). TookIn p f.from f x ms channels') (sym (told c here)) (subst (λ (x : List Msg). TookIn p f.from f (arrival_at c.link f) x channels') (sym (taken c here)) it))

-- the next of the messages that are left
pub next_left : (ms : List Msg) (i : ℕ) (m : Msg) → i < length ms → m ≡ get_or ms i m → drop i ms ≡ m ∷ drop (i + 1) ms
next_left ms i m lt is = drop_more ms i m lt ∙ ap (λ x. x ∷ drop (i + 1) ms) (sym is)
