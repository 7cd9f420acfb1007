-- What a frame brings is held after it.
use Rattle.std.proofs.Common.{◌≡◌, ℕ, ◌+◌, Bool, true, false, cond, List, Option, Some, None, refl, sym, ap, ◌∙◌, arith}
use Rattle.std.proofs.lemmas.Bool.Decides.{nat_tests}
use Rattle.std.specs.Prelude.{◌==◌, nat_le, not, ◌||◌}
use Rattle.std.specs.Option.{option_map_or}
use Rattle.std.proofs.lemmas.Bool.{eqb-true}
use Rattle.frame_codec.specs.declared.message.Msg.{Msg}
use Rattle.window_link.specs.declared.arrival.Arrival.{Arrival}
use Rattle.window_link.specs.declared.arrival.Arrival.TheVariants.{Fresh, Repeat, Kept, Early}
use Rattle.window_link.specs.Limits.{most_kept}
use Rattle.window_link.specs.declared.fault.LinkFault.{LinkFault}
use Rattle.window_link.specs.Windows.{arrival, next_kept}
use Rattle.window_link.specs.Links.{brings, fault_of}
use Rattle.token_channel.specs.declared.thing.Thing.{Thing}
use Rattle.token_channel.specs.declared.thing.SharedThing.{SharedThing}
use Rattle.token_channel.specs.Things.{thing_of}
use Rattle.token_channel.specs.Places.{holds, shares, waits}
use Rattle.token_channel.specs.Channels.{ChannelState, with_taken, next_of, left_by, is_breach, breach_of, link_fault_or, held_after, held_with, breach_among, follows, WhatComesIsHeld, WhatComesWasAway, WhatFollowsIsHeld, WhatFollowsWasAway}
use Rattle.token_channel.proofs.ThingsApart.{held-changed}
use Rattle.token_channel.specs.ThingLaws.{no_breach, follows_unbreached}

not_below : (taken : ℕ) → nat_le (taken + 1) taken ≡ false
not_below taken = grind (arith, nat_tests)

-- one that isn't the next
abbrev ahead : ℕ → ℕ → Arrival
ahead taken number = cond (nat_le number (taken + most_kept)) Kept Early

-- the next one is neither a repeat nor early
next_is : (taken number : ℕ) (msg : Msg) → (number == taken + 1) ≡ true → arrival taken number msg ≡ Fresh msg
next_is taken number msg e =
    let n = eqb-true number (taken + 1) e in
    ap (λ b. cond b Repeat (cond (number == taken + 1) (Fresh msg) (ahead taken number))) (ap (λ k. nat_le k taken) n ∙ not_below taken) ∙ ap (λ b. cond b (Fresh msg) (ahead taken number)) e

-- any other one leaves what is held
other_is : (held : Thing → Bool) (t : Thing) (taken number : ℕ) (msg : Msg) → (number == taken + 1) ≡ false → held_after held (arrival taken number msg) t ≡ held t
other_is held t taken number msg e = go (nat_le number taken)
  where
    away : (b : Bool) → held_after held (cond b Kept Early) t ≡ held t
    away true = refl
    away false = refl

    early : (b : Bool) → b ≡ false → held_after held (cond b (Fresh msg) (ahead taken number)) t ≡ held t
    early true h = absurd cc
    early false h = away (nat_le number (taken + most_kept))

    go : (b : Bool) → held_after held (cond b Repeat (cond (number == taken + 1) (Fresh msg) (ahead taken number))) t ≡ held t
    go true = refl
    go false = early (number == taken + 1) e

brought : (places : List SharedThing) (t : Thing) (taken number : ℕ) (msg : Option Msg) → ((m : Msg) → cond (number == taken + 1) msg None ≡ Some m → shares places (thing_of m) ≡ true) →
    holds (with_taken places (cond (number == taken + 1) msg None)) t ≡ held_after (holds places) (brings taken number msg) t
brought places t taken number None h = none (number == taken + 1)
  where
    none : (b : Bool) → holds (with_taken places (cond b None None)) t ≡ holds places t
    none true = refl
    none false = refl
brought places t taken number (Some m) h = go (number == taken + 1) refl
  where
    go : (b : Bool) → (number == taken + 1) ≡ b → holds (with_taken places (cond (number == taken + 1) (Some m) None)) t ≡ held_after (holds places) (arrival taken number m) t
    go true e =
        ap (λ b. holds (with_taken places (cond b (Some m) None)) t) e
        ∙ held-changed places (thing_of m) t true (h m (ap (λ b. cond b (Some m) None) e))
        ∙ sym (ap (λ a. held_after (holds places) a t) (next_is taken number m e))
    go false e = ap (λ b. holds (with_taken places (cond b (Some m) None)) t) e ∙ sym (other_is (holds places) t taken number m e)

-- what isn't refused is shared
unrefused : (c : ChannelState) (count : ℕ) (fault : Option LinkFault) (next : Option Msg) → link_fault_or fault (option_map_or (is_breach c count) next false) ≡ None → (m : Msg) → next ≡ Some m → shares c.places (thing_of m) ≡ true
unrefused c count (Some fault) next e m is = absurd cc
unrefused c count None None e m is = absurd cc
unrefused c count None (Some n) e m is = go (is_breach c count n) refl e
  where
    go : (b : Bool) → is_breach c count n ≡ b → breach_of b ≡ None → shares c.places (thing_of m) ≡ true
    go true h f = absurd cc
    go false h f =
        let same : n ≡ m = cc in
        ap (λ x. shares c.places (thing_of x)) (sym same) ∙ (no_breach (shares c.places (thing_of n)) (holds c.places (thing_of n)) (waits (thing_of n) (left_by c.link count)) h).0

-- and no breach
pub unbreached : (c : ChannelState) (count : ℕ) (fault : Option LinkFault) (next : Option Msg) → link_fault_or fault (option_map_or (is_breach c count) next false) ≡ None → (m : Msg) → next ≡ Some m → is_breach c count m ≡ false
unbreached c count (Some fault) next e m is = absurd cc
unbreached c count None None e m is = absurd cc
unbreached c count None (Some n) e m is = go (is_breach c count n) refl e
  where
    go : (b : Bool) → is_breach c count n ≡ b → breach_of b ≡ None → is_breach c count m ≡ false
    go true h f = absurd cc
    go false h f = let same : n ≡ m = cc in ap (is_breach c count) (sym same) ∙ h

pub comes_held : WhatComesIsHeld
comes_held c f t e = brought c.places t c.link.receiving.taken f.number f.msg (unrefused c f.count (fault_of c.link f) (next_of c.link f) e)

-- a message that is fresh is the next one
fresh_is : (taken number : ℕ) (msg : Option Msg) (m : Msg) → brings taken number msg ≡ Fresh m → cond (number == taken + 1) msg None ≡ Some m
fresh_is taken number None m e = absurd cc
fresh_is taken number (Some n) m e = go (nat_le number taken) (number == taken + 1) (nat_le number (taken + most_kept)) e
  where
    go : (a b c : Bool) → cond a Repeat (cond b (Fresh n) (cond c Kept Early)) ≡ Fresh m → cond b (Some n) None ≡ Some m
    go true b c h = absurd cc
    go false true c h = let same : n ≡ m = cc in ap Some same
    go false false true h = absurd cc
    go false false false h = absurd cc

unbroken : (b : Bool) → breach_of b ≡ None → b ≡ false
unbroken true e = absurd cc
unbroken false e = refl

pub came_from_away : WhatComesWasAway
came_from_away shared held l f m none fresh =
    let next : next_of l f ≡ Some m = fresh_is l.receiving.taken f.number f.msg m fresh in
    let parts = go (fault_of l f) (ap (λ o. link_fault_or (fault_of l f) (option_map_or (breach_among shared held l f.count) o false)) (sym next) ∙ none) in
    away (shared (thing_of m)) (held (thing_of m)) (waits (thing_of m) (left_by l f.count)) (unbroken _ parts)
  where
    go : (fault : Option LinkFault) → link_fault_or fault (breach_among shared held l f.count m) ≡ None → breach_of (breach_among shared held l f.count m) ≡ None
    go None e = e
    go (Some x) e = absurd cc

    away : (a b w : Bool) → (not a || b || w) ≡ false → (a ≡ true) × (b ≡ false)
    away true true w e = absurd cc
    away true false w e = (refl, refl)
    away false b w e = absurd cc

-- ---- what follows

pub followed_from_away : WhatFollowsWasAway
followed_from_away shared held l m e =
    away (shared (thing_of m)) (held (thing_of m)) (waits (thing_of m) (left_by l l.sending.acked)) (follows_unbreached (breach_among shared held l l.sending.acked) (next_kept l.receiving) m e)
  where
    away : (a b w : Bool) → (not a || b || w) ≡ false → (a ≡ true) × (b ≡ false)
    away true true w e = absurd cc
    away true false w e = (refl, refl)
    away false b w e = absurd cc

pub follows_held : WhatFollowsIsHeld
follows_held c t = go (follows c) refl
  where
    go : (o : Option Msg) → follows c ≡ o → holds (with_taken c.places o) t ≡ held_with (holds c.places) o t
    go None e = refl
    go (Some m) e = held-changed c.places (thing_of m) t true (followed_from_away (shares c.places) (holds c.places) c.link m e).0
