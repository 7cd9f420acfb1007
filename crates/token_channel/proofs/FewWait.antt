-- What waits is bounded by what is shared, over all that happens.
use Rattle.std.proofs.Common.{◌≡◌, ℕ, zero, suc, ◌-◌, Bool, true, false, ◌&&◌, cond, List, [], ◌∷◌, length, drop, Option, None, Some, is_some, refl, sym, ap, ◌∙◌, arith}
use Rattle.std.specs.Prelude.{nat_lt}
use Rattle.frame_codec.specs.declared.message.Msg.{Msg}
use Rattle.frame_codec.specs.Frame.{Fields}
use Rattle.window_link.specs.declared.arrival.Arrival.{Arrival}
use Rattle.window_link.specs.declared.arrival.Arrival.TheVariants.{Acked, Fresh, Repeat, Kept, Early}
use Rattle.window_link.specs.Windows.{used, next_kept}
use Rattle.window_link.specs.Links.{fault_of, arrival_at}
use Rattle.window_link.specs.Limits.{greatest}
use Rattle.token_channel.specs.declared.thing.Thing.{Thing}
use Rattle.token_channel.specs.declared.thing.Thing.TheVariants.{Fork as TheFork}
use Rattle.token_channel.specs.declared.thing.SharedThing.{SharedThing}
use Rattle.token_channel.specs.Things.{thing_of}
use Rattle.token_channel.specs.Places.{holds, shares, waits, places_of}
use Rattle.token_channel.specs.Channels.{ChannelState, IsApart, opened, sent, channel_fault, after_frame, after_taking, after_kept, followed, settled, follows, link_then, most_following, with_taken, next_of, left_by, is_breach, WhatIsSharedStays}
use Rattle.token_channel.specs.Waiting.{ChannelEvent, sends, comes, after_event, after_events, FewWait}
use Rattle.token_channel.proofs.HeldUpdates.{shares-changed, length-changed}
use Rattle.token_channel.proofs.ThingsApart.{apart_none, apart_sent, apart_drop, apart_taken}
use Rattle.token_channel.specs.ThingLaws.{no_breach, room, follows_unbreached}
use Rattle.token_channel.specs.PlaceLaws.{few_places}
use Rattle.token_channel.proofs.FrameArrival.{unbreached}

-- ---- what is shared

shares-taken : (places : List SharedThing) (o : Option Msg) (t : Thing) → shares (with_taken places o) t ≡ shares places t
shares-taken places None t = refl
shares-taken places (Some m) t = shares-changed places (thing_of m) t true

pub shared_stays : WhatIsSharedStays
shared_stays c t = (λ m. shares-changed c.places (thing_of m) t false, λ f. shares-taken c.places (next_of c.link f) t, shares-taken c.places (follows c) t)

-- ---- things apart, in so many places

abbrev InPlaces : ℕ → ChannelState → Type 0
InPlaces n c = IsApart c × (length c.places ≡ n)

length-taken : (places : List SharedThing) (o : Option Msg) → length (with_taken places o) ≡ length places
length-taken places None = refl
length-taken places (Some m) = length-changed places (thing_of m) true

in_sent : (n : ℕ) (c : ChannelState) (m : Msg) → holds c.places (thing_of m) ≡ true → InPlaces n c → InPlaces n (sent c m)
in_sent n c m held (apart, size) = (apart_sent c.places c.link.sending.waiting m apart held, length-changed c.places (thing_of m) false ∙ size)

in_frame : (n : ℕ) (c : ChannelState) (f : Fields) → channel_fault c f ≡ None → InPlaces n c → InPlaces n (after_frame c f)
in_frame n c f none (apart, size) =
    (go (next_of c.link f) (λ m e. unbreached c f.count (fault_of c.link f) (next_of c.link f) none m e), length-taken c.places (next_of c.link f) ∙ size)
  where
    dropped : IsApart (record { link = (after_frame c f).link; places = c.places })
    dropped = apart_drop c.places c.link.sending.waiting (f.count - c.link.sending.acked) apart

    go : (o : Option Msg) → ((m : Msg) → o ≡ Some m → is_breach c f.count m ≡ false) → IsApart (record { link = (after_frame c f).link; places = with_taken c.places o })
    go None h = dropped
    go (Some m) h =
        let honest = no_breach (shares c.places (thing_of m)) (holds c.places (thing_of m)) (waits (thing_of m) (left_by c.link f.count)) (h m refl) in
        apart_taken c.places (left_by c.link f.count) (thing_of m) dropped honest.0 honest.1

-- a kept message that follows is no breach either
in_kept : (n : ℕ) (c : ChannelState) → InPlaces n c → InPlaces n (after_kept c)
in_kept n c (apart, size) = (go (follows c) refl, length-taken c.places (follows c) ∙ size)
  where
    all_wait : left_by c.link c.link.sending.acked ≡ c.link.sending.waiting
    all_wait = let none : c.link.sending.acked - c.link.sending.acked ≡ 0 = omega arith in ap (λ k. drop k c.link.sending.waiting) none

    go : (o : Option Msg) → follows c ≡ o → IsApart (record { link = link_then c.link o; places = with_taken c.places o })
    go None e = apart
    go (Some m) e =
        let honest = no_breach (shares c.places (thing_of m)) (holds c.places (thing_of m)) (waits (thing_of m) (left_by c.link c.link.sending.acked)) (follows_unbreached (is_breach c c.link.sending.acked) (next_kept c.link.receiving) m e) in
        apart_taken c.places c.link.sending.waiting (thing_of m) apart honest.0 (ap (waits (thing_of m)) (sym all_wait) ∙ honest.1)

in_followed : (n k : ℕ) (c : ChannelState) → InPlaces n c → InPlaces n (followed k c)
in_followed n zero c h = h
in_followed n (suc k) c h = go (is_some (follows c)) (in_followed n k (after_kept c) (in_kept n c h))
  where
    go : (b : Bool) → InPlaces n (followed k (after_kept c)) → InPlaces n (cond b (followed k (after_kept c)) (after_kept c))
    go true rest = rest
    go false rest = in_kept n c h

in_settled : (n : ℕ) (a : Arrival) (c : ChannelState) → InPlaces n c → InPlaces n (settled a c)
in_settled n (Fresh m) c h = in_followed n most_following c h
in_settled n Acked c h = h
in_settled n Repeat c h = h
in_settled n Kept c h = h
in_settled n Early c h = h

in_event : (n : ℕ) (c : ChannelState) (e : ChannelEvent) → InPlaces n c → InPlaces n (after_event c e)
in_event n c (sends m) h = go (holds c.places (thing_of m)) (nat_lt (used c.link.sending) greatest) refl
  where
    go : (a b : Bool) → holds c.places (thing_of m) ≡ a → InPlaces n (cond (a && b) (sent c m) c)
    go true true k = in_sent n c m k h
    go true false k = h
    go false b k = h
in_event n c (comes f) h = go (channel_fault c f) refl
  where
    go : (o : Option _) → channel_fault c f ≡ o → InPlaces n (cond (is_some o) c (after_taking c f))
    go None k = in_settled n (arrival_at c.link f) (after_frame c f) (in_frame n c f k h)
    go (Some fault) k = h

in_events : (n : ℕ) (c : ChannelState) (es : List ChannelEvent) → InPlaces n c → InPlaces n (after_events c es)
in_events n c [] h = h
in_events n c (e ∷ es) h = in_events n (after_event c e) es (in_event n c e h)

pub few : FewWait
few p me peer events good near =
    let c = after_events (opened p me peer) events in
    let it = in_events (length (places_of p me peer)) (opened p me peer) events (apart_none (places_of p me peer), refl) in
    omega (arith, room c.places c.link.sending.waiting TheFork it.0, it.1, few_places p me peer good near)
