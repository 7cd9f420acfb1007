-- What is held after a frame was taken: what its list brings, and what was held before.
use Rattle.std.proofs.Common.{◌≡◌, ℕ, Bool, true, false, ◌||◌, cond, Option, Some, None, ◌∷◌, zero, suc, refl, sym, ap, ◌∙◌}
use Rattle.frame_codec.specs.declared.message.Msg.{Msg}
use Rattle.frame_codec.specs.Frame.{Fields}
use Rattle.window_link.specs.Links.{arrival_at}
use Rattle.window_link.specs.declared.arrival.Arrival.{Arrival}
use Rattle.window_link.specs.declared.arrival.Arrival.TheVariants.{Acked, Fresh, Repeat, Kept, Early}
use Rattle.token_channel.specs.declared.thing.Thing.{Thing}
use Rattle.token_channel.specs.Things.{same, thing_of}
use Rattle.token_channel.specs.Places.{holds, waits}
use Rattle.token_channel.specs.Channels.{ChannelState, channel_fault, after_frame, follows, after_kept, followed, following, settled, with_following, most_following, held_after, held_with}
use Rattle.token_channel.proofs.FrameArrival.{comes_held, follows_held}
use Rattle.token_channel.proofs.KeptMessages.{message_follows, none_follows, followed_more, followed_last}

or_held : (here later before : Bool) → (later || cond here true before) ≡ ((here || later) || before)
or_held true true before = refl
or_held true false before = refl
or_held false true before = refl
or_held false false before = refl

-- one more, before those that follow it
one_more : (held : Thing → Bool) (m : Msg) (t : Thing) (later after : Bool) → after ≡ cond (same t (thing_of m)) true (held t) →
    (later || after) ≡ ((same t (thing_of m) || later) || held t)
one_more held m t later after e = ap (λ x. later || x) e ∙ or_held (same t (thing_of m)) later (held t)

-- one step more, where so much is known of the steps after it
follows_then : (n : ℕ) (c : ChannelState) (t : Thing) → holds (followed n (after_kept c)).places t ≡ (waits t (following n (after_kept c)) || holds (after_kept c).places t) →
    (o : Option Msg) → follows c ≡ o → holds (followed (suc n) c).places t ≡ (waits t (following (suc n) c) || holds c.places t)
follows_then n c t more None e =
    ap (λ x. holds x.places t) (followed_last c (suc n) n refl e) ∙ follows_held c t ∙ ap (λ x. held_with (holds c.places) x t) e
    ∙ sym (ap (λ ms. waits t ms || holds c.places t) (none_follows c (suc n) n refl e))
follows_then n c t more (Some m) e =
    ap (λ x. holds x.places t) (followed_more c (suc n) n m refl e) ∙ more
    ∙ one_more (holds c.places) m t (waits t (following n (after_kept c))) (holds (after_kept c).places t) (follows_held c t ∙ ap (λ x. held_with (holds c.places) x t) e)
    ∙ sym (ap (λ ms. waits t ms || holds c.places t) (message_follows c (suc n) n m refl e))

held_by_following : (n : ℕ) (c : ChannelState) (t : Thing) → holds (followed n c).places t ≡ (waits t (following n c) || holds c.places t)
held_by_following zero c t = refl
held_by_following (suc n) c t = follows_then n c t (held_by_following n (after_kept c) t) (follows c) refl

-- a frame that brought no message changes nothing of what is held
held_without : (c : ChannelState) (f : Fields) (a : Arrival) (t : Thing) → channel_fault c f ≡ None → arrival_at c.link f ≡ a →
    holds (after_frame c f).places t ≡ held_after (holds c.places) a t
held_without c f a t good e = comes_held c f t good ∙ ap (λ x. held_after (holds c.places) x t) e

held_with_first : (n : ℕ) (c : ChannelState) (f : Fields) (m : Msg) (t : Thing) → channel_fault c f ≡ None → arrival_at c.link f ≡ Fresh m →
    holds (followed n (after_frame c f)).places t ≡ (waits t (m ∷ following n (after_frame c f)) || holds c.places t)
held_with_first n c f m t good e =
    held_by_following n (after_frame c f) t
    ∙ one_more (holds c.places) m t (waits t (following n (after_frame c f))) (holds (after_frame c f).places t) (held_without c f (Fresh m) t good e)

-- what is taken with a frame is held, and all else as before
pub held_with_all : (c : ChannelState) (f : Fields) (a : Arrival) (t : Thing) → channel_fault c f ≡ None → arrival_at c.link f ≡ a →
    holds (settled a (after_frame c f)).places t ≡ (waits t (with_following a (following most_following (after_frame c f))) || holds c.places t)
held_with_all c f (Fresh m) t good e = held_with_first most_following c f m t good e
held_with_all c f Acked t good e = held_without c f Acked t good e
held_with_all c f Repeat t good e = held_without c f Repeat t good e
held_with_all c f Kept t good e = held_without c f Kept t good e
held_with_all c f Early t good e = held_without c f Early t good e
