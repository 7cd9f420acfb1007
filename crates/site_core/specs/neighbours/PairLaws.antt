-- What follows of frames that come, and of the kept messages behind them.
use Rattle.std.proofs.Common.{◌≡◌, ℕ, zero, suc, true, cond, ap, ◌∙◌, Bool, false, None, Some, refl}
use Rattle.std.specs.Prelude.{is_some}
use Rattle.std.proofs.lemmas.Bool.{cond_both}
use Rattle.frame_codec.specs.Frame.{Fields}
use Rattle.office_map.specs.PlanValue.{PlanValue, are_neighbours}
use Rattle.window_link.specs.declared.arrival.Arrival.{Arrival}
use Rattle.window_link.specs.declared.arrival.Arrival.TheVariants as arrival
use Rattle.token_channel.specs.Channels.{most_following, fault_among}
use Rattle.site_core.specs.neighbours.Pairs.{Pairs, arrival_of, after_frame, follows, after_kept, followed, settled, after_taking, held, frame_fault, drinker_after}
use Rattle.frame_codec.specs.declared.message.Msg.TheVariants as msg
use Rattle.token_channel.specs.declared.fault.ChannelFault.TheVariants.{Link}
use Rattle.window_link.specs.declared.fault.LinkFault.TheVariants.{Stranger}
use Rattle.token_channel.specs.Ends.{is_shared}
use Rattle.drinking_core.specs.Drinkers.{Drinker}

-- as a loop takes them
pub followed_more : (plan : PlanValue) (me v : ℕ) (p : Pairs) (n k : ℕ) → n ≡ suc k → is_some (follows plan me v p) ≡ true → followed plan me v n p ≡ followed plan me v k (after_kept plan me v p)
followed_more plan me v p n k e is = ap (λ x. followed plan me v x p) e ∙ ap (λ b. cond b (followed plan me v k (after_kept plan me v p)) (after_kept plan me v p)) is

-- ---- what each step keeps

pub through_kept : (plan : PlanValue) (me v : ℕ) (P : Pairs → Type 0) → ((p : Pairs) → P p → P (after_kept plan me v p)) → (n : ℕ) (p : Pairs) → P p → P (followed plan me v n p)
through_kept plan me v P step zero p h = h
through_kept plan me v P step (suc n) p h =
    let next = after_kept plan me v p in
    cond_both (is_some (follows plan me v p)) (followed plan me v n next) next P (λ e. through_kept plan me v P step n next (step p h)) (λ e. step p h)

pub through_taking : (plan : PlanValue) (me : ℕ) (P : Pairs → Type 0) (f : Fields) → ((p : Pairs) → P p → P (after_kept plan me f.from p)) → (p : Pairs) → P (after_frame p f) → P (after_taking plan me p f)
through_taking plan me P f step p h = go (arrival_of p f)
  where
    go : (a : Arrival) → P (settled plan me f.from a (after_frame p f))
    go (arrival.Fresh m) = through_kept plan me f.from P step most_following (after_frame p f) h
    go arrival.Acked = h
    go arrival.Repeat = h
    go arrival.Kept = h
    go arrival.Early = h

-- ---- a frame

-- one that isn't refused is a neighbour's, and its link takes it
pub passed : (plan : PlanValue) (me : ℕ) (p : Pairs) (f : Fields) → frame_fault plan me p f ≡ None →
    (are_neighbours plan me f.from ≡ true) × (fault_among (is_shared plan me f.from) (held p f.from) (p.link f.from) f ≡ None)
passed plan me p f e = go (are_neighbours plan me f.from) refl e
  where
    go : (b : Bool) → are_neighbours plan me f.from ≡ b → cond b (fault_among (is_shared plan me f.from) (held p f.from) (p.link f.from) f) (Some (Link Stranger)) ≡ None → (are_neighbours plan me f.from ≡ true) × (fault_among (is_shared plan me f.from) (held p f.from) (p.link f.from) f ≡ None)
    go true h k = (h, k)
    go false h k = absurd cc

pub same_records : (k : Drinker) (a : Arrival) → ((drinker_after k a).records ≡ k.records) × ((drinker_after k a).peer ≡ k.peer)
same_records k (arrival.Fresh msg.AskFork) = (refl, refl)
same_records k (arrival.Fresh msg.Fork) = (refl, refl)
same_records k (arrival.Fresh (msg.AskBottle r)) = (refl, refl)
same_records k (arrival.Fresh (msg.Bottle r x)) = (refl, refl)
same_records k arrival.Acked = (refl, refl)
same_records k arrival.Repeat = (refl, refl)
same_records k arrival.Kept = (refl, refl)
same_records k arrival.Early = (refl, refl)
