-- No frame that was sent is refused for what it says. Of a thing that a message brings, what its receiver still has waiting was taken where the frame was made.
use Rattle.std.proofs.Common.{◌≡◌, ℕ, zero, suc, ◌+◌, ◌-◌, ◌<◌, ◌≤◌, Bool, true, false, not, cond, List, [], ◌∷◌, ◌++◌, length, Option, None, Some, Ok, Err, refl, sym, ap, subst, ◌∙◌, arith, ⊎_elim}
use Rattle.std.specs.Prelude.{◌==◌, ◌&&◌, ◌||◌, slice_get, nat_le, nat_lt}
use Rattle.std.specs.Option.{option_map_or}
use Rattle.std.proofs.lemmas.Bool.{cases_lt, eq-eqb, eqb-true}
use Rattle.std.proofs.lemmas.Bool.Decides.{nat_tests}
use Rattle.bottle_values.specs.Lists.{num}
use Rattle.bottle_values.specs.Maps.{put}
use Rattle.bottle_values.specs.Versions.{number_of}
use Rattle.frame_codec.specs.declared.message.Msg.{Msg}
use Rattle.frame_codec.specs.Frame.{Fields}
use Rattle.office_map.specs.PlanValue.{PlanValue, are_neighbours}
use Rattle.office_map.specs.Consistency.{IsConsistent}
use Rattle.office_map.specs.NeighbourLaws.{near_both}
use Rattle.window_link.specs.declared.fault.LinkFault.TheVariants as linkfault
use Rattle.window_link.specs.Windows.{Sending, used}
use Rattle.window_link.specs.Links.{LinkState, frame_with, fault_of, after_arrival}
use Rattle.bottle_values.specs.ListLaws.{get-drop}
use Rattle.token_channel.specs.declared.thing.Thing.{Thing}
use Rattle.token_channel.specs.declared.fault.ChannelFault.{ChannelFault}
use Rattle.token_channel.specs.declared.fault.ChannelFault.TheVariants as fault
use Rattle.token_channel.specs.Things.{thing_of, same, count_carrying}
use Rattle.token_channel.specs.Places.{waits}
use Rattle.token_channel.specs.Ends.{is_shared}
use Rattle.token_channel.specs.Channels.{breach_among, fault_among, left_by, link_fault_or, next_of, link_then}
use Rattle.token_channel.specs.ThingLaws.{same_self, same_is}
use Rattle.dining_core.specs.Worlds as tables
use Rattle.drinking_core.specs.Worlds as bars
use Rattle.site_core.specs.Pairs.{Pairs, sent, fork_sends, bottle_sends, held, frame_fault, follows}
use Rattle.office_journal.specs.declared.event.Event as office
use Rattle.office_journal.specs.declared.event.Event.TheVariants as event
use Rattle.office_journal.specs.declared.reply.Reply.{Reply}
use Rattle.office_journal.specs.declared.reply.Reply.TheVariants as reply
use Rattle.office_journal.specs.declared.reply.Refusal as offices
use Rattle.office_journal.specs.declared.reply.Refusal.TheVariants as refused
use Rattle.site_core.specs.Limits.{most_entries}
use Rattle.site_core.specs.Agenda.{is_full, submitted}
use Rattle.site_core.specs.Offices.{Office, Answer, may, act, is_ours, framed, frame_on, unless_faulty, answer, may_withdraw, withdrawn}
use Rattle.site_core.specs.Journals.{Site, office_of, noted, recorded, step}
use Rattle.frame_world.specs.declared.event.WorldEvent.{WorldEvent}
use Rattle.frame_world.specs.declared.event.WorldEvent.TheVariants as happening
use Rattle.frame_world.specs.declared.refusal.WorldRefusal.{WorldRefusal}
use Rattle.frame_world.specs.declared.refusal.WorldRefusal.TheVariants as refusal
use Rattle.frame_world.specs.Worlds.{World, opening, run_of, site_at, office_at, told, handed, delivered, happens}
use Rattle.frame_world.specs.Headline.{Always, FramesAreTaken, is_fault}
use Rattle.frame_world.specs.Ways.{untaken, between}
use Rattle.frame_world.proofs.Answers.{PairStep, Stays, ByFork, ByBottle, ByFrame, ByKept, step_of, pair_after}
use Rattle.frame_world.proofs.OneLink.{length_one, still_used, Known, Waits, Carries, Arrives, Brings, BringsNone, arrives, taken_after}
use Rattle.frame_world.proofs.Links.{AreLinked, IsHonest, queued_link, made_honest, link_after, link_kept, links_kept, way_cases, sending_of, taken_of}
use Rattle.frame_world.specs.WorldStates.{State, state_of, starting, IsAccepted, IsSeated}
use Rattle.frame_world.specs.WorldLaws.{seated, through}
use Rattle.frame_world.proofs.Following.{moved, pairs_in, through_moves, pairs_after, Follow, Follows, kept_follows, own_step_follows, starts, IsNew, old_or_new}
use Rattle.frame_world.proofs.PlacesAndForks.{each_is_placed}

-- ---- one thing on the way

carried : (t : Thing) (ms : List Msg) (k : ℕ) (x : Msg) → slice_get ms k ≡ Some x → thing_of x ≡ t → 1 ≤ count_carrying t ms
carried t [] k x is of = absurd cc
carried t (m ∷ ms) zero x is of =
    let this : m ≡ x = cc in
    let one : same t (thing_of m) ≡ true = ap (λ y. same t (thing_of y)) this ∙ ap (same t) of ∙ same_self t in
    omega (arith, ap num one)
carried t (m ∷ ms) (suc k) x is of = omega (arith, carried t ms k x is of)

-- a message that waits and wasn't taken is on the way
on_the_way : (s : Sending) (taken k : ℕ) (x : Msg) (t : Thing) → s.acked ≤ taken → taken < s.acked + suc k → slice_get s.waiting k ≡ Some x → thing_of x ≡ t → 1 ≤ count_carrying t (untaken s taken)
on_the_way s taken k x t known more is of =
    let place : taken - s.acked + (k - (taken - s.acked)) ≡ k = omega (arith, known, more) in
    carried t (untaken s taken) (k - (taken - s.acked)) x (get-drop s.waiting (taken - s.acked) (k - (taken - s.acked)) ∙ ap (slice_get s.waiting) place ∙ is) of

-- of a thing not both ways have a message
abbrev pub GoOneWay : (ℕ → Pairs) → Type 0
GoOneWay pairs = (a b : ℕ) (t : Thing) → count_carrying t (between pairs a b) + count_carrying t (between pairs b a) ≤ 1

-- ---- what waits the other way

-- what waits at the receiver with the thing that a frame brings next or later is among the first so many that it sent
abbrev pub IsSeen : LinkState → ℕ → Fields → Msg → Type 0
IsSeen l t f m = l.receiving.taken < f.number → (k : ℕ) (x : Msg) → slice_get l.sending.waiting k ≡ Some x → thing_of x ≡ thing_of m → l.sending.acked + suc k ≤ t

-- the frame knows that it was taken
abbrev pub Crossed : LinkState → Fields → Msg → Type 0
Crossed l f m = IsSeen l f.count f m

-- the message of a frame that wasn't taken is on the way
goes : (pairs : ℕ → Pairs) (f : Fields) (m : Msg) → AreLinked pairs → IsHonest pairs f → f.msg ≡ Some m → taken_of pairs f.to f.from < f.number → 1 ≤ count_carrying (thing_of m) (between pairs f.from f.to)
goes pairs f m l h is later = of (h.carries m is)
  where
    of : Carries (sending_of pairs f.from f.to) f.number m → 1 ≤ count_carrying (thing_of m) (between pairs f.from f.to)
    of (Known le) = absurd (omega (arith, le, later, (l.linked f.from f.to).known))
    of (Waits j number there) = on_the_way (sending_of pairs f.from f.to) (taken_of pairs f.to f.from) j m (thing_of m) (l.linked f.from f.to).known (omega (arith, number, later)) there refl

-- what waits there was taken by now
seen : (pairs : ℕ → Pairs) (f : Fields) (m : Msg) → AreLinked pairs → GoOneWay pairs → IsHonest pairs f → f.msg ≡ Some m → IsSeen ((pairs f.to).link f.from) (taken_of pairs f.from f.to) f m
seen pairs f m l one h is later k x at of = ⊎_elim
    (λ lt. absurd (both (on_the_way (sending_of pairs f.to f.from) (taken_of pairs f.from f.to) k x (thing_of m) (l.linked f.to f.from).known lt at of) (goes pairs f m l h is later)))
    (λ ge. ge)
    (cases_lt (taken_of pairs f.from f.to) ((sending_of pairs f.to f.from).acked + suc k))
  where
    both : 1 ≤ count_carrying (thing_of m) (between pairs f.to f.from) → 1 ≤ count_carrying (thing_of m) (between pairs f.from f.to) → ⊥
    both here away = absurd (omega (arith, here, away, one f.to f.from (thing_of m)))

shrunk : (xs ys : List Msg) (k : ℕ) (x : Msg) → k < length xs → slice_get (xs ++ ys) k ≡ Some x → slice_get xs k ≡ Some x
shrunk [] ys k x lt e = absurd (omega (arith, lt))
shrunk (y ∷ xs) ys zero x lt e = e
shrunk (y ∷ xs) ys (suc k) x lt e = shrunk xs ys k x (omega (arith, lt)) e

-- a message more waits: it isn't of that thing
crossed_queued : (l : LinkState) (new : Msg) (f : Fields) (m : Msg) (t : ℕ) → t ≤ used l.sending → Crossed l f m → IsSeen (queued_link l new) t f m → Crossed (queued_link l new) f m
crossed_queued l new f m t most old taken later k x at of = ⊎_elim
    (λ lt. old later k x (shrunk l.sending.waiting (new ∷ []) k x lt at) of)
    (λ ge. absurd (omega (arith, ge, most, taken later k x at of)))
    (cases_lt k (length l.sending.waiting))

-- a count is used, and perhaps a message taken
crossed_arrived : (l : LinkState) (g f : Fields) (m : Msg) → Crossed l f m → Crossed (after_arrival l g) f m
crossed_arrived l g f m old later k x at of =
    let there : slice_get l.sending.waiting (g.count - l.sending.acked + k) ≡ Some x = sym (get-drop l.sending.waiting (g.count - l.sending.acked) k) ∙ at in
    let known : l.sending.acked + suc (g.count - l.sending.acked + k) ≤ f.count = old (omega (arith, later, grows (arrives l.receiving g.number g.msg))) (g.count - l.sending.acked + k) x there of in
    ⊎_elim (λ lt. omega (arith, known, lt)) (λ ge. omega (arith, known, ge)) (cases_lt l.sending.acked g.count)
  where
    grows : Arrives l.receiving g.number g.msg → l.receiving.taken ≤ taken_after l.receiving g.number g.msg
    grows (Brings y is next fresh one) = omega (arith, one)
    grows (BringsNone nothing stays) = omega (arith, stays)

-- a kept message follows, or is thrown out
crossed_then : (l : LinkState) (o : Option Msg) (f : Fields) (m : Msg) → Crossed l f m → Crossed (link_then l o) f m
crossed_then l None f m old later k x at of = old later k x at of
crossed_then l (Some y) f m old later k x at of = old (omega (arith, later)) k x at of

-- ---- what a step does to a link

-- the one link that changed, and the others
changed_link : (pairs : ℕ → Pairs) (a v : ℕ) (f : LinkState → LinkState) (p' : Pairs) → p'.link ≡ put (pairs a).link v (f ((pairs a).link v)) → (b w : ℕ) (P : LinkState → Type 0) → P ((pairs b).link w) → P (f ((pairs b).link w)) → P ((put pairs a p' b).link w)
changed_link pairs a v f p' e b w P stays here = subst P (sym (link_after (λ l. l) pairs a v p' (f ((pairs a).link v)) e b w))
    (way_cases P (λ x y. (pairs x).link y) a v (f ((pairs a).link v)) b w (λ i j. subst (λ k. P (f ((pairs a).link k))) j (subst (λ k. P (f ((pairs k).link w))) i here)) (λ ne. stays))

-- what every message and every frame leaves, each step leaves
kept_on_links : (pairs : ℕ → Pairs) (a : ℕ) (step : PairStep) (b w : ℕ) (P : LinkState → Type 0) → P ((pairs b).link w) → ((m : Msg) → P (queued_link ((pairs b).link w) m)) → ((g : Fields) → P (after_arrival ((pairs b).link w) g)) → ((o : Option Msg) → P (link_then ((pairs b).link w) o)) →
    P ((moved pairs a step b).link w)
kept_on_links pairs a step b w P stays queued arrived followed = go step
  where
    out : (m : Option (ℕ × Msg)) (p' : Pairs) → p'.link ≡ sent (pairs a).link m → P ((put pairs a p' b).link w)
    out None p' e = subst P (sym (links_kept pairs a p' e b w)) stays
    out (Some x) p' e = changed_link pairs a x.0 (λ l. queued_link l x.1) p' e b w P stays (queued x.1)

    go : (step : PairStep) → P ((moved pairs a step b).link w)
    go Stays = subst P (sym (links_kept pairs a (pairs a) refl b w)) stays
    go (ByFork rule) = out (fork_sends rule) (pair_after (pairs a) (ByFork rule)) refl
    go (ByBottle rule) = out (bottle_sends (pairs a).drinker rule) (pair_after (pairs a) (ByBottle rule)) refl
    go (ByFrame g) = changed_link pairs a g.from (λ l. after_arrival l g) (pair_after (pairs a) (ByFrame g)) refl b w P stays (arrived g)
    go (ByKept v o) = changed_link pairs a v (λ l. link_then l o) (pair_after (pairs a) (ByKept v o)) refl b w P stays (followed o)

-- a frame stays so
still_crossed : (pairs : ℕ → Pairs) (a : ℕ) (step : PairStep) (f : Fields) (m : Msg) → AreLinked pairs → AreLinked (moved pairs a step) → GoOneWay (moved pairs a step) → IsHonest (moved pairs a step) f → f.msg ≡ Some m →
    Crossed ((pairs f.to).link f.from) f m → Crossed ((moved pairs a step f.to).link f.from) f m
still_crossed pairs a step f m l l' one h is old = go step l' one h
  where
    out : (x : Option (ℕ × Msg)) (p' : Pairs) → p'.link ≡ sent (pairs a).link x → AreLinked (put pairs a p') → GoOneWay (put pairs a p') → IsHonest (put pairs a p') f → Crossed ((put pairs a p' f.to).link f.from) f m
    out None p' e l' one h = subst (λ k. Crossed k f m) (sym (links_kept pairs a p' e f.to f.from)) old
    out (Some x) p' e l' one h =
        let takens : taken_of (put pairs a p') f.from f.to ≡ taken_of pairs f.from f.to = link_kept (λ k. k.receiving.taken) pairs a x.0 p' (queued_link ((pairs a).link x.0) x.1) e refl f.from f.to in
        changed_link pairs a x.0 (λ k. queued_link k x.1) p' e f.to f.from (λ k. IsSeen k (taken_of pairs f.from f.to) f m → Crossed k f m)
        (λ taken. old) (crossed_queued ((pairs f.to).link f.from) x.1 f m (taken_of pairs f.from f.to) (l.linked f.to f.from).most old)
        (subst (λ t. IsSeen ((put pairs a p' f.to).link f.from) t f m) takens (seen (put pairs a p') f m l' one h is))

    go : (step : PairStep) → AreLinked (moved pairs a step) → GoOneWay (moved pairs a step) → IsHonest (moved pairs a step) f → Crossed ((moved pairs a step f.to).link f.from) f m
    go Stays l' one h = subst (λ k. Crossed k f m) (sym (links_kept pairs a (pairs a) refl f.to f.from)) old
    go (ByFork rule) l' one h = out (fork_sends rule) (pair_after (pairs a) (ByFork rule)) refl l' one h
    go (ByBottle rule) l' one h = out (bottle_sends (pairs a).drinker rule) (pair_after (pairs a) (ByBottle rule)) refl l' one h
    go (ByFrame g) l' one h = changed_link pairs a g.from (λ k. after_arrival k g) (pair_after (pairs a) (ByFrame g)) refl f.to f.from (λ k. Crossed k f m) old (crossed_arrived ((pairs f.to).link f.from) g f m old)
    go (ByKept v o) l' one h = changed_link pairs a v (λ k. link_then k o) (pair_after (pairs a) (ByKept v o)) refl f.to f.from (λ k. Crossed k f m) old (crossed_then ((pairs f.to).link f.from) o f m old)

-- ---- all frames

-- what a frame that was just made has of its link
pub record IsOfLink (l : LinkState) (f : Fields) : Type 0 where
  pub run : f.run ≡ l.run
  pub version : f.version ≡ l.version
  pub from : f.from ≡ l.me
  pub to : f.to ≡ l.peer
  pub count : f.count ≡ l.receiving.taken
  pub number : f.number ≤ used l.sending

pub of_link : (l : LinkState) (i : ℕ) (f : Fields) → frame_on l i ≡ Some f → IsOfLink l f
of_link l i f e = by i e
  where
    made : (n : ℕ) (m : Option Msg) → n ≤ used l.sending → frame_with l n m ≡ f → IsOfLink l f
    made n m most is = subst (IsOfLink l) is (record { run = refl; version = refl; from = refl; to = refl; count = refl; number = most })

    by : (i : ℕ) → frame_on l i ≡ Some f → IsOfLink l f
    by zero e = let is : frame_with l 0 None ≡ f = cc in made 0 None (omega arith) is
    by (suc i) e = go (nat_le (suc i) (length l.sending.waiting)) refl e
      where
        go : (b : Bool) → nat_le (suc i) (length l.sending.waiting) ≡ b → cond b (Some (frame_with l (l.sending.acked + suc i) (slice_get l.sending.waiting (suc i - 1)))) None ≡ Some f → IsOfLink l f
        go true h e =
            let is : frame_with l (l.sending.acked + suc i) (slice_get l.sending.waiting (suc i - 1)) ≡ f = cc in
            made (l.sending.acked + suc i) (slice_get l.sending.waiting (suc i - 1)) (grind (arith, nat_tests, h)) is
        go false h e = absurd cc

-- what holds of offices with these frames
pub record AreTimely (plan : PlanValue) (frames : List Fields) (pairs : ℕ → Pairs) : Type 0 where
  pub runs : (a v : ℕ) → ((pairs a).link v).run ≡ plan.run
  pub run : (k : ℕ) (f : Fields) → slice_get frames k ≡ Some f → f.run ≡ plan.run
  pub versions : (a v : ℕ) → ((pairs a).link v).version ≡ plan.version
  pub version : (k : ℕ) (f : Fields) → slice_get frames k ≡ Some f → f.version ≡ plan.version
  pub near : (k : ℕ) (f : Fields) → slice_get frames k ≡ Some f → are_neighbours plan f.from f.to ≡ true
  pub numbered : (k : ℕ) (f : Fields) → slice_get frames k ≡ Some f → f.number ≤ used (sending_of pairs f.from f.to)
  pub crossed : (k : ℕ) (f : Fields) (m : Msg) → slice_get frames k ≡ Some f → f.msg ≡ Some m → Crossed ((pairs f.to).link f.from) f m

-- a number that a link used stays used
numbers_grow : (pairs : ℕ → Pairs) (a : ℕ) (step : PairStep) (f : Fields) → f.number ≤ used (sending_of pairs f.from f.to) → f.number ≤ used (sending_of (moved pairs a step) f.from f.to)
numbers_grow pairs a step f h = kept_on_links pairs a step f.from f.to (λ l. f.number ≤ used l.sending) h
    (λ m. omega (arith, h, length_one (sending_of pairs f.from f.to).waiting m))
    (λ g. omega (arith, h, still_used (sending_of pairs f.from f.to) g.count))
    (λ o. h)

few : (b : Bool) → num b ≤ 1
few true = omega arith
few false = omega arith

one_way : tables.EachHasOnePlace → bars.EachHasOnePlace → (plan : PlanValue) (frames : List Fields) (pairs : ℕ → Pairs) → IsConsistent plan → Follow plan frames pairs → GoOneWay pairs
one_way forks bottles plan frames pairs c h a b t = omega (arith, each_is_placed forks bottles plan frames pairs c h a b t, few (is_shared plan a b t))

-- the offices follow, and their frames are timely
pub record FollowTimely (plan : PlanValue) (frames : List Fields) (pairs : ℕ → Pairs) : Type 0 where
  pub follows : Follow plan frames pairs
  pub timely : AreTimely plan frames pairs

abbrev pub IsTimely : PlanValue → State → Type 0
IsTimely plan s = FollowTimely plan s.frames (pairs_in s)

-- the frames that an event makes are timely too
timely_made : tables.EachHasOnePlace → bars.EachHasOnePlace → (plan : PlanValue) (s s' : State) → IsConsistent plan → IsTimely plan s → IsAccepted plan s s' → AreTimely plan s'.frames (pairs_in s)
timely_made forks bottles plan s s' c t i = record {
  runs = t.timely.runs;
  run = λ k f e. ⊎_elim (t.timely.run k f) (λ n. (of_link ((pairs_in s n.sender).link n.receiver) n.place f n.made).run ∙ t.timely.runs n.sender n.receiver) (old_or_new plan s s' i k f e);
  versions = t.timely.versions;
  version = λ k f e. ⊎_elim (t.timely.version k f) (λ n. (of_link ((pairs_in s n.sender).link n.receiver) n.place f n.made).version ∙ t.timely.versions n.sender n.receiver) (old_or_new plan s s' i k f e);
  near = λ k f e. ⊎_elim (t.timely.near k f) (near_new f) (old_or_new plan s s' i k f e);
  numbered = λ k f e. ⊎_elim (t.timely.numbered k f) (numbered_new f) (old_or_new plan s s' i k f e);
  crossed = λ k f m e is. ⊎_elim (λ old. t.timely.crossed k f m old is) (λ n. crossed_new f m n is) (old_or_new plan s s' i k f e);
}
  where
    h : Follows plan s
    h = t.follows

    near_new : (f : Fields) → IsNew plan (pairs_in s) f → are_neighbours plan f.from f.to ≡ true
    near_new f n =
        let o : IsOfLink ((pairs_in s n.sender).link n.receiver) f = of_link ((pairs_in s n.sender).link n.receiver) n.place f n.made in
        ap (λ x. are_neighbours plan x f.to) (o.from ∙ h.linked.me n.sender n.receiver) ∙ ap (are_neighbours plan n.sender) (o.to ∙ h.linked.peer n.sender n.receiver) ∙ n.near

    numbered_new : (f : Fields) → IsNew plan (pairs_in s) f → f.number ≤ used (sending_of (pairs_in s) f.from f.to)
    numbered_new f n =
        let o : IsOfLink ((pairs_in s n.sender).link n.receiver) f = of_link ((pairs_in s n.sender).link n.receiver) n.place f n.made in
        let there : sending_of (pairs_in s) f.from f.to ≡ sending_of (pairs_in s) n.sender n.receiver = ap (λ x. sending_of (pairs_in s) x f.to) (o.from ∙ h.linked.me n.sender n.receiver) ∙ ap (sending_of (pairs_in s) n.sender) (o.to ∙ h.linked.peer n.sender n.receiver) in
        subst (λ (x : Sending). f.number ≤ used x) (sym there) o.number

    crossed_new : (f : Fields) (m : Msg) → IsNew plan (pairs_in s) f → f.msg ≡ Some m → Crossed ((pairs_in s f.to).link f.from) f m
    crossed_new f m n is =
        let o : IsOfLink ((pairs_in s n.sender).link n.receiver) f = of_link ((pairs_in s n.sender).link n.receiver) n.place f n.made in
        let count : taken_of (pairs_in s) f.from f.to ≡ f.count = ap (λ x. taken_of (pairs_in s) x f.to) (o.from ∙ h.linked.me n.sender n.receiver) ∙ ap (taken_of (pairs_in s) n.sender) (o.to ∙ h.linked.peer n.sender n.receiver) ∙ sym o.count in
        subst (λ x. IsSeen ((pairs_in s f.to).link f.from) x f m) count
        (seen (pairs_in s) f m h.linked (one_way forks bottles plan s.frames (pairs_in s) c h) (made_honest (pairs_in s) n.sender n.receiver n.place f h.linked n.made) is)

-- what a step leaves of them
timely_step : tables.EachHasOnePlace → bars.EachHasOnePlace → (plan : PlanValue) (frames : List Fields) (pairs : ℕ → Pairs) (a : ℕ) (step : PairStep) → IsConsistent plan → AreLinked pairs → Follow plan frames (moved pairs a step) → AreTimely plan frames pairs → AreTimely plan frames (moved pairs a step)
timely_step forks bottles plan frames pairs a step c l h' t = record {
  runs = λ x v. kept_on_links pairs a step x v (λ l. l.run ≡ plan.run) (t.runs x v) (λ m. t.runs x v) (λ g. t.runs x v) (λ o. t.runs x v);
  run = t.run;
  versions = λ x v. kept_on_links pairs a step x v (λ l. l.version ≡ plan.version) (t.versions x v) (λ m. t.versions x v) (λ g. t.versions x v) (λ o. t.versions x v);
  version = t.version;
  near = t.near;
  numbered = λ k f e. numbers_grow pairs a step f (t.numbered k f e);
  crossed = λ k f m e is. still_crossed pairs a step f m l h'.linked (one_way forks bottles plan frames (moved pairs a step) c h') (h'.honest k f e) is (t.crossed k f m e is);
}

timely_on : tables.EachHasOnePlace → bars.EachHasOnePlace → (plan : PlanValue) (s s' : State) → IsConsistent plan → IsTimely plan s → IsAccepted plan s s' → IsTimely plan s'
timely_on forks bottles plan s s' c t i = subst (FollowTimely plan s'.frames) (sym (pairs_after plan s s' i))
    (through_moves plan i.place (FollowTimely plan s'.frames) keeps (pairs_in s) step (record { follows = own; timely = timely_step forks bottles plan s'.frames (pairs_in s) i.place step c t.follows.linked own (timely_made forks bottles plan s s' c t i) }))
  where
    step : PairStep
    step = step_of (s.office i.place) i.event

    own : Follow plan s'.frames (moved (pairs_in s) i.place step)
    own = own_step_follows plan s s' t.follows i

    keeps : (qs : ℕ → Pairs) (v : ℕ) (o : Option Msg) → follows plan i.place v (qs i.place) ≡ o → FollowTimely plan s'.frames qs → FollowTimely plan s'.frames (moved qs i.place (ByKept v o))
    keeps qs v o e k =
        let next : Follow plan s'.frames (moved qs i.place (ByKept v o)) = kept_follows plan s'.frames qs i.place v o e k.follows in
        record { follows = next; timely = timely_step forks bottles plan s'.frames qs i.place (ByKept v o) c k.follows.linked next k.timely }

timely_at_start : (plan : PlanValue) → AreTimely plan [] (pairs_in (starting plan))
timely_at_start plan = record { runs = λ a v. refl; run = λ k f e. absurd cc; versions = λ a v. refl; version = λ k f e. absurd cc; near = λ k f e. absurd cc; numbered = λ k f e. absurd cc; crossed = λ k f m e is. absurd cc }

pub timely : tables.EachHasOnePlace → bars.EachHasOnePlace → (plan : PlanValue) (es : List WorldEvent) → IsConsistent plan → IsTimely plan (state_of (run_of (opening plan) es))
timely forks bottles plan es c = through plan (IsTimely plan) (record { follows = starts plan; timely = timely_at_start plan }) (λ s s' t i. timely_on forks bottles plan s s' c t i) es

-- ---- a frame that comes

not_less : (m n : ℕ) → n ≤ m → nat_lt m n ≡ false
not_less m n h = grind (arith, nat_tests, h)

true_of : (b : Bool) → 1 ≤ num b → b ≡ true
true_of true h = refl
true_of false h = absurd (omega (arith, h))

false_of : (b : Bool) → num b ≡ 0 → b ≡ false
false_of true h = absurd (omega (arith, h))
false_of false h = refl

none_waits : (t : Thing) (ms : List Msg) → ((k : ℕ) (x : Msg) → slice_get ms k ≡ Some x → thing_of x ≡ t → ⊥) → waits t ms ≡ false
none_waits t [] h = refl
none_waits t (m ∷ ms) h = go (same t (thing_of m)) refl (none_waits t ms (λ k x is of. h (suc k) x is of))
  where
    go : (b : Bool) → same t (thing_of m) ≡ b → waits t ms ≡ false → waits t (m ∷ ms) ≡ false
    go true e rest = absurd (h 0 m refl (sym (same_is t (thing_of m) e)))
    go false e rest = ap (λ b. b || waits t ms) e ∙ rest

-- so what still waits is no such thing
left_by_none : (l : LinkState) (f : Fields) (m : Msg) → Crossed l f m → l.receiving.taken < f.number → waits (thing_of m) (left_by l f.count) ≡ false
left_by_none l f m h later = none_waits (thing_of m) (left_by l f.count)
    (λ k x is of. absurd (omega (arith, h later (f.count - l.sending.acked + k) x (sym (get-drop l.sending.waiting (f.count - l.sending.acked) k) ∙ is) of)))

no_breach : (shared held waiting : Bool) → shared ≡ true → held ≡ false → waiting ≡ false → (not shared || held || waiting) ≡ false
no_breach true false false s h w = refl
no_breach true false true s h w = absurd cc
no_breach true true waiting s h w = absurd cc
no_breach false held waiting s h w = absurd cc

own : (a b c : Bool) → a ≡ true → b ≡ true → c ≡ true → (a && b && c) ≡ true
own true true c x y z = z
own true false c x y z = absurd cc
own false b c x y z = absurd cc

-- nothing is wrong with a frame that was sent
fine : tables.EachHasOnePlace → bars.EachHasOnePlace → (plan : PlanValue) (s : State) → IsConsistent plan → IsTimely plan s → (k : ℕ) (f : Fields) → slice_get s.frames k ≡ Some f → frame_fault plan f.to (s.office f.to).pairs f ≡ None
fine forks bottles plan s c t k f e =
    ap (λ b. cond b (fault_among (is_shared plan f.to f.from) (held p f.from) l f) (Some (fault.Link linkfault.Stranger))) (near_both plan f.to f.from ∙ t.timely.near k f e)
    ∙ ap (λ x. link_fault_or x (option_map_or (breach_among (is_shared plan f.to f.from) (held p f.from) l f.count) (next_of l f) false)) link_fine
    ∙ ap (link_fault_or None) (brings_fine (f.number == l.receiving.taken + 1) f.msg refl refl)
  where
    p : Pairs
    p = pairs_in s f.to

    l : LinkState
    l = p.link f.from

    honest : IsHonest (pairs_in s) f
    honest = t.follows.honest k f e

    is_mine : (f.run == l.run && f.from == l.peer && f.to == l.me) ≡ true
    is_mine = own (f.run == l.run) (f.from == l.peer) (f.to == l.me)
        (eq-eqb f.run l.run (t.timely.run k f e ∙ sym (t.timely.runs f.to f.from)))
        (eq-eqb f.from l.peer (sym (t.follows.linked.peer f.to f.from)))
        (eq-eqb f.to l.me (sym (t.follows.linked.me f.to f.from)))

    of_version : (number_of f.version == number_of l.version) ≡ true
    of_version = eq-eqb (number_of f.version) (number_of l.version) (ap number_of (t.timely.version k f e ∙ sym (t.timely.versions f.to f.from)))

    known : nat_lt (used l.sending) f.count ≡ false
    known = not_less (used l.sending) f.count (omega (arith, honest.count, (t.follows.linked.linked f.to f.from).most))

    link_fine : fault_of l f ≡ None
    link_fine =
        ap (λ b. cond (not b) (Some linkfault.Stranger) (cond (not (number_of f.version == number_of l.version)) (Some linkfault.WrongVersion) (cond (nat_lt (used l.sending) f.count) (Some linkfault.AckAhead) None))) is_mine
        ∙ ap (λ b. cond (not b) (Some linkfault.WrongVersion) (cond (nat_lt (used l.sending) f.count) (Some linkfault.AckAhead) None)) of_version
        ∙ ap (λ b. cond b (Some linkfault.AckAhead) None) known

    brought_fine : (m : Msg) → f.msg ≡ Some m → l.receiving.taken < f.number → breach_among (is_shared plan f.to f.from) (held p f.from) l f.count m ≡ false
    brought_fine m is later =
        let way : 1 ≤ count_carrying (thing_of m) (between (pairs_in s) f.from f.to) = goes (pairs_in s) f m t.follows.linked honest is later in
        let one = each_is_placed forks bottles plan s.frames (pairs_in s) c t.follows f.to f.from (thing_of m) in
        no_breach (is_shared plan f.to f.from (thing_of m)) (held p f.from (thing_of m)) (waits (thing_of m) (left_by l f.count))
        (true_of (is_shared plan f.to f.from (thing_of m)) (omega (arith, way, one)))
        (false_of (held p f.from (thing_of m)) (omega (arith, way, one, few (is_shared plan f.to f.from (thing_of m)))))
        (left_by_none l f m (t.timely.crossed k f m e is) later)

    brings_fine : (b : Bool) (x : Option Msg) → (f.number == l.receiving.taken + 1) ≡ b → f.msg ≡ x → option_map_or (breach_among (is_shared plan f.to f.from) (held p f.from) l f.count) (cond b x None) false ≡ false
    brings_fine false x next is = refl
    brings_fine true None next is = refl
    brings_fine true (Some m) next is = let at : f.number ≡ l.receiving.taken + 1 = eqb-true f.number (l.receiving.taken + 1) next in brought_fine m is (omega (arith, at))

-- ---- what is refused

abbrev IsFine : WorldRefusal → Type 0
IsFine r = is_fault r ≡ false

-- an office that answers no fault is told so
handed_fine : (w : World) (a : ℕ) (e : office.Event) → ((x : offices.Refusal) → answer (site_at w a).plan (site_at w a).me (office_at w a) e ≡ Err x → IsFine (refusal.Office x)) → (r : WorldRefusal) → (handed w a e).0 ≡ Err r → IsFine r
handed_fine w a e fine r is = by_place (nat_lt a (length w.sites)) is
  where
    s : Site
    s = site_at w a

    by_room : (x : Reply × Office) → (full : Bool) → (told w a e (cond full (Err refused.JournalFull, s) (Ok x.0, noted s 0 e x.0))).0 ≡ Err r → IsFine r
    by_room x true is = let same : refusal.Office refused.JournalFull ≡ r = cc in subst IsFine same refl
    by_room x false is = absurd cc

    by_answer : (x : Answer) → answer s.plan s.me (office_of s) e ≡ x → (told w a e (recorded s 0 e x)).0 ≡ Err r → IsFine r
    by_answer (Ok x) ans is = by_room x (nat_le most_entries (length s.entries)) is
    by_answer (Err x) ans is = let same : refusal.Office x ≡ r = cc in subst IsFine same (fine x ans)

    by_place : (b : Bool) → (cond b (told w a e (step s 0 e)) (Err refusal.NoOffice, w)).0 ≡ Err r → IsFine r
    by_place true is = by_answer (answer s.plan s.me (office_of s) e) refl is
    by_place false is = let same : refusal.NoOffice ≡ r = cc in subst IsFine same refl

submit_fine : (o : Office) (new : Office) (ours full : Bool) (n : ℕ) (x : offices.Refusal) → cond {A = Answer} ours (cond full (Err refused.QueueFull) (Ok (reply.Ticket n, new))) (Err refused.NotOurs) ≡ Err x → IsFine (refusal.Office x)
submit_fine o new true true n x e = let same : refused.QueueFull ≡ x = cc in subst (λ y. IsFine (refusal.Office y)) same refl
submit_fine o new true false n x e = absurd cc
submit_fine o new false full n x e = let same : refused.NotOurs ≡ x = cc in subst (λ y. IsFine (refusal.Office y)) same refl

not_now : (x : offices.Refusal) → ◌≡◌ {A = Answer} (Err refused.NotNow) (Err x) → IsFine (refusal.Office x)
not_now x e = let same : refused.NotNow ≡ x = cc in subst (λ y. IsFine (refusal.Office y)) same refl

rule_fine : (new : Office) (may : Bool) (x : offices.Refusal) → cond {A = Answer} may (Ok (reply.Done, new)) (Err refused.NotNow) ≡ Err x → IsFine (refusal.Office x)
rule_fine new true x e = absurd cc
rule_fine new false x e = not_now x e

send_fine : (o : Office) (near : Bool) (f : Option Fields) (x : offices.Refusal) → cond {A = Answer} near (framed o f) (Err refused.NotNow) ≡ Err x → IsFine (refusal.Office x)
send_fine o true None x e = not_now x e
send_fine o true (Some f) x e = absurd cc
send_fine o false f x e = not_now x e

take_fine : (plan : PlanValue) (a : ℕ) (o : Office) (f : Fields) (y : Option ChannelFault) (x : offices.Refusal) → y ≡ None → unless_faulty plan a o f y ≡ Err x → IsFine (refusal.Office x)
take_fine plan a o f None x is e = absurd cc
take_fine plan a o f (Some y) x is e = absurd cc

pub sent_frames_are_taken : tables.EachHasOnePlace → bars.EachHasOnePlace → Always FramesAreTaken
sent_frames_are_taken forks bottles plan es c e r is = by e is
  where
    w : World
    w = run_of (opening plan) es

    seat : IsSeated plan w
    seat = seated plan es

    of_office : (a : ℕ) (e : office.Event) → ((x : offices.Refusal) → answer plan a (office_at w a) e ≡ Err x → IsFine (refusal.Office x)) → (handed w a e).0 ≡ Err r → IsFine r
    of_office a e fine is = handed_fine w a e (λ x ans. fine x (ap (λ q. answer q a (office_at w a) e) (sym (seat.plans a)) ∙ ap (λ m. answer (site_at w a).plan m (office_at w a) e) (sym (seat.numbers a)) ∙ ans)) r is

    no_frame : (delivered w None).0 ≡ Err r → IsFine r
    no_frame is = let same : refusal.NoFrame ≡ r = cc in subst IsFine same refl

    comes : (k : ℕ) (f : Option Fields) → slice_get w.frames k ≡ f → (delivered w f).0 ≡ Err r → IsFine r
    comes k None at is = no_frame is
    comes k (Some f) at is = of_office f.to (event.Took f) (λ x. take_fine plan f.to (office_at w f.to) f (frame_fault plan f.to (office_at w f.to).pairs f) x (fine forks bottles plan (state_of w) c (timely forks bottles plan es c) k f at)) is

    by : (e : WorldEvent) → (happens w e).0 ≡ Err r → IsFine r
    by (happening.Submit a p) is = of_office a (event.Submit p) (λ x. submit_fine (office_at w a) (record { pairs = (office_at w a).pairs; agenda = submitted (office_at w a).agenda p }) (is_ours plan a p) (is_full (office_at w a).agenda) ((office_at w a).agenda.tickets + 1) x) is
    by (happening.Withdraw a t) is = of_office a (event.Withdraw t) (λ x. rule_fine (withdrawn (office_at w a) t) (may_withdraw (office_at w a) t) x) is
    by (happening.Do a rule) is = of_office a (event.Do rule) (λ x. rule_fine (act a (office_at w a) rule) (may plan a (office_at w a) rule) x) is
    by (happening.Send a v i) is = of_office a (event.Send v i) (λ x. send_fine (office_at w a) (are_neighbours plan a v) (frame_on ((office_at w a).pairs.link v) i) x) is
    by (happening.Deliver zero) is = no_frame is
    by (happening.Deliver (suc k)) is = comes k (slice_get w.frames k) refl is
