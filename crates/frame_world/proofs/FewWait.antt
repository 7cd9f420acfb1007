-- So few messages wait at an office for a neighbour, and no frame is further ahead of its addressee.
use Rattle.std.proofs.Common.{◌≡◌, ℕ, zero, suc, ◌+◌, ◌*◌, ◌≤◌, true, false, List, [], ◌∷◌, length, map, refl, sym, ap, subst, ◌∙◌, arith}
use Rattle.std.specs.Prelude.{◌||◌, IsTrue}
use Rattle.std.proofs.Math.Bool.{and-false}
use Rattle.std.proofs.lemmas.List.{length-map}
use Rattle.bottle_values.specs.Lists.{num}
use Rattle.bottle_values.specs.MapLaws.{put_cases}
use Rattle.frame_codec.specs.declared.message.Msg.{Msg}
use Rattle.office_map.specs.PlanValue.{PlanValue, are_neighbours, records_between}
use Rattle.office_map.specs.Consistency.{IsConsistent}
use Rattle.token_channel.specs.declared.thing.Thing.{Thing}
use Rattle.token_channel.specs.declared.thing.Thing.TheVariants.{Fork}
use Rattle.token_channel.specs.declared.thing.SharedThing.{SharedThing}
use Rattle.token_channel.specs.Things.{same, count_carrying}
use Rattle.token_channel.specs.Places.{holds, shares, places_of, Apart}
use Rattle.token_channel.specs.Ends.{is_shared}
use Rattle.token_channel.specs.Opening.{OpensAsThePlanStarts}
use Rattle.token_channel.specs.PlaceLaws.{few_places}
use Rattle.token_channel.specs.ThingLaws.{room}
use Rattle.dining_core.specs.Worlds as tables
use Rattle.drinking_core.specs.Worlds as bars
use Rattle.site_core.specs.Pairs.{Pairs, held}
use Rattle.frame_world.specs.declared.event.WorldEvent.{WorldEvent}
use Rattle.frame_world.specs.Worlds.{World, opening, run_of}
use Rattle.frame_world.specs.Ways.{pairs_at}
use Rattle.frame_world.specs.Headline.{Always}
use Rattle.frame_world.specs.Waiting.{EachIsHeldOrWaits, FewMessagesWait, NoFrameIsFarAhead}
use Rattle.frame_world.specs.WorldStates.{State, state_of, IsAccepted}
use Rattle.frame_world.specs.WorldLaws.{seated, through}
use Rattle.frame_world.proofs.Answers.{PairStep, MayStep, step_of, all_after, is_step}
use Rattle.frame_world.proofs.Following.{pairs_in, pairs_after}
use Rattle.frame_world.proofs.SentFrames.{IsTimely, timely}
use Rattle.frame_world.proofs.WhatWaits.{StandApart, still_apart, apart_at_start}

-- ---- the things of two neighbours, none of them held

abbrev emptied : List SharedThing → List SharedThing
emptied places = map (λ (p : SharedThing). record { thing = p.thing; held = false }) places

none_held : (places : List SharedThing) (t : Thing) → holds (emptied places) t ≡ false
none_held [] t = refl
none_held (p ∷ places) t = ap (λ b. b || holds (emptied places) t) (and-false (same p.thing t)) ∙ none_held places t

same_shared : (places : List SharedThing) (t : Thing) → shares (emptied places) t ≡ shares places t
same_shared [] t = refl
same_shared (p ∷ places) t = ap (λ b. same p.thing t || b) (same_shared places t)

-- messages with things that they share, each at most once, are few
few_of : (plan : PlanValue) (a v : ℕ) (ms : List Msg) → OpensAsThePlanStarts → IsConsistent plan → are_neighbours plan a v ≡ true → ((t : Thing) → count_carrying t ms ≤ num (is_shared plan a v t)) → length ms ≤ 2 + 2 * records_between plan a v
few_of plan a v ms opens c near h =
    omega (
      arith,
      room (emptied places) ms Fork apart,
      length-map {B = SharedThing} places (λ (p : SharedThing). record { thing = p.thing; held = false }),
      few_places plan a v c is_near,
    )
  where
    places : List SharedThing
    places = places_of plan a v

    is_near : IsTrue (are_neighbours plan a v)
    is_near = grind (near, arith)

    apart : Apart (emptied places) ms
    apart t = omega (arith, h t, ap num (none_held places t), ap num (same_shared places t ∙ (opens plan a v t c is_near).shared))

-- ---- in every world

stand_apart : (plan : PlanValue) (es : List WorldEvent) → IsConsistent plan → (a : ℕ) → StandApart plan a (pairs_at (run_of (opening plan) es) a)
stand_apart plan es c = through plan (λ s. (a : ℕ) → StandApart plan a (pairs_in s a)) (λ a. apart_at_start plan a c) more es
  where
    more : (s s' : State) → ((a : ℕ) → StandApart plan a (pairs_in s a)) → IsAccepted plan s s' → (a : ℕ) → StandApart plan a (pairs_in s' a)
    more s s' h i a = subst (λ (p : ℕ → Pairs). StandApart plan a (p a)) (sym (pairs_after plan s s' i))
        (put_cases (pairs_in s) i.place new a (StandApart plan a) (λ is. subst (λ k. StandApart plan k new) (sym is) (still_apart plan i.place (pairs_in s i.place) step may (h i.place))) (λ ne. h a))
      where
        step : PairStep
        step = step_of (s.office i.place) i.event

        may : MayStep plan i.place (pairs_in s i.place) step
        may = (is_step plan i.place (s.office i.place) i.event i.reply i.new i.answered).may

        new : Pairs
        new = all_after plan i.place (pairs_in s i.place) step

pub each_is_held_or_waits : Always EachIsHeldOrWaits
each_is_held_or_waits plan es c a v t =
    let w : World = run_of (opening plan) es in
    let planned : w.plan ≡ plan = (seated plan es).planned in
    subst (λ (p : PlanValue). num (held (pairs_at w a) v t) + count_carrying t ((pairs_at w a).link v).sending.waiting ≤ num (is_shared p a v t)) (sym planned) ((stand_apart plan es c a).apart v t)

few_waiting : OpensAsThePlanStarts → (plan : PlanValue) (es : List WorldEvent) (a v : ℕ) → IsConsistent plan → are_neighbours plan a v ≡ true → length ((pairs_at (run_of (opening plan) es) a).link v).sending.waiting ≤ 2 + 2 * records_between plan a v
few_waiting opens plan es a v c near =
    let h = (stand_apart plan es c a).apart in
    few_of plan a v ((pairs_at (run_of (opening plan) es) a).link v).sending.waiting opens c near (λ t. omega (arith, h v t))

pub few_messages_wait : OpensAsThePlanStarts → Always FewMessagesWait
few_messages_wait opens plan es c a v near =
    let w : World = run_of (opening plan) es in
    let planned : w.plan ≡ plan = (seated plan es).planned in
    subst (λ (p : PlanValue). length ((pairs_at w a).link v).sending.waiting ≤ 2 + 2 * records_between p a v) (sym planned)
    (few_waiting opens plan es a v c (subst (λ (p : PlanValue). are_neighbours p a v ≡ true) planned near))

pub no_frame_is_far_ahead : OpensAsThePlanStarts → tables.EachHasOnePlace → bars.EachHasOnePlace → Always NoFrameIsFarAhead
no_frame_is_far_ahead opens forks bottles plan es c zero f e = absurd cc
no_frame_is_far_ahead opens forks bottles plan es c (suc k) f e =
    let t : IsTimely plan (state_of (run_of (opening plan) es)) = timely forks bottles plan es c in
    omega (
      arith,
      t.timely.numbered k f e,
      (t.follows.linked.linked f.from f.to).known,
      few_waiting opens plan es f.from f.to c (t.timely.near k f e),
      c.records_fit f.from f.to,
    )
