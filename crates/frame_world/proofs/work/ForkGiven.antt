-- An office that gives a fork lowers the work of the pairs by one: the fork was dirty, and each bottle of the two may be given twice again at most.
use Rattle.std.proofs.Common.{◌≡◌, ℕ, ◌+◌, ◌≤◌, Bool, true, false, not, cond, [], ◌∷◌, ◌++◌, length, refl, sym, ap, subst, ◌∙◌, arith, append-nil}
use Rattle.std.specs.Prelude.{◌&&◌, nat_lt}
use Rattle.std.specs.List.{range_with_len}
use Rattle.std.proofs.Math.Bool.{and-false}
use Rattle.std.proofs.lemmas.Bool.{and_parts}
use Rattle.bottle_values.specs.Lists.{num, is_among}
use Rattle.bottle_values.specs.ListLaws.{num_one}
use Rattle.bottle_values.specs.Maps.{put}
use Rattle.bottle_values.specs.MapLaws.{put_same}
use Rattle.frame_codec.specs.declared.message.Msg.TheVariants as msg
use Rattle.office_map.specs.PlanValue.{PlanValue, neighbours_of}
use Rattle.token_channel.specs.declared.thing.Thing.{Thing}
use Rattle.token_channel.specs.declared.thing.Thing.TheVariants.{Fork, ForkToken, Bottle, BottleToken}
use Rattle.token_channel.specs.Things.{same, count_carrying}
use Rattle.dining_core.specs.Diners.{Diner}
use Rattle.dining_core.specs.Diners as forks
use Rattle.site_core.specs.Pairs.{Pairs, held, fork_sends, after_fork_rule}
use Rattle.site_core.specs.neighbours.HeldLaws.{after_give_fork}
use Rattle.frame_world.specs.Ways.{between}
use Rattle.frame_world.specs.WorkLeft.{move_work, fork_work, pairs_work}
use Rattle.frame_world.proofs.Links.{Goes}
use Rattle.frame_world.proofs.work.RequestsGo.{is_way, way_is, Leaves, leaves, count_sent}
use Rattle.frame_world.proofs.work.ForkAsked.{kept_at}
use Rattle.frame_world.proofs.work.WorkParts.{part_of, forks_fall, bottles_rise_between, fork_at, fork_work_at, held_elsewhere, view, view_stays, work_stays, IsRestSame, work_rises, record_rises_between}

-- a dirty fork that is given, of which the token stays
given_here : (plan : PlanValue) (a v : ℕ) (clean token : Bool) (n n' k : ℕ) → fork_at plan a v false clean token n' k + move_work plan a v ≤ fork_at plan a v true false token n k
given_here plan a v clean token n n' k = omega (arith, part_of (nat_lt 0 n') (move_work plan a v), num_one (token && true))

not_true : (b : Bool) → not b ≡ true → b ≡ false
not_true true e = absurd cc
not_true false e = refl

pub fork_given : (plan : PlanValue) (pairs : ℕ → Pairs) (a v : ℕ) → is_among (range_with_len 0 (length plan.offices)) a ≡ true → is_among (neighbours_of plan a) v ≡ true → forks.may (pairs a).diner (forks.GiveFork v) ≡ true →
    Goes pairs a (fork_sends (forks.GiveFork v)) (put pairs a (after_fork_rule (pairs a) (forks.GiveFork v))) → pairs_work plan (put pairs a (after_fork_rule (pairs a) (forks.GiveFork v))) + 1 ≤ pairs_work plan pairs
fork_given plan pairs a v inside near may g =
    omega (
      arith,
      forks_fall plan pairs pairs' a v (move_work plan a v) inside near (λ x y. fork_stays x y (is_way a v x y) refl) fork_falls,
      bottles_rise_between plan pairs pairs' a v (λ r. record_rises_between plan pairs pairs' a v r (work_rises pairs pairs' r (rest r)) (λ x y off back. work_stays pairs pairs' r x y (same_view r x y off) (same_view r y x back))),
    )
  where
    d : Diner
    d = (pairs a).diner

    pairs' : ℕ → Pairs
    pairs' = put pairs a (after_fork_rule (pairs a) (forks.GiveFork v))

    parts : (d.held v ≡ true) × (not (d.clean v) ≡ true)
    parts = and_parts (d.held v) (not (d.clean v)) (and_parts (d.token v) (d.held v && not (d.clean v)) (and_parts (not (forks.is_eating d.phase)) (d.token v && (d.held v && not (d.clean v))) may).1).1

    l : Leaves pairs pairs' a v msg.Fork
    l = leaves pairs a v msg.Fork (after_fork_rule (pairs a) (forks.GiveFork v)) (after_give_fork (pairs a).diner (pairs a).drinker v) parts.0 g

    sent : (x y : ℕ) (t : Thing) → same t Fork ≡ false → count_carrying t (between pairs' x y) ≡ count_carrying t (between pairs x y)
    sent x y t e = omega (arith, count_sent (is_way a v x y) t (between pairs x y) (between pairs' x y) msg.Fork (l.ways x y), ap (λ b. num (is_way a v x y && b)) e, ap num (and-false (is_way a v x y)))

    same_way : (x y : ℕ) → is_way a v x y ≡ false → between pairs' x y ≡ between pairs x y
    same_way x y off = l.ways x y ∙ ap (λ w. between pairs x y ++ cond w (msg.Fork ∷ []) []) off ∙ append-nil (between pairs x y)

    held_off : (x y : ℕ) → is_way a v x y ≡ false → (pairs' x).diner.held y ≡ (pairs x).diner.held y
    held_off = held_elsewhere pairs a v false (after_fork_rule (pairs a) (forks.GiveFork v)) refl

    clean_same : (x y : ℕ) → (pairs' x).diner.clean y ≡ (pairs x).diner.clean y
    clean_same x y = kept_at (λ p. p.diner.clean y) pairs a (after_fork_rule (pairs a) (forks.GiveFork v)) refl x

    token_same : (x y : ℕ) → (pairs' x).diner.token y ≡ (pairs x).diner.token y
    token_same x y = kept_at (λ p. p.diner.token y) pairs a (after_fork_rule (pairs a) (forks.GiveFork v)) refl x

    gone : (pairs' a).diner.held v ≡ false
    gone = ap (λ p. p.diner.held v) (put_same pairs a (after_fork_rule (pairs a) (forks.GiveFork v))) ∙ put_same d.held v false

    fork_falls : fork_work plan pairs' a v + move_work plan a v ≤ fork_work plan pairs a v
    fork_falls =
        omega (
          arith,
          fork_work_at plan pairs' a v false (d.clean v) (d.token v) (count_carrying Fork (between pairs' a v)) (count_carrying ForkToken (between pairs a v)) gone (clean_same a v) (token_same a v) refl (sent a v ForkToken refl),
          fork_work_at plan pairs a v true false (d.token v) (count_carrying Fork (between pairs a v)) (count_carrying ForkToken (between pairs a v)) parts.0 (not_true (d.clean v) parts.1) refl refl refl,
          given_here plan a v (d.clean v) (d.token v) (count_carrying Fork (between pairs a v)) (count_carrying Fork (between pairs' a v)) (count_carrying ForkToken (between pairs a v)),
        )

    fork_stays : (x y : ℕ) (w : Bool) → is_way a v x y ≡ w → fork_work plan pairs' x y ≤ fork_work plan pairs x y
    fork_stays x y true i =
        let w : (x ≡ a) × (y ≡ v) = way_is a v x y i in
        let less : fork_work plan pairs' a v ≤ fork_work plan pairs a v = omega (arith, fork_falls) in
        subst (λ k. fork_work plan pairs' k y ≤ fork_work plan pairs k y) (sym w.0) (subst (λ k. fork_work plan pairs' a k ≤ fork_work plan pairs a k) (sym w.1) less)
    fork_stays x y false i =
        omega (
          arith,
          fork_work_at plan pairs' x y ((pairs x).diner.held y) ((pairs x).diner.clean y) ((pairs x).diner.token y) (count_carrying Fork (between pairs x y)) (count_carrying ForkToken (between pairs x y)) (held_off x y i) (clean_same x y) (token_same x y)
              (ap (count_carrying Fork) (same_way x y i)) (sent x y ForkToken refl),
        )

    same_view : (r x y : ℕ) → is_way a v x y ≡ false → view pairs' r x y ≡ view pairs r x y
    same_view r x y off = view_stays pairs pairs' r x y (held_off x y off) (kept_at (λ p. p.drinker) pairs a (after_fork_rule (pairs a) (forks.GiveFork v)) refl x) (same_way x y off)

    rest : (r : ℕ) → IsRestSame pairs pairs' r
    rest r = record {
      bottle = λ x y. kept_at (λ p. held p y (Bottle r)) pairs a (after_fork_rule (pairs a) (forks.GiveFork v)) refl x;
      token = λ x y. kept_at (λ p. held p y (BottleToken r)) pairs a (after_fork_rule (pairs a) (forks.GiveFork v)) refl x;
      bottles = λ x y. sent x y (Bottle r) refl;
      tokens = λ x y. sent x y (BottleToken r) refl;
    }
