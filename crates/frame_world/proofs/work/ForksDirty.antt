-- Eating makes each fork of an office dirty, and changes nothing else that the work of the pairs looks at.
use Rattle.std.proofs.Common.{◌≡◌, ℕ, ◌+◌, ◌≤◌, Bool, true, false, not, cond, List, length, sum_by, refl, ap, arith, eqb-true}
use Rattle.std.specs.Prelude.{◌==◌, ◌&&◌}
use Rattle.std.specs.List.{range_with_len}
use Rattle.bottle_values.specs.Maps.{put}
use Rattle.frame_codec.specs.declared.message.Msg.{Msg}
use Rattle.office_map.specs.PlanValue.{PlanValue, neighbours_of}
use Rattle.token_channel.specs.declared.thing.Thing.TheVariants.{Fork, ForkToken}
use Rattle.token_channel.specs.Things.{count_carrying}
use Rattle.dining_core.specs.Diners as forks
use Rattle.site_core.specs.Pairs.{Pairs, fork_sends, after_fork_rule}
use Rattle.frame_world.specs.Ways.{between}
use Rattle.frame_world.specs.WorkLeft.{dirty_work, fork_work, pairs_work, turn_work}
use Rattle.frame_world.proofs.Links.{Goes}
use Rattle.frame_world.proofs.WaysBetween.{nothing_sent}
use Rattle.frame_world.proofs.work.WorkSums.{sum_by-more}
use Rattle.frame_world.proofs.work.ForkAsked.{sum_by-no_more, kept_at}
use Rattle.frame_world.proofs.work.WorkParts.{part_of, once_in_range, bottles_stay, fork_at, fork_work_at, view, view_stays, work_stays, record_stays}

-- a fork that may be dirty now
dirty_more : (plan : PlanValue) (x y : ℕ) (held clean clean' token : Bool) (n k : ℕ) → fork_at plan x y held clean' token n k ≤ fork_at plan x y held clean token n k + dirty_work plan x y
dirty_more plan x y held clean clean' token n k = omega (arith, part_of (held && not clean') (dirty_work plan x y))

pub forks_dirty : (plan : PlanValue) (pairs : ℕ → Pairs) (a : ℕ) → Goes pairs a (fork_sends forks.Eat) (put pairs a (after_fork_rule (pairs a) forks.Eat)) → pairs_work plan (put pairs a (after_fork_rule (pairs a) forks.Eat)) ≤ pairs_work plan pairs + turn_work plan a
forks_dirty plan pairs a g =
    omega (
      arith,
      sum_by-more (λ x. sum_by (fork_work plan pairs' x) (neighbours_of plan x)) (λ x. sum_by (fork_work plan pairs x) (neighbours_of plan x)) (λ x. cond (x == a) (turn_work plan a) 0) (range_with_len 0 (length plan.offices)) (λ x i. row x),
      once_in_range (turn_work plan a) a 0 (length plan.offices),
      bottles_stay plan pairs pairs' (λ r. omega (arith, record_stays plan pairs pairs' r (λ x y. work_stays pairs pairs' r x y (same_view r x y) (same_view r y x)))),
    )
  where
    pairs' : ℕ → Pairs
    pairs' = put pairs a (after_fork_rule (pairs a) forks.Eat)

    ways : (x y : ℕ) → between pairs' x y ≡ between pairs x y
    ways x y = ap (λ (b : ℕ → ℕ → List Msg). b x y) (nothing_sent pairs pairs' a g)

    held_same : (x y : ℕ) → (pairs' x).diner.held y ≡ (pairs x).diner.held y
    held_same x y = kept_at (λ p. p.diner.held y) pairs a (after_fork_rule (pairs a) forks.Eat) refl x

    same_view : (r x y : ℕ) → view pairs' r x y ≡ view pairs r x y
    same_view r x y = view_stays pairs pairs' r x y (held_same x y) (kept_at (λ p. p.drinker) pairs a (after_fork_rule (pairs a) forks.Eat) refl x) (ways x y)

    fork_is : (x y : ℕ) (clean : Bool) → (pairs' x).diner.clean y ≡ clean → fork_work plan pairs' x y ≡ fork_at plan x y ((pairs x).diner.held y) clean ((pairs x).diner.token y) (count_carrying Fork (between pairs x y)) (count_carrying ForkToken (between pairs x y))
    fork_is x y clean e =
        fork_work_at plan pairs' x y ((pairs x).diner.held y) clean ((pairs x).diner.token y) (count_carrying Fork (between pairs x y)) (count_carrying ForkToken (between pairs x y)) (held_same x y) e
        (kept_at (λ p. p.diner.token y) pairs a (after_fork_rule (pairs a) forks.Eat) refl x) (ap (count_carrying Fork) (ways x y)) (ap (count_carrying ForkToken) (ways x y))

    more : (x y : ℕ) → fork_work plan pairs' x y ≤ fork_work plan pairs x y + dirty_work plan x y
    more x y =
        omega (
          arith,
          fork_is x y ((pairs' x).diner.clean y) refl,
          dirty_more plan x y ((pairs x).diner.held y) ((pairs x).diner.clean y) ((pairs' x).diner.clean y) ((pairs x).diner.token y) (count_carrying Fork (between pairs x y)) (count_carrying ForkToken (between pairs x y)),
        )

    clean_off : (x y : ℕ) → (x == a) ≡ false → (pairs' x).diner.clean y ≡ (pairs x).diner.clean y
    clean_off x y off = ap (λ b. (cond b (after_fork_rule (pairs a) forks.Eat) (pairs x)).diner.clean y) off

    row : (x : ℕ) → sum_by (fork_work plan pairs' x) (neighbours_of plan x) ≤ sum_by (fork_work plan pairs x) (neighbours_of plan x) + cond (x == a) (turn_work plan a) 0
    row x = go (x == a) refl
      where
        go : (b : Bool) → (x == a) ≡ b → sum_by (fork_work plan pairs' x) (neighbours_of plan x) ≤ sum_by (fork_work plan pairs x) (neighbours_of plan x) + cond b (turn_work plan a) 0
        go true i = omega (arith, sum_by-more (fork_work plan pairs' x) (fork_work plan pairs x) (dirty_work plan x) (neighbours_of plan x) (λ y j. more x y), ap (turn_work plan) (eqb-true x a i))
        go false i = omega (arith, sum_by-no_more (fork_work plan pairs' x) (fork_work plan pairs x) (neighbours_of plan x) (λ y. omega (arith, fork_is x y ((pairs x).diner.clean y) (clean_off x y i))))
