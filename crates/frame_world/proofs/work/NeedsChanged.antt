-- A session that starts or ends changes what its office needs: each of its bottles may be given twice again at most. And what changes nothing that the work of the pairs looks at.
use Rattle.std.proofs.Common.{◌≡◌, ℕ, ◌+◌, ◌≤◌, Bool, false, cond, List, Option, refl, ap, ◌∙◌, arith}
use Rattle.std.specs.Prelude.{◌==◌}
use Rattle.bottle_values.specs.declared.Value.{Value}
use Rattle.bottle_values.specs.Maps.{put}
use Rattle.frame_codec.specs.declared.message.Msg.{Msg}
use Rattle.office_map.specs.PlanValue.{PlanValue}
use Rattle.token_channel.specs.declared.thing.Thing.{Thing}
use Rattle.token_channel.specs.declared.thing.Thing.TheVariants.{Fork, ForkToken, Bottle, BottleToken}
use Rattle.token_channel.specs.Things.{count_carrying}
use Rattle.dining_core.specs.Diners as forks
use Rattle.drinking_core.specs.Drinkers as bottles
use Rattle.site_core.specs.Pairs.{Pairs, held, fork_sends, bottle_sends, after_fork_rule, after_bottle_rule}
use Rattle.site_core.specs.neighbours.HeldLaws.{IsLike, like_started, like_finished, like_withdrawn}
use Rattle.site_core.specs.neighbours.Pairs.{held_by}
use Rattle.frame_world.specs.Ways.{between}
use Rattle.frame_world.specs.WorkLeft.{fork_work, pairs_work, change_work}
use Rattle.frame_world.proofs.Answers.{Stays}
use Rattle.frame_world.proofs.Links.{Goes}
use Rattle.frame_world.proofs.WaysBetween.{nothing_sent}
use Rattle.frame_world.proofs.TablesFollow.{put_kept}
use Rattle.frame_world.proofs.Following.{moved}
use Rattle.frame_world.proofs.work.BottleGives.{fork_work_same}
use Rattle.frame_world.proofs.work.ForkAsked.{kept_at}
use Rattle.frame_world.proofs.work.WorkParts.{forks_stay, bottles_stay, bottles_rise_at, fork_work_at, view_of, view, view_stays, work_stays, IsRestSame, work_rises, record_rises_at, record_stays, work_of_record}

-- ---- what an office needs changes

module _ (plan : PlanValue) (pairs : ℕ → Pairs) (a : ℕ) (p' : Pairs) (diner_is : p'.diner ≡ (pairs a).diner) (like : IsLike (pairs a).drinker p'.drinker) (ways_are : between (put pairs a p') ≡ between pairs) where
  counts : (x y : ℕ) (t : Thing) → count_carrying t (between (put pairs a p') x y) ≡ count_carrying t (between pairs x y)
  counts x y t = ap (λ (b : ℕ → ℕ → List Msg). count_carrying t (b x y)) ways_are

  held_same : (x y : ℕ) (t : Thing) → held (put pairs a p' x) y t ≡ held (pairs x) y t
  held_same x y t = kept_at (λ p. held p y t) pairs a p' (ap (λ d. held_by d p'.drinker y t) diner_is ∙ like.held (pairs a).diner y t) x

  fork_stays : (x y : ℕ) → fork_work plan (put pairs a p') x y ≡ fork_work plan pairs x y
  fork_stays x y = fork_work_same plan pairs (put pairs a p') x y (kept_at (λ p. p.diner) pairs a p' diner_is x) (counts x y Fork) (counts x y ForkToken)

  rest : (r : ℕ) → IsRestSame pairs (put pairs a p') r
  rest r = record {
    bottle = λ x y. held_same x y (Bottle r);
    token = λ x y. held_same x y (BottleToken r);
    bottles = λ x y. counts x y (Bottle r);
    tokens = λ x y. counts x y (BottleToken r);
  }

  other_view : (r x y : ℕ) → (x == a) ≡ false → view (put pairs a p') r x y ≡ view pairs r x y
  other_view r x y off = view_stays pairs (put pairs a p') r x y (held_same x y Fork) (ap (λ b. (cond b p' (pairs x)).drinker) off) (ap (λ (b : ℕ → ℕ → List Msg). b x y) ways_are)

  pub needs_changed : pairs_work plan (put pairs a p') ≤ pairs_work plan pairs + change_work plan a
  needs_changed =
      omega (
        arith,
        forks_stay plan pairs (put pairs a p') (λ x y. omega (arith, fork_stays x y)),
        bottles_rise_at plan pairs (put pairs a p') a
            (λ r. record_rises_at plan pairs (put pairs a p') a r (work_rises pairs (put pairs a p') r (rest r)) (λ x y ex ey. work_stays pairs (put pairs a p') r x y (other_view r x y ex) (other_view r y x ey))),
      )

pub session_starts : (plan : PlanValue) (pairs : ℕ → Pairs) (a : ℕ) (session : Option (List ℕ)) → Goes pairs a (bottle_sends (pairs a).drinker (bottles.Start session)) (put pairs a (after_bottle_rule (pairs a) (bottles.Start session))) →
    pairs_work plan (put pairs a (after_bottle_rule (pairs a) (bottles.Start session))) ≤ pairs_work plan pairs + change_work plan a
session_starts plan pairs a session g =
    let p' : Pairs = after_bottle_rule (pairs a) (bottles.Start session) in
    needs_changed plan pairs a p' refl (like_started (pairs a).drinker session) (nothing_sent pairs (put pairs a p') a g)

pub session_finishes : (plan : PlanValue) (pairs : ℕ → Pairs) (a : ℕ) (writes : Option (List (ℕ × Value))) → Goes pairs a (bottle_sends (pairs a).drinker (bottles.Finish writes)) (put pairs a (after_bottle_rule (pairs a) (bottles.Finish writes))) →
    pairs_work plan (put pairs a (after_bottle_rule (pairs a) (bottles.Finish writes))) ≤ pairs_work plan pairs + change_work plan a
session_finishes plan pairs a writes g =
    let p' : Pairs = after_bottle_rule (pairs a) (bottles.Finish writes) in
    needs_changed plan pairs a p' refl (like_finished (pairs a).drinker writes) (nothing_sent pairs (put pairs a p') a g)

pub session_withdrawn : (plan : PlanValue) (pairs : ℕ → Pairs) (a : ℕ) → Goes pairs a (bottle_sends (pairs a).drinker bottles.Withdraw) (put pairs a (after_bottle_rule (pairs a) bottles.Withdraw)) →
    pairs_work plan (put pairs a (after_bottle_rule (pairs a) bottles.Withdraw)) ≤ pairs_work plan pairs + change_work plan a
session_withdrawn plan pairs a g =
    let p' : Pairs = after_bottle_rule (pairs a) bottles.Withdraw in
    needs_changed plan pairs a p' refl (like_withdrawn (pairs a).drinker) (nothing_sent pairs (put pairs a p') a g)

-- ---- nothing that is looked at changes

-- an office's own part of what is looked at
pub record ShowsSame (p p' : Pairs) : Type 0 where
  pub held : p'.diner.held ≡ p.diner.held
  pub clean : p'.diner.clean ≡ p.diner.clean
  pub token : p'.diner.token ≡ p.diner.token
  pub views : (r y : ℕ) (fork : Bool) (ms : List Msg) → view_of r y fork p'.drinker ms ≡ view_of r y fork p.drinker ms

pub work_as_it_was : (plan : PlanValue) (pairs : ℕ → Pairs) (a : ℕ) (p' : Pairs) → ShowsSame (pairs a) p' → between (put pairs a p') ≡ between pairs → pairs_work plan (put pairs a p') ≡ pairs_work plan pairs
work_as_it_was plan pairs a p' s ways_are =
    omega (
      arith,
      forks_stay plan pairs pairs' (λ x y. omega (arith, fork_same x y)),
      forks_stay plan pairs' pairs (λ x y. omega (arith, fork_same x y)),
      bottles_stay plan pairs pairs' (λ r. omega (arith, record_same r)),
      bottles_stay plan pairs' pairs (λ r. omega (arith, record_same r)),
    )
  where
    pairs' : ℕ → Pairs
    pairs' = put pairs a p'

    ways : (x y : ℕ) → between pairs' x y ≡ between pairs x y
    ways x y = ap (λ (b : ℕ → ℕ → List Msg). b x y) ways_are

    held_same : (x y : ℕ) → (pairs' x).diner.held y ≡ (pairs x).diner.held y
    held_same x y = kept_at (λ p. p.diner.held y) pairs a p' (ap (λ f. f y) s.held) x

    fork_same : (x y : ℕ) → fork_work plan pairs' x y ≡ fork_work plan pairs x y
    fork_same x y =
        fork_work_at plan pairs' x y ((pairs x).diner.held y) ((pairs x).diner.clean y) ((pairs x).diner.token y) (count_carrying Fork (between pairs x y)) (count_carrying ForkToken (between pairs x y)) (held_same x y)
        (kept_at (λ p. p.diner.clean y) pairs a p' (ap (λ f. f y) s.clean) x) (kept_at (λ p. p.diner.token y) pairs a p' (ap (λ f. f y) s.token) x) (ap (count_carrying Fork) (ways x y)) (ap (count_carrying ForkToken) (ways x y))

    same_view : (r x y : ℕ) → view pairs' r x y ≡ view pairs r x y
    same_view r x y =
        ap (λ b. view_of r y b (pairs' x).drinker (between pairs' x y)) (held_same x y)
        ∙ ap (view_of r y ((pairs x).diner.held y) (pairs' x).drinker) (ways x y)
        ∙ kept_at (λ p. view_of r y ((pairs x).diner.held y) p.drinker (between pairs x y)) pairs a p' (s.views r y ((pairs x).diner.held y) (between pairs x y)) x

    record_same : (r : ℕ) → work_of_record plan pairs' r ≡ work_of_record plan pairs r
    record_same r = record_stays plan pairs pairs' r (λ x y. work_stays pairs pairs' r x y (same_view r x y) (same_view r y x))

pub hungry_as_it_was : (plan : PlanValue) (pairs : ℕ → Pairs) (a : ℕ) (thirsty : Bool) → Goes pairs a (fork_sends (forks.BecomeHungry thirsty)) (put pairs a (after_fork_rule (pairs a) (forks.BecomeHungry thirsty))) →
    pairs_work plan (put pairs a (after_fork_rule (pairs a) (forks.BecomeHungry thirsty))) ≡ pairs_work plan pairs
hungry_as_it_was plan pairs a thirsty g =
    let p' : Pairs = after_fork_rule (pairs a) (forks.BecomeHungry thirsty) in
    work_as_it_was plan pairs a p' (record { held = refl; clean = refl; token = refl; views = λ r y fork ms. refl }) (nothing_sent pairs (put pairs a p') a g)

pub leave_as_it_was : (plan : PlanValue) (pairs : ℕ → Pairs) (a : ℕ) (thirsty : Bool) → Goes pairs a (fork_sends (forks.Leave thirsty)) (put pairs a (after_fork_rule (pairs a) (forks.Leave thirsty))) →
    pairs_work plan (put pairs a (after_fork_rule (pairs a) (forks.Leave thirsty))) ≡ pairs_work plan pairs
leave_as_it_was plan pairs a thirsty g =
    let p' : Pairs = after_fork_rule (pairs a) (forks.Leave thirsty) in
    work_as_it_was plan pairs a p' (record { held = refl; clean = refl; token = refl; views = λ r y fork ms. refl }) (nothing_sent pairs (put pairs a p') a g)

pub drink_as_it_was : (plan : PlanValue) (pairs : ℕ → Pairs) (a : ℕ) → Goes pairs a (bottle_sends (pairs a).drinker bottles.Drink) (put pairs a (after_bottle_rule (pairs a) bottles.Drink)) →
    pairs_work plan (put pairs a (after_bottle_rule (pairs a) bottles.Drink)) ≡ pairs_work plan pairs
drink_as_it_was plan pairs a g =
    let p' : Pairs = after_bottle_rule (pairs a) bottles.Drink in
    work_as_it_was plan pairs a p' (record { held = refl; clean = refl; token = refl; views = λ r y fork ms. refl }) (nothing_sent pairs (put pairs a p') a g)

-- a piece of work, a session that waits, and a frame that is sent are nothing to the pairs
pub stays_as_it_was : (plan : PlanValue) (pairs : ℕ → Pairs) (a : ℕ) → pairs_work plan (moved pairs a Stays) ≡ pairs_work plan pairs
stays_as_it_was plan pairs a = ap (pairs_work plan) (put_kept pairs a (pairs a) refl)
