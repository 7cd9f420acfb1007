-- An office that asks for a fork lowers the work of the pairs by one.
use Rattle.std.proofs.Common.{◌≡◌, ℕ, ◌+◌, ◌*◌, ◌≤◌, Bool, true, false, not, cond, List, [], ◌∷◌, ◌++◌, length, sum_by, refl, sym, ap, ◌∙◌, arith, append-nil, eqb-true, eq-eqb}
use Rattle.std.specs.Prelude.{◌==◌, ◌&&◌, nat_lt}
use Rattle.std.specs.List.{range_with_len}
use Rattle.std.specs.Option.{option_map_or}
use Rattle.std.proofs.Math.Bool.{and-false}
use Rattle.std.proofs.lemmas.Bool.{and_parts}
use Rattle.std.proofs.lemmas.List.Sums.{sum_by-cons}
use Rattle.bottle_values.specs.Lists.{num, is_among}
use Rattle.bottle_values.specs.Maps.{put}
use Rattle.frame_codec.specs.declared.message.Msg.TheVariants as msg
use Rattle.office_map.specs.PlanValue.{PlanValue, neighbours_of, ends_of}
use Rattle.token_channel.specs.declared.thing.Thing.{Thing}
use Rattle.token_channel.specs.declared.thing.Thing.TheVariants.{Fork, ForkToken, Bottle, BottleToken}
use Rattle.token_channel.specs.Things.{same, count_carrying}
use Rattle.dining_core.specs.Diners as forks
use Rattle.site_core.specs.Pairs.{Pairs, held, fork_sends, after_fork_rule}
use Rattle.site_core.specs.neighbours.HeldLaws.{after_ask_fork}
use Rattle.frame_world.specs.Ways.{between}
use Rattle.frame_world.specs.WorkLeft.{request_work, is_behind, bottle_work, move_work, dirty_work, fork_work, pairs_work}
use Rattle.frame_world.proofs.Links.{Goes}
use Rattle.frame_world.proofs.work.RequestsGo.{is_way, way_is, Leaves, leaves, count_sent}
use Rattle.frame_world.proofs.work.WorkSums.{sum_by-more, sum_by-less}
use Rattle.frame_world.proofs.work.WorkSeen.{IsSeenSame, behind_pushed, ends_work_same}

no_more : (xs : List ℕ) → sum_by (λ (x : ℕ). 0) xs ≡ 0
no_more [] = refl
no_more (x ∷ xs) = omega (arith, sum_by-cons (λ (y : ℕ). 0) x xs, no_more xs)

-- sums of what doesn't rise
pub sum_by-no_more : (f g : ℕ → ℕ) (xs : List ℕ) → ((x : ℕ) → f x ≤ g x) → sum_by f xs ≤ sum_by g xs
sum_by-no_more f g xs le = omega (arith, sum_by-more f g (λ x. 0) xs (λ x i. omega (arith, le x)), no_more xs)

pub sum_by-one_less : (f g : ℕ → ℕ) (xs : List ℕ) → ((x : ℕ) → f x ≤ g x) → (y : ℕ) → is_among xs y ≡ true → f y + 1 ≤ g y → sum_by f xs + 1 ≤ sum_by g xs
sum_by-one_less f g xs le y i less = omega (arith, sum_by-less f g (λ x. 0) 1 xs (λ x i. omega (arith, le x)) y i (omega (arith, less)), no_more xs)

-- where a part of the pairs' work doesn't rise, and the fork of a for v falls
pub one_less : (plan : PlanValue) (pairs pairs' : ℕ → Pairs) (a v : ℕ) → is_among (range_with_len 0 (length plan.offices)) a ≡ true → is_among (neighbours_of plan a) v ≡ true →
    ((x y : ℕ) → fork_work plan pairs' x y ≤ fork_work plan pairs x y) → fork_work plan pairs' a v + 1 ≤ fork_work plan pairs a v →
    ((r : ℕ) → option_map_or (bottle_work pairs' r) (ends_of plan r) 0 ≤ option_map_or (bottle_work pairs r) (ends_of plan r) 0) → pairs_work plan pairs' + 1 ≤ pairs_work plan pairs
one_less plan pairs pairs' a v inside near none less bottles =
    omega (
      arith,
      sum_by-one_less (λ x. sum_by (fork_work plan pairs' x) (neighbours_of plan x)) (λ x. sum_by (fork_work plan pairs x) (neighbours_of plan x)) (range_with_len 0 (length plan.offices))
          (λ x. sum_by-no_more (fork_work plan pairs' x) (fork_work plan pairs x) (neighbours_of plan x) (none x)) a inside
          (sum_by-one_less (fork_work plan pairs' a) (fork_work plan pairs a) (neighbours_of plan a) (none a) v near less),
      sum_by-no_more (λ r. option_map_or (bottle_work pairs' r) (ends_of plan r) 0) (λ r. option_map_or (bottle_work pairs r) (ends_of plan r) 0) (range_with_len 0 (length plan.records)) bottles,
    )

-- ---- what a change of one office leaves

pub kept_at : {X : Type 0} (g : Pairs → X) (pairs : ℕ → Pairs) (a : ℕ) (p' : Pairs) → g p' ≡ g (pairs a) → (x : ℕ) → g (put pairs a p' x) ≡ g (pairs x)
kept_at g pairs a p' e x = go (x == a) refl
  where
    go : (b : Bool) → (x == a) ≡ b → g (cond b p' (pairs x)) ≡ g (pairs x)
    go true i = e ∙ ap (λ k. g (pairs k)) (sym (eqb-true x a i))
    go false i = refl

-- all but the fork's token is held as it was
held_still : (p : Pairs) (v u : ℕ) (t : Thing) → same t ForkToken ≡ false → held (after_fork_rule p (forks.AskFork v)) u t ≡ held p u t
held_still p v u Fork e = refl
held_still p v u ForkToken e = absurd cc
held_still p v u (Bottle r) e = refl
held_still p v u (BottleToken r) e = refl

pub fork_asked : (plan : PlanValue) (pairs : ℕ → Pairs) (a v : ℕ) → is_among (range_with_len 0 (length plan.offices)) a ≡ true → is_among (neighbours_of plan a) v ≡ true → forks.may (pairs a).diner (forks.AskFork v) ≡ true →
    Goes pairs a (fork_sends (forks.AskFork v)) (put pairs a (after_fork_rule (pairs a) (forks.AskFork v))) → pairs_work plan (put pairs a (after_fork_rule (pairs a) (forks.AskFork v))) + 1 ≤ pairs_work plan pairs
fork_asked plan pairs a v inside near may g = one_less plan pairs (put pairs a (after_fork_rule (pairs a) (forks.AskFork v))) a v inside near (λ x y. omega (arith, fork_falls x y)) (omega (arith, fork_falls a v, here)) (λ r. omega (arith, ends_work_same pairs (put pairs a (after_fork_rule (pairs a) (forks.AskFork v))) r (seen r) plan))
  where
    parts : (not ((pairs a).diner.held v) ≡ true) × ((pairs a).diner.token v ≡ true)
    parts = and_parts (not ((pairs a).diner.held v)) ((pairs a).diner.token v) (and_parts (forks.is_hungry (pairs a).diner.phase) (not ((pairs a).diner.held v) && (pairs a).diner.token v) may).1

    l : Leaves pairs (put pairs a (after_fork_rule (pairs a) (forks.AskFork v))) a v msg.AskFork
    l = leaves pairs a v msg.AskFork (after_fork_rule (pairs a) (forks.AskFork v)) (after_ask_fork (pairs a).diner (pairs a).drinker v) parts.1 g

    here : num (is_way a v a v) ≡ 1
    here = ap (λ b. num (b && (v == v))) (eq-eqb a a refl) ∙ ap num (eq-eqb v v refl)

    held_same : (x y : ℕ) (t : Thing) → same t ForkToken ≡ false → held (put pairs a (after_fork_rule (pairs a) (forks.AskFork v)) x) y t ≡ held (pairs x) y t
    held_same x y t e = kept_at (λ p. held p y t) pairs a (after_fork_rule (pairs a) (forks.AskFork v)) (held_still (pairs a) v y t e) x

    clean_same : (x y : ℕ) → (put pairs a (after_fork_rule (pairs a) (forks.AskFork v)) x).diner.clean y ≡ (pairs x).diner.clean y
    clean_same x y = kept_at (λ p. p.diner.clean y) pairs a (after_fork_rule (pairs a) (forks.AskFork v)) refl x

    sent : (x y : ℕ) (t : Thing) → count_carrying t (between (put pairs a (after_fork_rule (pairs a) (forks.AskFork v))) x y) ≡ count_carrying t (between pairs x y) + num (is_way a v x y && same t ForkToken)
    sent x y t = count_sent (is_way a v x y) t (between pairs x y) (between (put pairs a (after_fork_rule (pairs a) (forks.AskFork v))) x y) msg.AskFork (l.ways x y)

    sent_same : (x y : ℕ) (t : Thing) → same t ForkToken ≡ false → count_carrying t (between (put pairs a (after_fork_rule (pairs a) (forks.AskFork v))) x y) ≡ count_carrying t (between pairs x y)
    sent_same x y t e = omega (arith, sent x y t, ap (λ b. num (is_way a v x y && b)) e, ap num (and-false (is_way a v x y)))

    behind_same : (r x y : ℕ) → is_behind r (between (put pairs a (after_fork_rule (pairs a) (forks.AskFork v))) x y) ≡ is_behind r (between pairs x y)
    behind_same r x y = ap (is_behind r) (l.ways x y) ∙ go (is_way a v x y)
      where
        go : (w : Bool) → is_behind r (between pairs x y ++ cond w (msg.AskFork ∷ []) []) ≡ is_behind r (between pairs x y)
        go true = behind_pushed r (between pairs x y) msg.AskFork refl
        go false = ap (is_behind r) (append-nil (between pairs x y))

    seen : (r : ℕ) → IsSeenSame pairs (put pairs a (after_fork_rule (pairs a) (forks.AskFork v))) r
    seen r = record {
      held = held_same;
      needed = λ x. kept_at (λ p. p.drinker.needed r) pairs a (after_fork_rule (pairs a) (forks.AskFork v)) refl x;
      sent = sent_same;
      behind = behind_same r;
    }

    -- a token that is here without its fork is two, and on the way one
    spent : (w tok tok' fork : Bool) → (w ≡ true → fork ≡ false) → num tok' + num (w && true) ≤ num tok → num (w && true) + (2 * num (tok' && not fork) + num w) ≤ 2 * num (tok && not fork)
    spent true tok true fork f le = absurd (omega (arith, le, few tok))
      where
        few : (b : Bool) → num b ≤ 1
        few true = omega arith
        few false = omega arith
    spent true true false true f le = let no : true ≡ false = f refl in absurd cc
    spent true true false false f le = omega arith
    spent true false false fork f le = absurd (omega (arith, le))
    spent false true true fork f le = omega arith
    spent false true false fork f le = omega arith
    spent false false false fork f le = omega arith
    spent false false true fork f le = absurd (omega (arith, le))

    away : (x y : ℕ) → is_way a v x y ≡ true → held (pairs x) y Fork ≡ false
    away x y i = let w = way_is a v x y i in ap (λ k. held (pairs k) y Fork) w.0 ∙ ap (λ k. held (pairs a) k Fork) w.1 ∙ no_fork ((pairs a).diner.held v) parts.0
      where
        no_fork : (b : Bool) → not b ≡ true → b ≡ false
        no_fork true e = absurd cc
        no_fork false e = refl

    request_falls : (x y : ℕ) → request_work (put pairs a (after_fork_rule (pairs a) (forks.AskFork v))) x y Fork ForkToken + num (is_way a v x y) ≤ request_work pairs x y Fork ForkToken
    request_falls x y =
        omega (
          arith,
          sent x y ForkToken,
          spent (is_way a v x y) (held (pairs x) y ForkToken) (held (put pairs a (after_fork_rule (pairs a) (forks.AskFork v)) x) y ForkToken) (held (pairs x) y Fork) (away x y) (l.held x y ForkToken),
          ap (λ b. num (held (put pairs a (after_fork_rule (pairs a) (forks.AskFork v)) x) y ForkToken && not b)) (held_same x y Fork refl),
        )

    fork_falls : (x y : ℕ) → fork_work plan (put pairs a (after_fork_rule (pairs a) (forks.AskFork v))) x y + num (is_way a v x y) ≤ fork_work plan pairs x y
    fork_falls x y =
        omega (
          arith,
          request_falls x y,
          ap (λ b. cond (b && not ((put pairs a (after_fork_rule (pairs a) (forks.AskFork v)) x).diner.clean y)) (dirty_work plan x y) 0) (held_same x y Fork refl)
              ∙ ap (λ b. cond ((pairs x).diner.held y && not b) (dirty_work plan x y) 0) (clean_same x y),
          ap (λ n. cond (nat_lt 0 n) (move_work plan x y) 0) (sent_same x y Fork refl),
        )
