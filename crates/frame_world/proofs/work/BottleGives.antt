-- How often a bottle may still be given is as it was where its token is spent by an office that needs it; and what the work of forks looks at.
use Rattle.std.proofs.Common.{◌≡◌, ℕ, ◌+◌, ◌*◌, ◌≤◌, Bool, true, false, not, cond, ◌⊎◌, inl, inr, refl, ap, ◌∙◌, arith}
use Rattle.std.specs.Prelude.{◌&&◌, ◌||◌, nat_lt}
use Rattle.bottle_values.specs.Lists.{num}
use Rattle.office_map.specs.PlanValue.{PlanValue}
use Rattle.dining_core.specs.Diners.{Diner}
use Rattle.token_channel.specs.declared.thing.Thing.TheVariants.{Fork, ForkToken, Bottle, BottleToken}
use Rattle.token_channel.specs.Things.{count_carrying}
use Rattle.site_core.specs.Pairs.{Pairs, held}
use Rattle.frame_world.specs.Ways.{between}
use Rattle.frame_world.specs.WorkLeft.{is_sent, is_near, request_work, gives_by_needs, gives_by_order, is_behind, gives_between, gives_left, bottle_work, move_work, dirty_work, fork_work}

-- ---- forks

abbrev fork_of : PlanValue → ℕ → ℕ → Diner → ℕ → ℕ → ℕ
fork_of plan x y d n k = cond (d.held y && not (d.clean y)) (dirty_work plan x y) 0 + (cond (nat_lt 0 n) (move_work plan x y) 0 + (k + 2 * num (d.token y && not (d.held y))))

pub fork_work_same : (plan : PlanValue) (pairs pairs' : ℕ → Pairs) (x y : ℕ) → (pairs' x).diner ≡ (pairs x).diner → count_carrying Fork (between pairs' x y) ≡ count_carrying Fork (between pairs x y) → count_carrying ForkToken (between pairs' x y) ≡ count_carrying ForkToken (between pairs x y) →
    fork_work plan pairs' x y ≡ fork_work plan pairs x y
fork_work_same plan pairs pairs' x y d f q = ap (λ z. fork_of plan x y z (count_carrying Fork (between pairs' x y)) (count_carrying ForkToken (between pairs' x y))) d ∙ ap (λ n. fork_of plan x y (pairs x).diner n (count_carrying ForkToken (between pairs' x y))) f ∙ ap (fork_of plan x y (pairs x).diner (count_carrying Fork (between pairs x y))) q

-- ---- a bottle's token that is spent

pub record IsSpent (pairs pairs' : ℕ → Pairs) (r : ℕ) : Type 0 where
  pub fork : (x y : ℕ) → held (pairs' x) y Fork ≡ held (pairs x) y Fork
  pub bottle : (x y : ℕ) → held (pairs' x) y (Bottle r) ≡ held (pairs x) y (Bottle r)
  pub needed : (x : ℕ) → (pairs' x).drinker.needed r ≡ (pairs x).drinker.needed r
  pub token : (x y : ℕ) → ((pairs x).drinker.needed r ≡ true) ⊎ (held (pairs' x) y (BottleToken r) ≡ held (pairs x) y (BottleToken r))
  pub forks : (x y : ℕ) → count_carrying Fork (between pairs' x y) ≡ count_carrying Fork (between pairs x y)
  pub bottles : (x y : ℕ) → count_carrying (Bottle r) (between pairs' x y) ≡ count_carrying (Bottle r) (between pairs x y)
  pub behind : (x y : ℕ) → is_behind r (between pairs' x y) ≡ is_behind r (between pairs x y)

by_needs_same : (needed near t t' : Bool) → (needed ≡ true) ⊎ (t' ≡ t) → gives_by_needs needed near t' ≡ gives_by_needs needed near t
by_needs_same true near t t' e = refl
by_needs_same false near t t' (inl e) = absurd cc
by_needs_same false near t t' (inr e) = ap (gives_by_needs false near) e

module _ (pairs pairs' : ℕ → Pairs) (r : ℕ) (s : IsSpent pairs pairs' r) where
  near_bottle : (x y : ℕ) → is_near pairs' x y (Bottle r) ≡ is_near pairs x y (Bottle r)
  near_bottle x y = ap (λ b. b || is_sent pairs' y x (Bottle r)) (s.bottle x y) ∙ ap (λ n. held (pairs x) y (Bottle r) || nat_lt 0 n) (s.bottles y x)

  near_fork : (x y : ℕ) → is_near pairs' x y Fork ≡ is_near pairs x y Fork
  near_fork x y = ap (λ b. b || is_sent pairs' y x Fork) (s.fork x y) ∙ ap (λ n. held (pairs x) y Fork || nat_lt 0 n) (s.forks y x)

  spent_between : (x y : ℕ) → gives_between pairs' r x y ≡ gives_between pairs r x y
  spent_between x y =
      ap (λ b. cond b (gives_by_needs ((pairs' x).drinker.needed r) (is_near pairs' x y (Bottle r)) (held (pairs' x) y (BottleToken r))) (gives_by_order (is_behind r (between pairs' y x)) (is_near pairs' x y (Bottle r)))) (s.fork x y)
      ∙ ap (λ b. cond (held (pairs x) y Fork) (gives_by_needs b (is_near pairs' x y (Bottle r)) (held (pairs' x) y (BottleToken r))) (gives_by_order (is_behind r (between pairs' y x)) (is_near pairs' x y (Bottle r)))) (s.needed x)
      ∙ ap (λ b. cond (held (pairs x) y Fork) (gives_by_needs ((pairs x).drinker.needed r) b (held (pairs' x) y (BottleToken r))) (gives_by_order (is_behind r (between pairs' y x)) b)) (near_bottle x y)
      ∙ ap (λ n. cond (held (pairs x) y Fork) n (gives_by_order (is_behind r (between pairs' y x)) (is_near pairs x y (Bottle r)))) (by_needs_same ((pairs x).drinker.needed r) (is_near pairs x y (Bottle r)) (held (pairs x) y (BottleToken r)) (held (pairs' x) y (BottleToken r)) (s.token x y))
      ∙ ap (λ b. cond (held (pairs x) y Fork) (gives_by_needs ((pairs x).drinker.needed r) (is_near pairs x y (Bottle r)) (held (pairs x) y (BottleToken r))) (gives_by_order b (is_near pairs x y (Bottle r)))) (s.behind y x)

  pub spent_left : (u v : ℕ) → gives_left pairs' r (u, v) ≡ gives_left pairs r (u, v)
  spent_left u v =
      ap (λ b. cond b (gives_between pairs' r u v) (gives_between pairs' r v u)) (near_fork u v)
      ∙ ap (λ n. cond (is_near pairs u v Fork) n (gives_between pairs' r v u)) (spent_between u v)
      ∙ ap (λ n. cond (is_near pairs u v Fork) (gives_between pairs r u v) n) (spent_between v u)

  -- so where requests take less, so does the bottle
  pub spent_work : (u v d : ℕ) → (request_work pairs' u v (Bottle r) (BottleToken r) + request_work pairs' v u (Bottle r) (BottleToken r)) + d ≤ request_work pairs u v (Bottle r) (BottleToken r) + request_work pairs v u (Bottle r) (BottleToken r) →
      bottle_work pairs' r (u, v) + d ≤ bottle_work pairs r (u, v)
  spent_work u v d less = omega (arith, less, spent_left u v, s.bottles u v, s.bottles v u)

-- ---- at most twice

by_needs_few : (needed near token : Bool) → gives_by_needs needed near token ≤ 2
by_needs_few true true token = omega arith
by_needs_few true false token = omega arith
by_needs_few false true token = omega arith
by_needs_few false false true = omega arith
by_needs_few false false false = omega arith

by_order_few : (behind near : Bool) → gives_by_order behind near ≤ 2
by_order_few true near = omega arith
by_order_few false true = omega arith
by_order_few false false = omega arith

pub gives_few : (pairs : ℕ → Pairs) (r u v : ℕ) → gives_left pairs r (u, v) ≤ 2
gives_few pairs r u v = either (is_near pairs u v Fork) (gives_between pairs r u v) (gives_between pairs r v u) (one u v) (one v u)
  where
    either : (b : Bool) (m n : ℕ) → m ≤ 2 → n ≤ 2 → cond b m n ≤ 2
    either true m n p q = p
    either false m n p q = q

    one : (x y : ℕ) → gives_between pairs r x y ≤ 2
    one x y = either (held (pairs x) y Fork) (gives_by_needs ((pairs x).drinker.needed r) (is_near pairs x y (Bottle r)) (held (pairs x) y (BottleToken r))) (gives_by_order (is_behind r (between pairs y x)) (is_near pairs x y (Bottle r)))
        (by_needs_few ((pairs x).drinker.needed r) (is_near pairs x y (Bottle r)) (held (pairs x) y (BottleToken r))) (by_order_few (is_behind r (between pairs y x)) (is_near pairs x y (Bottle r)))
