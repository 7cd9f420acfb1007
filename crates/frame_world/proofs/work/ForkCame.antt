-- A fork that comes lowers the work of the pairs by one: it is clean, and each bottle of the two may be given twice again at most.
use Rattle.std.proofs.Common.{◌≡◌, ℕ, ◌+◌, ◌≤◌, Bool, true, false, cond, [], ◌∷◌, ◌++◌, length, Some, refl, sym, ap, ◌∙◌, arith, eqb-true, eq-eqb}
use Rattle.std.specs.Prelude.{◌==◌, ◌&&◌, nat_lt}
use Rattle.std.specs.List.{range_with_len}
use Rattle.std.proofs.Math.Bool.{and-false}
use Rattle.bottle_values.specs.Lists.{num, is_among}
use Rattle.bottle_values.specs.Maps.{put}
use Rattle.bottle_values.specs.MapLaws.{put_same}
use Rattle.frame_codec.specs.declared.message.Msg.TheVariants as msg
use Rattle.office_map.specs.PlanValue.{PlanValue, neighbours_of}
use Rattle.window_link.specs.declared.arrival.Arrival.TheVariants as arrival
use Rattle.window_link.specs.Links.{LinkState}
use Rattle.token_channel.specs.declared.thing.Thing.{Thing}
use Rattle.token_channel.specs.declared.thing.Thing.TheVariants.{Fork, ForkToken, Bottle, BottleToken}
use Rattle.token_channel.specs.Things.{same, count_carrying}
use Rattle.dining_core.specs.Diners.{Diner}
use Rattle.site_core.specs.Pairs.{Pairs, held, arrived}
use Rattle.site_core.specs.neighbours.HeldLaws.{after_message}
use Rattle.frame_world.specs.Ways.{between}
use Rattle.frame_world.specs.WorkLeft.{move_work, fork_work, pairs_work}
use Rattle.frame_world.proofs.Links.{Comes}
use Rattle.frame_world.proofs.work.RequestsGo.{is_way, way_is, AtMostOne, Reaches, reaches, count_came}
use Rattle.frame_world.proofs.work.ForkAsked.{kept_at}
use Rattle.frame_world.proofs.work.WorkParts.{forks_fall, bottles_rise_between, fork_work_at, held_elsewhere, view, view_stays, work_stays, IsRestSame, work_rises, record_rises_between, turned}

-- what an office is once the fork came
abbrev pub with_fork_from : Pairs → ℕ → LinkState → Pairs
with_fork_from p u l = arrived p u l (arrival.Fresh msg.Fork)

-- a fork that comes is on the way no more, since there is one at most
pub none_left : (m n n' : ℕ) (w : Bool) → n ≡ num w + n' → n ≤ 1 → cond (nat_lt 0 n') m 0 + cond w m 0 ≤ cond (nat_lt 0 n) m 0
none_left m n n' true e one =
    let none : n' ≡ 0 = omega (arith, e, one) in
    let some : n ≡ 1 = omega (arith, e, one) in
    let before : cond (nat_lt 0 n) m 0 ≡ m = ap (λ i. cond (nat_lt 0 i) m 0) some in
    let after : cond (nat_lt 0 n') m 0 ≡ 0 = ap (λ i. cond (nat_lt 0 i) m 0) none in
    omega (arith, before, after)
none_left m n n' false e one = let as_many : n' ≡ n = omega (arith, e) in omega (arith, ap (λ i. cond (nat_lt 0 i) m 0) as_many)

pub fork_came : (plan : PlanValue) (pairs : ℕ → Pairs) (u a : ℕ) (l : LinkState) → is_among (range_with_len 0 (length plan.offices)) u ≡ true → is_among (neighbours_of plan u) a ≡ true → AtMostOne pairs Fork →
    Comes pairs u a (Some msg.Fork) (put pairs a (with_fork_from (pairs a) u l)) → pairs_work plan (put pairs a (with_fork_from (pairs a) u l)) + 1 ≤ pairs_work plan pairs
fork_came plan pairs u a l inside near one c =
    omega (
      arith,
      forks_fall plan pairs pairs' u a (move_work plan u a) inside near (λ x y. omega (arith, fork_falls x y (is_way a u x y) refl)) here,
      bottles_rise_between plan pairs pairs' u a
          (λ r. record_rises_between plan pairs pairs' u a r (work_rises pairs pairs' r (rest r))
          (λ x y off back. work_stays pairs pairs' r x y (same_view r x y off (turned (y == u) (x == a) back)) (same_view r y x back (turned (x == u) (y == a) off)))),
    )
  where
    d : Diner
    d = (pairs a).diner

    p' : Pairs
    p' = with_fork_from (pairs a) u l

    pairs' : ℕ → Pairs
    pairs' = put pairs a p'

    come : Reaches pairs pairs' u a msg.Fork
    come = reaches pairs u a msg.Fork p' (after_message (pairs a).diner (pairs a).drinker u msg.Fork tt) c

    came : (x y : ℕ) (t : Thing) → count_carrying t (between pairs x y) ≡ num (is_way u a x y && same t Fork) + count_carrying t (between pairs' x y)
    came x y t = count_came (is_way u a x y) t (between pairs x y) (between pairs' x y) msg.Fork (come.ways x y)

    sent : (x y : ℕ) (t : Thing) → same t Fork ≡ false → count_carrying t (between pairs' x y) ≡ count_carrying t (between pairs x y)
    sent x y t e = omega (arith, came x y t, ap (λ b. num (is_way u a x y && b)) e, ap num (and-false (is_way u a x y)))

    same_way : (x y : ℕ) → is_way u a x y ≡ false → between pairs' x y ≡ between pairs x y
    same_way x y off = sym (come.ways x y ∙ ap (λ w. cond w (msg.Fork ∷ []) [] ++ between pairs' x y) off)

    held_off : (x y : ℕ) → is_way a u x y ≡ false → (pairs' x).diner.held y ≡ (pairs x).diner.held y
    held_off = held_elsewhere pairs a u true p' refl

    clean_off : (x y : ℕ) → is_way a u x y ≡ false → (pairs' x).diner.clean y ≡ (pairs x).diner.clean y
    clean_off x y off = go (x == a) refl off
      where
        go : (b : Bool) → (x == a) ≡ b → (b && (y == u)) ≡ false → (cond b p' (pairs x)).diner.clean y ≡ (pairs x).diner.clean y
        go true i o = ap (λ e. cond e true (d.clean y)) o ∙ ap (λ k. (pairs k).diner.clean y) (sym (eqb-true x a i))
        go false i o = refl

    token_same : (x y : ℕ) → (pairs' x).diner.token y ≡ (pairs x).diner.token y
    token_same x y = kept_at (λ p. p.diner.token y) pairs a p' refl x

    held_here : (x y : ℕ) → is_way a u x y ≡ true → (pairs' x).diner.held y ≡ true
    held_here x y i = let w : (x ≡ a) × (y ≡ u) = way_is a u x y i in ap (λ k. (pairs' k).diner.held y) w.0 ∙ ap (λ k. (pairs' a).diner.held k) w.1 ∙ ap (λ p. p.diner.held u) (put_same pairs a p') ∙ put_same d.held u true

    clean_here : (x y : ℕ) → is_way a u x y ≡ true → (pairs' x).diner.clean y ≡ true
    clean_here x y i = let w : (x ≡ a) × (y ≡ u) = way_is a u x y i in ap (λ k. (pairs' k).diner.clean y) w.0 ∙ ap (λ k. (pairs' a).diner.clean k) w.1 ∙ ap (λ p. p.diner.clean u) (put_same pairs a p') ∙ put_same d.clean u true

    and_true : (b : Bool) → num (b && true) ≡ num b
    and_true true = refl
    and_true false = refl

    moves : (x y : ℕ) → cond (nat_lt 0 (count_carrying Fork (between pairs' x y))) (move_work plan x y) 0 + cond (is_way u a x y) (move_work plan x y) 0 ≤ cond (nat_lt 0 (count_carrying Fork (between pairs x y))) (move_work plan x y) 0
    moves x y = none_left (move_work plan x y) (count_carrying Fork (between pairs x y)) (count_carrying Fork (between pairs' x y)) (is_way u a x y) (came x y Fork ∙ ap (λ n. n + count_carrying Fork (between pairs' x y)) (and_true (is_way u a x y))) (omega (arith, one x y))

    fork_falls : (x y : ℕ) (w : Bool) → is_way a u x y ≡ w → fork_work plan pairs' x y + cond (is_way u a x y) (move_work plan x y) 0 ≤ fork_work plan pairs x y
    fork_falls x y true i =
        omega (
          arith,
          moves x y,
          fork_work_at plan pairs' x y true true ((pairs x).diner.token y) (count_carrying Fork (between pairs' x y)) (count_carrying ForkToken (between pairs x y)) (held_here x y i) (clean_here x y i) (token_same x y) refl (sent x y ForkToken refl),
          ap num (and-false ((pairs x).diner.token y)),
        )
    fork_falls x y false i =
        omega (
          arith,
          moves x y,
          fork_work_at plan pairs' x y ((pairs x).diner.held y) ((pairs x).diner.clean y) ((pairs x).diner.token y) (count_carrying Fork (between pairs' x y)) (count_carrying ForkToken (between pairs x y)) (held_off x y i) (clean_off x y i) (token_same x y) refl
              (sent x y ForkToken refl),
        )

    here : fork_work plan pairs' u a + move_work plan u a ≤ fork_work plan pairs u a
    here = omega (arith, fork_falls u a (is_way a u u a) refl, ap (λ b. cond (b && (a == a)) (move_work plan u a) 0) (eq-eqb u u refl) ∙ ap (λ b. cond b (move_work plan u a) 0) (eq-eqb a a refl))

    same_view : (r x y : ℕ) → is_way u a x y ≡ false → is_way a u x y ≡ false → view pairs' r x y ≡ view pairs r x y
    same_view r x y off away = view_stays pairs pairs' r x y (held_off x y away) (kept_at (λ p. p.drinker) pairs a p' refl x) (same_way x y off)

    rest : (r : ℕ) → IsRestSame pairs pairs' r
    rest r = record {
      bottle = λ x y. kept_at (λ p. held p y (Bottle r)) pairs a p' refl x;
      token = λ x y. kept_at (λ p. held p y (BottleToken r)) pairs a p' refl x;
      bottles = λ x y. sent x y (Bottle r) refl;
      tokens = λ x y. sent x y (BottleToken r) refl;
    }
