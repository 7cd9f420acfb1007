-- A request for a fork that comes lowers the work of the pairs by one.
use Rattle.std.proofs.Common.{◌≡◌, ℕ, ◌+◌, ◌*◌, ◌≤◌, Bool, true, false, not, cond, [], ◌∷◌, ◌++◌, length, Some, refl, sym, ap, ◌∙◌, arith, eq-eqb}
use Rattle.std.specs.Prelude.{◌==◌, ◌&&◌, nat_lt}
use Rattle.std.specs.List.{range_with_len}
use Rattle.std.proofs.Math.Bool.{and-false}
use Rattle.bottle_values.specs.Lists.{num, is_among}
use Rattle.bottle_values.specs.Maps.{put}
use Rattle.frame_codec.specs.declared.message.Msg.TheVariants as msg
use Rattle.office_map.specs.PlanValue.{PlanValue, neighbours_of}
use Rattle.window_link.specs.declared.arrival.Arrival.TheVariants as arrival
use Rattle.window_link.specs.Links.{LinkState}
use Rattle.token_channel.specs.declared.thing.Thing.{Thing}
use Rattle.token_channel.specs.declared.thing.Thing.TheVariants.{Fork, ForkToken, Bottle, BottleToken}
use Rattle.token_channel.specs.Things.{same, count_carrying}
use Rattle.site_core.specs.Pairs.{Pairs, held, arrived}
use Rattle.site_core.specs.neighbours.HeldLaws.{after_message}
use Rattle.frame_world.specs.Ways.{between}
use Rattle.frame_world.specs.WorkLeft.{request_work, is_behind, move_work, dirty_work, fork_work, pairs_work}
use Rattle.frame_world.proofs.Links.{Comes}
use Rattle.frame_world.proofs.work.RequestsGo.{is_way, way_is, Reaches, reaches, count_came}
use Rattle.frame_world.proofs.work.WorkSeen.{IsSeenSame, ends_work_same}
use Rattle.frame_world.proofs.work.ForkAsked.{one_less, kept_at}

-- what an office is once a request for the fork came
abbrev pub with_request : Pairs → ℕ → LinkState → Pairs
with_request p u l = arrived p u l (arrival.Fresh msg.AskFork)

held_still : (p : Pairs) (u : ℕ) (l : LinkState) (y : ℕ) (t : Thing) → same t ForkToken ≡ false → held (with_request p u l) y t ≡ held p y t
held_still p u l y Fork e = refl
held_still p u l y ForkToken e = absurd cc
held_still p u l y (Bottle r) e = refl
held_still p u l y (BottleToken r) e = refl

pub fork_request_came : (plan : PlanValue) (pairs : ℕ → Pairs) (u a : ℕ) (l : LinkState) → is_among (range_with_len 0 (length plan.offices)) u ≡ true → is_among (neighbours_of plan u) a ≡ true → held (pairs a) u Fork ≡ true →
    Comes pairs u a (Some msg.AskFork) (put pairs a (with_request (pairs a) u l)) → pairs_work plan (put pairs a (with_request (pairs a) u l)) + 1 ≤ pairs_work plan pairs
fork_request_came plan pairs u a l inside near found c =
    one_less plan pairs (put pairs a (with_request (pairs a) u l)) u a inside near (λ x y. omega (arith, fork_falls x y)) (omega (arith, fork_falls u a, here)) (λ r. omega (arith, ends_work_same pairs (put pairs a (with_request (pairs a) u l)) r (seen r) plan))
  where
    come : Reaches pairs (put pairs a (with_request (pairs a) u l)) u a msg.AskFork
    come = reaches pairs u a msg.AskFork (with_request (pairs a) u l) (after_message (pairs a).diner (pairs a).drinker u msg.AskFork tt) c

    here : num (is_way u a u a) ≡ 1
    here = ap (λ b. num (b && (a == a))) (eq-eqb u u refl) ∙ ap num (eq-eqb a a refl)

    held_same : (x y : ℕ) (t : Thing) → same t ForkToken ≡ false → held (put pairs a (with_request (pairs a) u l) x) y t ≡ held (pairs x) y t
    held_same x y t e = kept_at (λ p. held p y t) pairs a (with_request (pairs a) u l) (held_still (pairs a) u l y t e) x

    clean_same : (x y : ℕ) → (put pairs a (with_request (pairs a) u l) x).diner.clean y ≡ (pairs x).diner.clean y
    clean_same x y = kept_at (λ p. p.diner.clean y) pairs a (with_request (pairs a) u l) refl x

    came : (x y : ℕ) (t : Thing) → count_carrying t (between pairs x y) ≡ num (is_way u a x y && same t ForkToken) + count_carrying t (between (put pairs a (with_request (pairs a) u l)) x y)
    came x y t = count_came (is_way u a x y) t (between pairs x y) (between (put pairs a (with_request (pairs a) u l)) x y) msg.AskFork (come.ways x y)

    sent_same : (x y : ℕ) (t : Thing) → same t ForkToken ≡ false → count_carrying t (between (put pairs a (with_request (pairs a) u l)) x y) ≡ count_carrying t (between pairs x y)
    sent_same x y t e = omega (arith, came x y t, ap (λ b. num (is_way u a x y && b)) e, ap num (and-false (is_way u a x y)))

    behind_same : (r x y : ℕ) → is_behind r (between (put pairs a (with_request (pairs a) u l)) x y) ≡ is_behind r (between pairs x y)
    behind_same r x y = go (is_way u a x y) ∙ sym (ap (is_behind r) (come.ways x y))
      where
        go : (w : Bool) → is_behind r (between (put pairs a (with_request (pairs a) u l)) x y) ≡ is_behind r (cond w (msg.AskFork ∷ []) [] ++ between (put pairs a (with_request (pairs a) u l)) x y)
        go true = refl
        go false = refl

    seen : (r : ℕ) → IsSeenSame pairs (put pairs a (with_request (pairs a) u l)) r
    seen r = record {
      held = held_same;
      needed = λ x. kept_at (λ p. p.drinker.needed r) pairs a (with_request (pairs a) u l) refl x;
      sent = sent_same;
      behind = behind_same r;
    }

    -- where the token comes to, the fork is held
    there : (x y : ℕ) → is_way u a y x ≡ true → held (pairs x) y Fork ≡ true
    there x y i = let w = way_is u a y x i in ap (λ k. held (pairs k) y Fork) w.1 ∙ ap (λ k. held (pairs a) k Fork) w.0 ∙ found

    -- so a token that comes is none without its fork
    not_alone : (w tok tok' fork : Bool) → (w ≡ true → fork ≡ true) → num tok' ≤ num tok + num (w && true) → 2 * num (tok' && not fork) ≤ 2 * num (tok && not fork)
    not_alone true tok true true f le = omega arith
    not_alone true tok false true f le = omega arith
    not_alone true tok tok' false f le = let no : false ≡ true = f refl in absurd cc
    not_alone false true true fork f le = omega arith
    not_alone false tok false fork f le = omega arith
    not_alone false false true fork f le = absurd (omega (arith, le))

    request_falls : (x y : ℕ) → request_work (put pairs a (with_request (pairs a) u l)) x y Fork ForkToken + num (is_way u a x y && true) ≤ request_work pairs x y Fork ForkToken
    request_falls x y =
        omega (
          arith,
          came x y ForkToken,
          not_alone (is_way u a y x) (held (pairs x) y ForkToken) (held (put pairs a (with_request (pairs a) u l) x) y ForkToken) (held (pairs x) y Fork) (there x y) (come.held x y ForkToken),
          ap (λ b. num (held (put pairs a (with_request (pairs a) u l) x) y ForkToken && not b)) (held_same x y Fork refl),
        )

    and_true : (b : Bool) → num (b && true) ≡ num b
    and_true true = refl
    and_true false = refl

    fork_falls : (x y : ℕ) → fork_work plan (put pairs a (with_request (pairs a) u l)) x y + num (is_way u a x y) ≤ fork_work plan pairs x y
    fork_falls x y =
        omega (
          arith,
          request_falls x y,
          and_true (is_way u a x y),
          ap (λ b. cond (b && not ((put pairs a (with_request (pairs a) u l) x).diner.clean y)) (dirty_work plan x y) 0) (held_same x y Fork refl)
              ∙ ap (λ b. cond ((pairs x).diner.held y && not b) (dirty_work plan x y) 0) (clean_same x y),
          ap (λ n. cond (nat_lt 0 n) (move_work plan x y) 0) (sent_same x y Fork refl),
        )
