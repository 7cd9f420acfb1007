-- Who precedes whom, event by event.
use Rattle.std.proofs.Common.{◌≡◌, ℕ, zero, suc, ◌+◌, ◌<◌, Bool, true, false, not, ◌&&◌, ◌||◌, cond, List, [], ◌∷◌, ◌++◌, length, Some, refl, sym, ap, ◌∙◌, subst, arith, ⊎_elim}
use Rattle.std.specs.Prelude.{◌==◌, nat_lt, find, option_map}
use Rattle.std.specs.Option.{option_map_or}
use Rattle.std.specs.List.{list_any, list_all}
use Rattle.std.proofs.lemmas.Bool.{cond_both, eqb-true, eq-eqb, ne_eqb, and_parts, and_from, or_left, or_right, cases_eq, ltb-true, lt-ltb, or_cases}
use Rattle.office_map.specs.declared.entries.PairEntry.{PairEntry}
use Rattle.office_map.specs.PlanValue.{PlanValue, joins, are_neighbours, neighbours_of, fork_end, fork_starts_at}
use Rattle.office_map.specs.Precedence.{occurrences, comes_before, preceding_end}
use Rattle.office_map.specs.Precedence as plans
use Rattle.office_map.specs.Consistency.{IsConsistent, IsAccepted}
use Rattle.dining_core.specs.Diners.{Diner, ForkRule, BecomeHungry, AskFork, GiveFork, Eat, Leave, is_eating, may, act, with_token, with_fork}
use Rattle.dining_core.specs.Worlds.{World, Event, Do, TokenComes, ForkComes, opening, with_way, one_more, done, does, token_taken, fork_taken, happens, run, fork_places, precedes, HasOnePlaceEach, IsOrder, HasNoRing, eats, with_last}
use Rattle.office_map.specs.NeighbourLaws.{near_within, neighbours_apart, near_both}
use Rattle.dining_core.specs.WayLaws.{way_at, way_off}
use Rattle.dining_core.proofs.OnTheWay.{sent_on_way}
use Rattle.dining_core.proofs.ForkPlaces.{given, each_has_one_place, neighbours_stay}
use Rattle.dining_core.proofs.EaterLast.{occurrences_of_last, occurrences_of_other, counted_among, others_stay, before_last, of_each}
use Rattle.bottle_values.specs.Maps.{put}
use Rattle.bottle_values.specs.Lists.{num}
use Rattle.bottle_values.specs.MapLaws.{put_cases}

-- one office of a pair changed: as the one that is named first, or second, or neither
one_changed : (P : ℕ → ℕ → Diner → Diner → Type 0) (f : ℕ → Diner) (a : ℕ) (d : Diner) →
    ((v : ℕ) → (v ≡ a → ⊥) → P a v d (f v)) → ((u : ℕ) → (u ≡ a → ⊥) → P u a (f u) d) → ((u v : ℕ) → (u ≡ a → ⊥) → (v ≡ a → ⊥) → P u v (f u) (f v)) →
    (u v : ℕ) → (u ≡ v → ⊥) → P u v (put f a d u) (put f a d v)
one_changed P f a d mine theirs others u v apart =
    put_cases f a d u (λ (du : Diner). P u v du (put f a d v))
    (λ ua. put_cases f a d v (λ (dv : Diner). P u v d dv)
    (λ va. absurd (apart (ua ∙ sym va)))
    (λ va. subst (λ z. P z v d (f v)) (sym ua) (mine v va)))
    (λ ua. put_cases f a d v (λ (dv : Diner). P u v (f u) dv)
    (λ va. subst (λ z. P u z (f u) d) (sym va) (theirs u ua))
    (λ va. others u v ua va))

-- ---- a fork moves

-- of two offices, of which so many forks are on the way to the first
abbrev ahead : Diner → Diner → ℕ → ℕ → ℕ → Bool
ahead du dv u v back = (du.held v && du.clean v) || ((dv.held u && not (dv.clean u)) || nat_lt 0 back)

-- a fork is given: m where it is the one
gave_ahead : (m h k x y : Bool) → (m ≡ true → (h ≡ true) × (k ≡ false)) → ((cond m false h && k) || (x || y)) ≡ ((h && k) || (x || y))
gave_ahead false h k x y e = refl
gave_ahead true h k x y e = ap (λ c. c || (x || y)) (sym (and_false h k (e refl).1))
  where
    and_false : (p q : Bool) → q ≡ false → (p && q) ≡ false
    and_false true q s = s
    and_false false q s = refl

gave_behind : (m h k x y : Bool) → (m ≡ true → (h ≡ true) × (k ≡ false)) → (x || ((cond m false h && not k) || cond m true y)) ≡ (x || ((h && not k) || y))
gave_behind false h k x y e = refl
gave_behind true h k x y e = sym (ap (λ c. x || ((c && not k) || y)) (e refl).0 ∙ ap (λ c. x || (not c || y)) (e refl).1)

-- a fork comes: z where another is on the way behind it
came_ahead : (m h k x y z : Bool) → (m ≡ true → y ≡ true) → ((cond m true h && cond m true k) || (x || cond m z y)) ≡ ((h && k) || (x || y))
came_ahead false h k x y z e = refl
came_ahead true h k x y z e = sym (ap (λ c. (h && k) || (x || c)) (e refl) ∙ ap (λ c. (h && k) || c) (or_true x) ∙ or_true (h && k))
  where
    or_true : (p : Bool) → (p || true) ≡ true
    or_true true = refl
    or_true false = refl

came_behind : (m h k x y : Bool) → (m ≡ true → h ≡ false) → (x || ((cond m true h && not (cond m true k)) || y)) ≡ (x || ((h && not k) || y))
came_behind false h k x y e = refl
came_behind true h k x y e = ap (λ c. x || ((c && not k) || y)) (sym (e refl))

-- ---- who precedes whom

turned : (w : World) (a : ℕ) (d : Diner) (way tokens : ℕ → ℕ → ℕ) →
    ((v : ℕ) → (v ≡ a → ⊥) → ahead d (w.diner v) a v (way v a) ≡ ahead (w.diner a) (w.diner v) a v (w.forks_on_way v a)) →
    ((u : ℕ) → (u ≡ a → ⊥) → fork_places w u a ≡ 1 → ahead (w.diner u) d u a (way a u) ≡ ahead (w.diner u) (w.diner a) u a (w.forks_on_way a u)) →
    ((x y : ℕ) → (x ≡ a → ⊥) → (y ≡ a → ⊥) → way x y ≡ w.forks_on_way x y) →
    (u v : ℕ) → (u ≡ v → ⊥) → fork_places w u v ≡ 1 → precedes (record { diner = put w.diner a d; forks_on_way = way; tokens_on_way = tokens }) u v ≡ precedes w u v
turned w a d way tokens mine theirs others u v apart one =
    one_changed (λ x y dx dy. fork_places w x y ≡ 1 → ahead dx dy x y (way y x) ≡ ahead (w.diner x) (w.diner y) x y (w.forks_on_way y x)) w.diner a d
    (λ y ne k. mine y ne) theirs (λ x y nx ny k. ap (ahead (w.diner x) (w.diner y) x y) (others y x ny nx)) u v apart one

at_other : (f : ℕ → Bool) (v x : ℕ) (b : Bool) → f x ≡ b → (v == x) ≡ true → f v ≡ b
at_other f v x b e m = ap f (eqb-true v x m) ∙ e

no_true : false ≡ true → ⊥
no_true e = absurd cc

quiet_turns : (w : World) (a : ℕ) (d : Diner) (tokens : ℕ → ℕ → ℕ) → d.held ≡ (w.diner a).held → d.clean ≡ (w.diner a).clean → (u v : ℕ) → (u ≡ v → ⊥) → fork_places w u v ≡ 1 →
    precedes (record { diner = put w.diner a d; forks_on_way = w.forks_on_way; tokens_on_way = tokens }) u v ≡ precedes w u v
quiet_turns w a d tokens same still =
    turned w a d w.forks_on_way tokens
    (λ v ne. ap (λ (h : ℕ → Bool). (h v && d.clean v) || (((w.diner v).held a && not ((w.diner v).clean a)) || nat_lt 0 (w.forks_on_way v a))) same
    ∙ ap (λ (c : ℕ → Bool). ((w.diner a).held v && c v) || (((w.diner v).held a && not ((w.diner v).clean a)) || nat_lt 0 (w.forks_on_way v a))) still)
    (λ u ne k. ap (λ (h : ℕ → Bool). ((w.diner u).held a && (w.diner u).clean a) || ((h u && not (d.clean u)) || nat_lt 0 (w.forks_on_way a u))) same
    ∙ ap (λ (c : ℕ → Bool). ((w.diner u).held a && (w.diner u).clean a) || (((w.diner a).held u && not (c u)) || nat_lt 0 (w.forks_on_way a u))) still)
    (λ x y nx ny. refl)

given_turns : (w : World) (a x : ℕ) → may (w.diner a) (GiveFork x) ≡ true → (u v : ℕ) → (u ≡ v → ⊥) → fork_places w u v ≡ 1 → precedes (done w a (GiveFork x)) u v ≡ precedes w u v
given_turns w a x g =
    let d : Diner = w.diner a in
    let was : (d.held x ≡ true) × (d.clean x ≡ false) = given (is_eating d.phase) (d.token x) (d.held x) (d.clean x) g in
    turned w a (act d (GiveFork x)) (one_more w.forks_on_way a x) w.tokens_on_way
    (λ v ne.
    ap (λ n. (cond (v == x) false (d.held v) && d.clean v) || (((w.diner v).held a && not ((w.diner v).clean a)) || nat_lt 0 n)) (way_off w.forks_on_way a x (w.forks_on_way a x + 1) v a (λ e. ne e.0))
    ∙ gave_ahead (v == x) (d.held v) (d.clean v) ((w.diner v).held a && not ((w.diner v).clean a)) (nat_lt 0 (w.forks_on_way v a))
    (λ m. (at_other d.held v x true was.0 m, at_other d.clean v x false was.1 m)))
    (λ u ne k.
    ap (λ b. ((w.diner u).held a && (w.diner u).clean a) || ((cond (u == x) false (d.held u) && not (d.clean u)) || b)) (sent_on_way w.forks_on_way a x u)
    ∙ gave_behind (u == x) (d.held u) (d.clean u) ((w.diner u).held a && (w.diner u).clean a) (nat_lt 0 (w.forks_on_way a u))
    (λ m. (at_other d.held u x true was.0 m, at_other d.clean u x false was.1 m)))
    (λ u v nu nv. way_off w.forks_on_way a x (w.forks_on_way a x + 1) u v (λ e. nu e.0))

rule_turns : (plan : PlanValue) (w : World) (a : ℕ) (rule : ForkRule) → does plan w a rule ≡ true → eats plan w (Do a rule) ≡ false → (u v : ℕ) → (u ≡ v → ⊥) → fork_places w u v ≡ 1 → precedes (done w a rule) u v ≡ precedes w u v
rule_turns plan w a (BecomeHungry thirsty) k e = quiet_turns w a (act (w.diner a) (BecomeHungry thirsty)) w.tokens_on_way refl refl
rule_turns plan w a (AskFork x) k e = quiet_turns w a (act (w.diner a) (AskFork x)) (one_more w.tokens_on_way a x) refl refl
rule_turns plan w a (GiveFork x) k e = given_turns w a x (and_parts (nat_lt a (length plan.offices)) (may (w.diner a) (GiveFork x)) k).1
rule_turns plan w a Eat k e = absurd (no_true (sym e ∙ k))
rule_turns plan w a (Leave thirsty) k e = quiet_turns w a (act (w.diner a) (Leave thirsty)) w.tokens_on_way refl refl

token_turns : (w : World) (a x n : ℕ) (u v : ℕ) → (u ≡ v → ⊥) → fork_places w u v ≡ 1 → precedes (token_taken w a x n) u v ≡ precedes w u v
token_turns w a x zero u v apart one = refl
token_turns w a x (suc left) u v apart one = quiet_turns w a (with_token (w.diner a) x) (with_way w.tokens_on_way x a left) refl refl u v apart one

-- a fork that is on the way to an office isn't there
away : (a b c left : ℕ) (h : Bool) → a + (num h + (b + c)) ≡ 1 → b ≡ suc left → h ≡ false
away a b c left true e w = absurd (omega (arith, e, w))
away a b c left false e w = refl

fork_turns : (w : World) (a x n : ℕ) → w.forks_on_way x a ≡ n → (u v : ℕ) → (u ≡ v → ⊥) → fork_places w u v ≡ 1 → precedes (fork_taken w a x n) u v ≡ precedes w u v
fork_turns w a x zero s u v apart one = refl
fork_turns w a x (suc left) s u v apart one =
    turned w a (with_fork d x) (with_way w.forks_on_way x a left) w.tokens_on_way
    (λ v ne.
    ap (λ b. (cond (v == x) true (d.held v) && cond (v == x) true (d.clean v)) || (((w.diner v).held a && not ((w.diner v).clean a)) || b)) (left_over v)
    ∙ came_ahead (v == x) (d.held v) (d.clean v) ((w.diner v).held a && not ((w.diner v).clean a)) (nat_lt 0 (w.forks_on_way v a)) (nat_lt 0 left)
    (λ m. lt-ltb 0 (w.forks_on_way v a) (omega (arith, s, ap (λ z. w.forks_on_way z a) (eqb-true v x m)))))
    (λ u ne k.
    ap (λ n. ((w.diner u).held a && (w.diner u).clean a) || ((cond (u == x) true (d.held u) && not (cond (u == x) true (d.clean u))) || nat_lt 0 n)) (way_off w.forks_on_way x a left a u (λ e. ne e.1))
    ∙ came_behind (u == x) (d.held u) (d.clean u) ((w.diner u).held a && (w.diner u).clean a) (nat_lt 0 (w.forks_on_way a u))
    (λ m. away (num ((w.diner u).held a)) (w.forks_on_way u a) (w.forks_on_way a u) left (d.held u) k (ap (λ z. w.forks_on_way z a) (eqb-true u x m) ∙ s)))
    (λ y z ny nz. way_off w.forks_on_way x a left y z (λ e. nz e.1))
    u v apart one
  where
    d : Diner
    d = w.diner a

    left_over : (v : ℕ) → nat_lt 0 (with_way w.forks_on_way x a left v a) ≡ cond (v == x) (nat_lt 0 left) (nat_lt 0 (w.forks_on_way v a))
    left_over v = ⊎_elim
        (λ e. ap (nat_lt 0) (way_at w.forks_on_way x a left v a (e, refl)) ∙ sym (ap (λ b. cond b (nat_lt 0 left) (nat_lt 0 (w.forks_on_way v a))) (eq-eqb v x e)))
        (λ ne. ap (nat_lt 0) (way_off w.forks_on_way x a left v a (λ e. ne e.0)) ∙ sym (ap (λ b. cond b (nat_lt 0 left) (nat_lt 0 (w.forks_on_way v a))) (ne_eqb v x ne)))
        (cases_eq v x)

pub only_eating_turns : (plan : PlanValue) (w : World) (e : Event) (u v : ℕ) → (u ≡ v → ⊥) → fork_places w u v ≡ 1 → eats plan w e ≡ false → precedes (happens plan w e) u v ≡ precedes w u v
only_eating_turns plan w (Do a rule) u v apart one still =
    cond_both (does plan w a rule) (done w a rule) w (λ (x : World). precedes x u v ≡ precedes w u v)
    (λ k. rule_turns plan w a rule k still u v apart one)
    (λ k. refl)
only_eating_turns plan w (TokenComes a x) u v apart one still = token_turns w a x (w.tokens_on_way x a) u v apart one
only_eating_turns plan w (ForkComes a x) u v apart one still = fork_turns w a x (w.forks_on_way x a) refl u v apart one

-- ---- the order

order_kept : (plan : PlanValue) (w w' : World) (order : List ℕ) → ((u v : ℕ) → are_neighbours plan u v ≡ true → precedes w' u v ≡ precedes w u v) → IsOrder plan w order → IsOrder plan w' order
order_kept plan w w' order same o = record { once = o.once; earlier = λ u v near p. o.earlier u v near (sym (same u v near) ∙ p) }

-- an eater holds the fork of each neighbour, so no neighbour comes after it
beaten : (h c b k : Bool) (there back : ℕ) → h ≡ true → num h + (num b + (there + back)) ≡ 1 → ((h && false) || ((b && not c) || nat_lt 0 back)) ≡ true → ⊥
beaten false c b k there back s one e = no_true s
beaten true c true k there back s one e = absurd (omega (arith, one))
beaten true c false k there back s one e = absurd (omega (arith, one, ltb-true 0 back e))

office_counts : (plan : PlanValue) (w : World) (order : List ℕ) (u : ℕ) → IsOrder plan w order → u < length plan.offices → list_any (λ x. x == u) order ≡ true
office_counts plan w order u o lt = counted_among u order (omega (arith, o.once u, ap num (lt-ltb u (length plan.offices) lt)))

eater_last : (plan : PlanValue) (w : World) (a : ℕ) (order : List ℕ) → IsConsistent plan → (w.diner a).neighbours ≡ neighbours_of plan a → ((v : ℕ) → are_neighbours plan a v ≡ true → fork_places w a v ≡ 1) →
    a < length plan.offices → may (w.diner a) Eat ≡ true → IsOrder plan w order → IsOrder plan (done w a Eat) (with_last a order)
eater_last plan w a order h sits one lt g o = record {
  once = λ y. ⊎_elim
      (λ e. subst (λ z. count_is z) (sym e) (occurrences_of_last a order ∙ sym (ap num (lt-ltb a (length plan.offices) lt))))
      (λ ne. occurrences_of_other a y order ne ∙ o.once y)
      (cases_eq y a);
  earlier = λ u v near. one_changed (λ x y dx dy. are_neighbours plan x y ≡ true → ahead dx dy x y (w.forks_on_way y x) ≡ true → comes_before (with_last a order) x y ≡ true) w.diner a (act (w.diner a) Eat)
      (λ v ne n p. absurd (beaten ((w.diner a).held v) ((w.diner v).clean a) ((w.diner v).held a) false (w.forks_on_way a v) (w.forks_on_way v a) (has v n) (one v n) p))
      (λ u ne n p. before_last a u order ne (office_counts plan w order u o (near_within plan a u h (near_both plan a u ∙ n))))
      (λ x y nx ny n p. others_stay a x y order nx ny (o.earlier x y n p))
      u v (neighbours_apart plan u v h near) near;
}
  where
    count_is : ℕ → Type 0
    count_is z = occurrences z (with_last a order) ≡ num (nat_lt z (length plan.offices))

    has : (v : ℕ) → are_neighbours plan a v ≡ true → (w.diner a).held v ≡ true
    has v n = of_each (w.diner a).held (are_neighbours plan a) (length plan.offices) v
        (subst (λ (xs : List ℕ). list_all (w.diner a).held xs ≡ true) sits (all_of (w.diner a) g))
        (near_within plan a v h n) n
      where
        all_of : (d : Diner) → may d Eat ≡ true → list_all d.held d.neighbours ≡ true
        all_of d e = (and_parts _ (list_all d.held d.neighbours) e).1

pub the_eater_comes_last : (plan : PlanValue) (w : World) (a : ℕ) (order : List ℕ) → IsConsistent plan → (w.diner a).neighbours ≡ neighbours_of plan a → ((v : ℕ) → are_neighbours plan a v ≡ true → fork_places w a v ≡ 1) → eats plan w (Do a Eat) ≡ true →
    IsOrder plan w order → IsOrder plan (happens plan w (Do a Eat)) (with_last a order)
the_eater_comes_last plan w a order h sits one e o =
    let k : (nat_lt a (length plan.offices) ≡ true) × (may (w.diner a) Eat ≡ true) = and_parts (nat_lt a (length plan.offices)) (may (w.diner a) Eat) e in
    subst (λ b. IsOrder plan (cond b (done w a Eat) w) (with_last a order)) (sym e)
    (eater_last plan w a order h sits one (ltb-true a (length plan.offices) k.0) k.1 o)

-- ---- runs

pub starts_dirty : (plan : PlanValue) (u v : ℕ) → are_neighbours plan u v ≡ true → precedes (opening plan) u v ≡ fork_starts_at plan v u v
starts_dirty plan u v near =
    ap (λ b. ((are_neighbours plan u v && fork_starts_at plan u v u) && false) || (((b && fork_starts_at plan v u v) && not false) || false)) (near_both plan v u ∙ near)
    ∙ plain (are_neighbours plan u v && fork_starts_at plan u v u) (fork_starts_at plan v u v)
  where
    plain : (p q : Bool) → ((p && false) || (((true && q) && true) || false)) ≡ q
    plain true true = refl
    plain true false = refl
    plain false true = refl
    plain false false = refl

-- what holds of a world that events led to
record IsPlaced (plan : PlanValue) (w : World) : Type 0 where
  pub sits : (a : ℕ) → (w.diner a).neighbours ≡ neighbours_of plan a
  pub places : HasOnePlaceEach plan w

placed : (plan : PlanValue) (es : List Event) → IsConsistent plan → IsPlaced plan (run plan (opening plan) es)
placed plan es h = record { sits = neighbours_stay plan es; places = each_has_one_place plan es h }

fork_between : (plan : PlanValue) (w : World) (u v : ℕ) → IsPlaced plan w → are_neighbours plan u v ≡ true → fork_places w u v ≡ 1
fork_between plan w u v p near = p.places.fork u v ∙ ap num near

ring_after : (plan : PlanValue) (w : World) (e : Event) (b : Bool) → eats plan w e ≡ b → IsConsistent plan → IsPlaced plan w → HasNoRing plan w → HasNoRing plan (happens plan w e)
ring_after plan w e false q h p r = record {
  order = r.order;
  is = order_kept plan w (happens plan w e) r.order (λ u v near. only_eating_turns plan w e u v (neighbours_apart plan u v h near) (fork_between plan w u v p near) q) r.is;
}
ring_after plan w (Do a Eat) true q h p r = record { order = with_last a r.order; is = the_eater_comes_last plan w a r.order h (p.sits a) (λ v near. fork_between plan w a v p near) q r.is }
ring_after plan w (Do a (BecomeHungry thirsty)) true q h p r = absurd (no_true q)
ring_after plan w (Do a (AskFork v)) true q h p r = absurd (no_true q)
ring_after plan w (Do a (GiveFork v)) true q h p r = absurd (no_true q)
ring_after plan w (Do a (Leave thirsty)) true q h p r = absurd (no_true q)
ring_after plan w (TokenComes a v) true q h p r = absurd (no_true q)
ring_after plan w (ForkComes a v) true q h p r = absurd (no_true q)

-- the events so far, and those to come
pub run_more : (plan : PlanValue) (w : World) (es : List Event) (e : Event) → run plan w (es ++ e ∷ []) ≡ happens plan (run plan w es) e
run_more plan w [] e = refl
run_more plan w (x ∷ es) e = run_more plan (happens plan w x) es e

run_ring : (plan : PlanValue) (so_far es : List Event) → IsConsistent plan → HasNoRing plan (run plan (opening plan) so_far) → HasNoRing plan (run plan (run plan (opening plan) so_far) es)
run_ring plan so_far [] h r = r
run_ring plan so_far (e ∷ es) h r =
    let w : World = run plan (opening plan) so_far in
    let is : run plan (opening plan) (so_far ++ e ∷ []) ≡ happens plan w e = run_more plan (opening plan) so_far e in
    subst (λ (x : World). HasNoRing plan (run plan x es)) is
    (run_ring plan (so_far ++ e ∷ []) es h (subst (HasNoRing plan) (sym is) (ring_after plan w e (eats plan w e) refl h (placed plan so_far h) r)))

pub never_a_ring : (plan : PlanValue) (es : List Event) → IsConsistent plan → HasNoRing plan (opening plan) → HasNoRing plan (run plan (opening plan) es)
never_a_ring plan es h r = run_ring plan [] es h r

-- ---- from a plan

-- of two neighbours, the other end is the one without the fork
other_is : (pair : PairEntry) (u v : ℕ) (b : Bool) → joins v u pair ≡ true → (cond b pair.first pair.second == v) ≡ true → (cond b pair.second pair.first == u) ≡ true
other_is pair u v true j f = ⊎_elim
    (λ s. (and_parts (pair.first == v) (pair.second == u) s).1)
    (λ s. let e = and_parts (pair.first == u) (pair.second == v) s in eq-eqb pair.second u (eqb-true pair.second v e.1 ∙ sym (eqb-true pair.first v f) ∙ eqb-true pair.first u e.0))
    (or_cases (pair.first == v && pair.second == u) (pair.first == u && pair.second == v) j)
other_is pair u v false j f = ⊎_elim
    (λ s. let e = and_parts (pair.first == v) (pair.second == u) s in eq-eqb pair.first u (eqb-true pair.first v e.0 ∙ sym (eqb-true pair.second v f) ∙ eqb-true pair.second u e.1))
    (λ s. (and_parts (pair.first == u) (pair.second == v) s).0)
    (or_cases (pair.first == v && pair.second == u) (pair.first == u && pair.second == v) j)

before_at_start : (pairs : List PairEntry) (u v : ℕ) → option_map_or (λ z. z == v) (option_map fork_end (find (joins v u) pairs)) false ≡ true → list_any (λ pair. preceding_end pair == u && fork_end pair == v) pairs ≡ true
before_at_start [] u v h = cc
before_at_start (x ∷ xs) u v h = go (joins v u x) (λ e. e) (before_at_start xs u v) h
  where
    go : (b : Bool) → (b ≡ true → joins v u x ≡ true) → (option_map_or (λ z. z == v) (option_map fork_end (find (joins v u) xs)) false ≡ true → list_any (λ pair. preceding_end pair == u && fork_end pair == v) xs ≡ true) → option_map_or (λ z. z == v) (option_map fork_end (cond b (Some x) (find (joins v u) xs))) false ≡ true
        → ((preceding_end x == u && fork_end x == v) || list_any (λ pair. preceding_end pair == u && fork_end pair == v) xs) ≡ true
    go true j r e = or_left (preceding_end x == u && fork_end x == v) (list_any (λ pair. preceding_end pair == u && fork_end pair == v) xs) (and_from (preceding_end x == u) (fork_end x == v) (other_is x u v x.fork_at_first (j refl) e) e)
    go false j r e = or_right (preceding_end x == u && fork_end x == v) (list_any (λ pair. preceding_end pair == u && fork_end pair == v) xs) (r e)

pub starts_in_order : (plan : PlanValue) (order : List ℕ) → plans.IsOrder plan order → IsOrder plan (opening plan) order
starts_in_order plan order is = record {
  once = is.once;
  earlier = λ u v near h. is.earlier u v (before_at_start plan.pairs u v (sym (starts_dirty plan u v near) ∙ h));
}

pub no_ring_from_plan : (plan : PlanValue) (es : List Event) → IsAccepted plan → HasNoRing plan (run plan (opening plan) es)
no_ring_from_plan plan es a = never_a_ring plan es a.consistent (record { order = a.no_ring.order; is = starts_in_order plan a.no_ring.order a.no_ring.is })
