-- What the moves of a bottle and of its request token share: a message of theirs that goes or comes, what leaves how often the bottle may still be given, and sums over records of which one falls.
use Rattle.std.proofs.Common.{◌≡◌, ℕ, zero, suc, ◌+◌, ◌<◌, ◌≤◌, Bool, true, false, cond, ◌⊎◌, inl, inr, List, [], ◌∷◌, ◌++◌, Option, None, Some, option_map, length, sum_by, refl, sym, ap, subst, ◌∙◌, arith, ⊎_elim, append-nil, eqb-true, eq-eqb, lt-ltb}
use Rattle.std.specs.Prelude.{◌==◌, ◌&&◌, ◌||◌, nat_lt, slice_get}
use Rattle.std.specs.List.{range_with_len}
use Rattle.std.specs.Option.{option_map_or}
use Rattle.std.proofs.lemmas.Bool.{and_parts, or_right}
use Rattle.bottle_values.specs.Lists.{num, is_among}
use Rattle.bottle_values.specs.Maps.{put}
use Rattle.frame_codec.specs.declared.message.Msg.{Msg}
use Rattle.office_map.specs.declared.entries.RecordEntry.{RecordEntry}
use Rattle.office_map.specs.PlanValue.{PlanValue, neighbours_of, lies_between, has_ends, ends_of}
use Rattle.office_map.specs.NeighbourLaws.{between_cases, end_within, is_first_end}
use Rattle.token_channel.specs.declared.thing.Thing.{Thing}
use Rattle.token_channel.specs.declared.thing.Thing.TheVariants.{Fork, ForkToken, Bottle, BottleToken}
use Rattle.token_channel.specs.Things.{thing_of, same, count_carrying, hold}
use Rattle.site_core.specs.Pairs.{Pairs, held}
use Rattle.site_core.specs.neighbours.HeldLaws.{with_held}
use Rattle.frame_world.specs.Ways.{between}
use Rattle.frame_world.specs.WorkLeft.{is_sent, is_near, request_work, gives_by_needs, gives_by_order, is_behind, gives_between, gives_left, bottle_work, fork_work, pairs_work}
use Rattle.frame_world.proofs.work.RequestsGo.{is_way, way_is, count_sent, count_came}
use Rattle.frame_world.proofs.work.WorkSeen.{behind_pushed}
use Rattle.frame_world.proofs.work.BottleGives.{fork_work_same}
use Rattle.frame_world.proofs.work.ForkAsked.{sum_by-no_more, sum_by-one_less}

-- ---- sums over records

among_range : (a n k : ℕ) → k < n → is_among (range_with_len a n) (a + k) ≡ true
among_range a zero k lt = absurd (omega (arith, lt))
among_range a (suc n) zero lt = let here : a ≡ a + 0 = omega arith in ap (λ b. b || is_among (range_with_len (a + 1) n) (a + 0)) (eq-eqb a (a + 0) here)
among_range a (suc n) (suc k) lt =
    let same : a + suc k ≡ a + 1 + k = omega arith in
    or_right (a == a + suc k) (is_among (range_with_len (a + 1) n) (a + suc k)) (ap (is_among (range_with_len (a + 1) n)) same ∙ among_range (a + 1) n k (omega (arith, lt)))

-- the two ends of a record, in one order or the other
ends_in_order : (plan : PlanValue) (r u v : ℕ) → has_ends plan r u v ≡ true → (ends_of plan r ≡ Some (u, v)) ⊎ (ends_of plan r ≡ Some (v, u))
ends_in_order plan r u v h = go (slice_get plan.records r) h
  where
    go : (o : Option RecordEntry) → option_map_or (lies_between u v) o false ≡ true → (option_map {U = ℕ × ℕ} (λ (e : RecordEntry). (e.first, e.second)) o ≡ Some (u, v)) ⊎ (option_map {U = ℕ × ℕ} (λ (e : RecordEntry). (e.first, e.second)) o ≡ Some (v, u))
    go None k = absurd cc
    go (Some e) k = ⊎_elim
        (λ s. inl (ap (λ x. Some (x, e.second)) s.0 ∙ ap (λ y. Some (u, y)) s.1))
        (λ s. inr (ap (λ x. Some (x, e.second)) s.0 ∙ ap (λ y. Some (v, y)) s.1))
        (between_cases e u v k)

abbrev ends_work : PlanValue → (ℕ → Pairs) → ℕ → ℕ
ends_work plan pairs q = option_map_or (bottle_work pairs q) (ends_of plan q) 0

-- where no fork's work changes, of other records none rises, and that of r falls
pub bottle_less : (plan : PlanValue) (pairs pairs' : ℕ → Pairs) (r u v : ℕ) → has_ends plan r u v ≡ true → ((x y : ℕ) → fork_work plan pairs' x y ≡ fork_work plan pairs x y) →
    ((q x y : ℕ) → (q == r) ≡ false → bottle_work pairs' q (x, y) ≤ bottle_work pairs q (x, y)) →
    bottle_work pairs' r (u, v) + 1 ≤ bottle_work pairs r (u, v) → bottle_work pairs' r (v, u) + 1 ≤ bottle_work pairs r (v, u) → pairs_work plan pairs' + 1 ≤ pairs_work plan pairs
bottle_less plan pairs pairs' r u v ends forks others here there =
    omega (
      arith,
      sum_by-no_more (λ x. sum_by (fork_work plan pairs' x) (neighbours_of plan x)) (λ x. sum_by (fork_work plan pairs x) (neighbours_of plan x)) (range_with_len 0 (length plan.offices))
          (λ x. sum_by-no_more (fork_work plan pairs' x) (fork_work plan pairs x) (neighbours_of plan x) (λ y. omega (arith, forks x y))),
      sum_by-one_less (ends_work plan pairs') (ends_work plan pairs) (range_with_len 0 (length plan.records)) (λ q. each q (q == r) refl) r inside falls,
    )
  where
    inside : is_among (range_with_len 0 (length plan.records)) r ≡ true
    inside = let n : 0 + r ≡ r = omega arith in ap (is_among (range_with_len 0 (length plan.records))) (sym n) ∙ among_range 0 (length plan.records) r (end_within plan r u (is_first_end plan r u v ends))

    falls : ends_work plan pairs' r + 1 ≤ ends_work plan pairs r
    falls = ⊎_elim
        (λ e. subst (λ (o : Option (ℕ × ℕ)). option_map_or (bottle_work pairs' r) o 0 + 1 ≤ option_map_or (bottle_work pairs r) o 0) (sym e) here)
        (λ e. subst (λ (o : Option (ℕ × ℕ)). option_map_or (bottle_work pairs' r) o 0 + 1 ≤ option_map_or (bottle_work pairs r) o 0) (sym e) there)
        (ends_in_order plan r u v ends)

    other : (q : ℕ) (o : Option (ℕ × ℕ)) → (q == r) ≡ false → option_map_or (bottle_work pairs' q) o 0 ≤ option_map_or (bottle_work pairs q) o 0
    other q None e = omega arith
    other q (Some (x, y)) e = others q x y e

    each : (q : ℕ) (b : Bool) → (q == r) ≡ b → ends_work plan pairs' q ≤ ends_work plan pairs q
    each q true e = subst (λ k. ends_work plan pairs' k ≤ ends_work plan pairs k) (sym (eqb-true q r e)) (omega (arith, falls))
    each q false e = other q (ends_of plan q) e

-- where only one way falls, for one record
pub way_less : (plan : PlanValue) (pairs pairs' : ℕ → Pairs) (r u v : ℕ) → has_ends plan r u v ≡ true → ((x y : ℕ) → fork_work plan pairs' x y ≡ fork_work plan pairs x y) →
    ((q x y : ℕ) → bottle_work pairs' q (x, y) + (num (is_way u v x y && (q == r)) + num (is_way u v y x && (q == r))) ≤ bottle_work pairs q (x, y)) → pairs_work plan pairs' + 1 ≤ pairs_work plan pairs
way_less plan pairs pairs' r u v ends forks falls = bottle_less plan pairs pairs' r u v ends forks (λ q x y e. omega (arith, falls q x y)) (omega (arith, falls r u v, here)) (omega (arith, falls r v u, here))
  where
    here : num (is_way u v u v && (r == r)) ≡ 1
    here = ap (λ b. num ((b && (v == v)) && (r == r))) (eq-eqb u u refl) ∙ ap (λ b. num (b && (r == r))) (eq-eqb v v refl) ∙ ap num (eq-eqb r r refl)

-- that way, of that record
pub there : {X : Type 0} (h : ℕ → ℕ → ℕ → X) (u v r x y q : ℕ) → (is_way u v x y && (q == r)) ≡ true → h x y q ≡ h u v r
there h u v r x y q e =
    let parts : (is_way u v x y ≡ true) × ((q == r) ≡ true) = and_parts (is_way u v x y) (q == r) e in
    let ends : (x ≡ u) × (y ≡ v) = way_is u v x y parts.0 in
    ap (λ k. h k y q) ends.0 ∙ ap (λ k. h u k q) ends.1 ∙ ap (h u v) (eqb-true q r parts.1)

-- ---- how often a bottle may still be given, by truths

-- with the office at which the fork is, or to which it is on the way
abbrev pub gives : (fork needed near token behind : Bool) → ℕ
gives fork needed near token behind = cond fork (gives_by_needs needed near token) (gives_by_order behind near)

pub gives_at : (pairs : ℕ → Pairs) (r x y : ℕ) (fork needed near token behind : Bool) → held (pairs x) y Fork ≡ fork → (pairs x).drinker.needed r ≡ needed → is_near pairs x y (Bottle r) ≡ near → held (pairs x) y (BottleToken r) ≡ token → is_behind r (between pairs y x) ≡ behind →
    gives_between pairs r x y ≡ gives fork needed near token behind
gives_at pairs r x y fork needed near token behind f n b t k =
    ap (λ z. gives z ((pairs x).drinker.needed r) (is_near pairs x y (Bottle r)) (held (pairs x) y (BottleToken r)) (is_behind r (between pairs y x))) f
    ∙ ap (λ z. gives fork z (is_near pairs x y (Bottle r)) (held (pairs x) y (BottleToken r)) (is_behind r (between pairs y x))) n
    ∙ ap (λ z. gives fork needed z (held (pairs x) y (BottleToken r)) (is_behind r (between pairs y x))) b
    ∙ ap (λ z. gives fork needed near z (is_behind r (between pairs y x))) t
    ∙ ap (λ z. gives fork needed near token z) k

-- the token isn't looked at where the record is needed or the bottle is near
gives_stay : (fork needed near t t' behind : Bool) → (needed ≡ true) ⊎ ((near ≡ true) ⊎ (t' ≡ t)) → gives fork needed near t' behind ≡ gives fork needed near t behind
gives_stay false needed near t t' behind e = refl
gives_stay true true near t t' behind e = refl
gives_stay true false true t t' behind e = refl
gives_stay true false false t t' behind (inl e) = absurd cc
gives_stay true false false t t' behind (inr (inl e)) = absurd cc
gives_stay true false false t t' behind (inr (inr e)) = ap (gives_by_needs false false) e

-- all that is looked at of a record, but its token where that isn't looked at
pub record IsAsGiven (pairs pairs' : ℕ → Pairs) (q : ℕ) : Type 0 where
  pub fork : (x y : ℕ) → held (pairs' x) y Fork ≡ held (pairs x) y Fork
  pub forks : (x y : ℕ) → count_carrying Fork (between pairs' x y) ≡ count_carrying Fork (between pairs x y)
  pub needed : (x : ℕ) → (pairs' x).drinker.needed q ≡ (pairs x).drinker.needed q
  pub near : (x y : ℕ) → is_near pairs' x y (Bottle q) ≡ is_near pairs x y (Bottle q)
  pub token : (x y : ℕ) → ((pairs x).drinker.needed q ≡ true) ⊎ ((is_near pairs x y (Bottle q) ≡ true) ⊎ (held (pairs' x) y (BottleToken q) ≡ held (pairs x) y (BottleToken q)))
  pub behind : (x y : ℕ) → is_behind q (between pairs' x y) ≡ is_behind q (between pairs x y)

module _ (pairs pairs' : ℕ → Pairs) (q : ℕ) (s : IsAsGiven pairs pairs' q) where
  near_fork : (x y : ℕ) → is_near pairs' x y Fork ≡ is_near pairs x y Fork
  near_fork x y = ap (λ b. b || is_sent pairs' y x Fork) (s.fork x y) ∙ ap (λ n. held (pairs x) y Fork || nat_lt 0 n) (s.forks y x)

  between_stays : (x y : ℕ) → gives_between pairs' q x y ≡ gives_between pairs q x y
  between_stays x y =
      gives_at pairs' q x y (held (pairs x) y Fork) ((pairs x).drinker.needed q) (is_near pairs x y (Bottle q)) (held (pairs' x) y (BottleToken q)) (is_behind q (between pairs y x)) (s.fork x y) (s.needed x) (s.near x y) refl (s.behind y x)
      ∙ gives_stay (held (pairs x) y Fork) ((pairs x).drinker.needed q) (is_near pairs x y (Bottle q)) (held (pairs x) y (BottleToken q)) (held (pairs' x) y (BottleToken q)) (is_behind q (between pairs y x)) (s.token x y)

  pub left_stays : (u v : ℕ) → gives_left pairs' q (u, v) ≡ gives_left pairs q (u, v)
  left_stays u v =
      ap (λ b. cond b (gives_between pairs' q u v) (gives_between pairs' q v u)) (near_fork u v)
      ∙ ap (λ n. cond (is_near pairs u v Fork) n (gives_between pairs' q v u)) (between_stays u v)
      ∙ ap (λ n. cond (is_near pairs u v Fork) (gives_between pairs q u v) n) (between_stays v u)

-- ---- what goes one way of a record

abbrev pub way_work : (ℕ → Pairs) → ℕ → ℕ → ℕ → ℕ
way_work pairs q x y = count_carrying (Bottle q) (between pairs x y) + request_work pairs x y (Bottle q) (BottleToken q)

-- where the gives stay, and each way falls by so much
pub ways_fall : (pairs pairs' : ℕ → Pairs) (q x y d e : ℕ) → gives_left pairs' q (x, y) ≡ gives_left pairs q (x, y) → way_work pairs' q x y + d ≤ way_work pairs q x y → way_work pairs' q y x + e ≤ way_work pairs q y x → bottle_work pairs' q (x, y) + (d + e) ≤ bottle_work pairs q (x, y)
ways_fall pairs pairs' q x y d e left there back = omega (arith, left, there, back)

-- ---- a message of the bottles goes or comes

-- what is held at a toward v, where of one thing only that changed
pub held_then : (pairs : ℕ → Pairs) (a v : ℕ) (t : Thing) (b : Bool) (p' : Pairs) → ((u : ℕ) (z : Thing) → held p' u z ≡ with_held (held (pairs a)) v t b u z) → (x y : ℕ) (z : Thing) → held (put pairs a p' x) y z ≡ cond (is_way a v x y && same z t) b (held (pairs x) y z)
held_then pairs a v t b p' held_is x y z = go (x == a) (y == v) refl refl
  where
    here : (c : Bool) → x ≡ a → y ≡ v → cond c b (held (pairs a) v z) ≡ cond c b (held (pairs x) y z)
    here c e f = ap (λ k. cond c b (held (pairs k) v z)) (sym e) ∙ ap (λ k. cond c b (held (pairs x) k z)) (sym f)

    go : (c d : Bool) → (x == a) ≡ c → (y == v) ≡ d → held (cond c p' (pairs x)) y z ≡ cond ((c && d) && same z t) b (held (pairs x) y z)
    go true true e f = held_is y z ∙ ap (λ k. cond k (hold (held (pairs a) v) t b) (held (pairs a) y) z) f ∙ here (same z t) (eqb-true x a e) (eqb-true y v f)
    go true false e f = held_is y z ∙ ap (λ k. cond k (hold (held (pairs a) v) t b) (held (pairs a) y) z) f ∙ ap (λ k. held (pairs k) y z) (sym (eqb-true x a e))
    go false d e f = refl

nothing_more : (w b : Bool) (n n' : ℕ) → b ≡ false → n' ≡ n + num (w && b) → n' ≡ n
nothing_more true true n n' e h = absurd cc
nothing_more true false n n' e h = omega (arith, h)
nothing_more false b n n' e h = omega (arith, h)

nothing_less : (w b : Bool) (n n' : ℕ) → b ≡ false → n ≡ num (w && b) + n' → n' ≡ n
nothing_less true true n n' e h = absurd cc
nothing_less true false n n' e h = omega (arith, h)
nothing_less false b n n' e h = omega (arith, h)

not_that : (w b c h : Bool) → b ≡ false → cond (w && b) c h ≡ h
not_that true true c h e = absurd cc
not_that true false c h e = refl
not_that false b c h e = refl

pub record Sends (pairs pairs' : ℕ → Pairs) (a v : ℕ) (m : Msg) : Type 0 where
  pub diner : (x : ℕ) → (pairs' x).diner ≡ (pairs x).diner
  pub needed : (q x : ℕ) → (pairs' x).drinker.needed q ≡ (pairs x).drinker.needed q
  pub held : (x y : ℕ) (t : Thing) → held (pairs' x) y t ≡ cond (is_way a v x y && same t (thing_of m)) false (held (pairs x) y t)
  pub ways : (x y : ℕ) → between pairs' x y ≡ between pairs x y ++ cond (is_way a v x y) (m ∷ []) []

module _ (pairs pairs' : ℕ → Pairs) (a v : ℕ) (m : Msg) (s : Sends pairs pairs' a v m) where
  pub sent_count : (x y : ℕ) (t : Thing) → count_carrying t (between pairs' x y) ≡ count_carrying t (between pairs x y) + num (is_way a v x y && same t (thing_of m))
  sent_count x y t = count_sent (is_way a v x y) t (between pairs x y) (between pairs' x y) m (s.ways x y)

  pub sent_same : (x y : ℕ) (t : Thing) → same t (thing_of m) ≡ false → count_carrying t (between pairs' x y) ≡ count_carrying t (between pairs x y)
  sent_same x y t e = nothing_more (is_way a v x y) (same t (thing_of m)) (count_carrying t (between pairs x y)) (count_carrying t (between pairs' x y)) e (sent_count x y t)

  pub left_same : (x y : ℕ) (t : Thing) → same t (thing_of m) ≡ false → held (pairs' x) y t ≡ held (pairs x) y t
  left_same x y t e = s.held x y t ∙ not_that (is_way a v x y) (same t (thing_of m)) false (held (pairs x) y t) e

  pub sent_forks_same : (plan : PlanValue) → same Fork (thing_of m) ≡ false → same ForkToken (thing_of m) ≡ false → (x y : ℕ) → fork_work plan pairs' x y ≡ fork_work plan pairs x y
  sent_forks_same plan e f x y = fork_work_same plan pairs pairs' x y (s.diner x) (sent_same x y Fork e) (sent_same x y ForkToken f)

  sent_behind_same : (q x y : ℕ) → same (Bottle q) (thing_of m) ≡ false → is_behind q (between pairs' x y) ≡ is_behind q (between pairs x y)
  sent_behind_same q x y e = ap (is_behind q) (s.ways x y) ∙ go (is_way a v x y)
    where
      go : (w : Bool) → is_behind q (between pairs x y ++ cond w (m ∷ []) []) ≡ is_behind q (between pairs x y)
      go true = behind_pushed q (between pairs x y) m e
      go false = ap (is_behind q) (append-nil (between pairs x y))

  -- what is sent isn't the bottle
  pub sent_as_given : (q : ℕ) → same Fork (thing_of m) ≡ false → same (Bottle q) (thing_of m) ≡ false → ((x y : ℕ) → ((pairs x).drinker.needed q ≡ true) ⊎ (held (pairs' x) y (BottleToken q) ≡ held (pairs x) y (BottleToken q))) → IsAsGiven pairs pairs' q
  sent_as_given q e f token = record {
    fork = λ x y. left_same x y Fork e;
    forks = λ x y. sent_same x y Fork e;
    needed = s.needed q;
    near = λ x y. ap (λ b. b || is_sent pairs' y x (Bottle q)) (left_same x y (Bottle q) f) ∙ ap (λ n. held (pairs x) y (Bottle q) || nat_lt 0 n) (sent_same y x (Bottle q) f);
    token = λ x y. ⊎_elim (λ k. inl k) (λ k. inr (inr k)) (token x y);
    behind = λ x y. sent_behind_same q x y f;
  }

pub record Takes (pairs pairs' : ℕ → Pairs) (u a : ℕ) (m : Msg) : Type 0 where
  pub diner : (x : ℕ) → (pairs' x).diner ≡ (pairs x).diner
  pub needed : (q x : ℕ) → (pairs' x).drinker.needed q ≡ (pairs x).drinker.needed q
  pub held : (x y : ℕ) (t : Thing) → held (pairs' x) y t ≡ cond (is_way a u x y && same t (thing_of m)) true (held (pairs x) y t)
  pub ways : (x y : ℕ) → between pairs x y ≡ cond (is_way u a x y) (m ∷ []) [] ++ between pairs' x y

-- what comes was near, and is
still_near : (c d h : Bool) (n n' : ℕ) → c ≡ d → n ≡ num c + n' → (cond d true h || nat_lt 0 n') ≡ (h || nat_lt 0 n)
still_near c true h n n' e f = sym (or_right h (nat_lt 0 n) (lt-ltb 0 n (omega (arith, f, ap num e))))
still_near c false h n n' e f = let k : n' ≡ n = omega (arith, f, ap num e) in ap (λ z. h || nat_lt 0 z) k

swapped : (a u x y : ℕ) → is_way u a y x ≡ is_way a u x y
swapped a u x y = go (y == u) (x == a)
  where
    go : (b c : Bool) → (b && c) ≡ (c && b)
    go true true = refl
    go true false = refl
    go false true = refl
    go false false = refl

module _ (pairs pairs' : ℕ → Pairs) (u a : ℕ) (m : Msg) (s : Takes pairs pairs' u a m) where
  pub came_count : (x y : ℕ) (t : Thing) → count_carrying t (between pairs x y) ≡ num (is_way u a x y && same t (thing_of m)) + count_carrying t (between pairs' x y)
  came_count x y t = count_came (is_way u a x y) t (between pairs x y) (between pairs' x y) m (s.ways x y)

  pub came_same : (x y : ℕ) (t : Thing) → same t (thing_of m) ≡ false → count_carrying t (between pairs' x y) ≡ count_carrying t (between pairs x y)
  came_same x y t e = nothing_less (is_way u a x y) (same t (thing_of m)) (count_carrying t (between pairs x y)) (count_carrying t (between pairs' x y)) e (came_count x y t)

  pub kept_same : (x y : ℕ) (t : Thing) → same t (thing_of m) ≡ false → held (pairs' x) y t ≡ held (pairs x) y t
  kept_same x y t e = s.held x y t ∙ not_that (is_way a u x y) (same t (thing_of m)) true (held (pairs x) y t) e

  pub came_forks_same : (plan : PlanValue) → same Fork (thing_of m) ≡ false → same ForkToken (thing_of m) ≡ false → (x y : ℕ) → fork_work plan pairs' x y ≡ fork_work plan pairs x y
  came_forks_same plan e f x y = fork_work_same plan pairs pairs' x y (s.diner x) (came_same x y Fork e) (came_same x y ForkToken f)

  came_near_same : (x y : ℕ) (t : Thing) → is_near pairs' x y t ≡ is_near pairs x y t
  came_near_same x y t =
      ap (λ b. b || is_sent pairs' y x t) (s.held x y t)
      ∙ still_near (is_way u a y x && same t (thing_of m)) (is_way a u x y && same t (thing_of m)) (held (pairs x) y t) (count_carrying t (between pairs y x)) (count_carrying t (between pairs' y x)) (ap (λ b. b && same t (thing_of m)) (swapped a u x y)) (came_count y x t)

  came_behind_same : (q x y : ℕ) → ((ms : List Msg) → is_behind q (m ∷ ms) ≡ is_behind q ms) → is_behind q (between pairs' x y) ≡ is_behind q (between pairs x y)
  came_behind_same q x y e = go (is_way u a x y) ∙ sym (ap (is_behind q) (s.ways x y))
    where
      go : (w : Bool) → is_behind q (between pairs' x y) ≡ is_behind q (cond w (m ∷ []) [] ++ between pairs' x y)
      go true = sym (e (between pairs' x y))
      go false = refl

  -- what comes isn't a fork
  pub came_as_given : (q : ℕ) → same Fork (thing_of m) ≡ false → ((ms : List Msg) → is_behind q (m ∷ ms) ≡ is_behind q ms) → ((x y : ℕ) → (is_near pairs x y (Bottle q) ≡ true) ⊎ (held (pairs' x) y (BottleToken q) ≡ held (pairs x) y (BottleToken q))) → IsAsGiven pairs pairs' q
  came_as_given q e behind token = record {
    fork = λ x y. kept_same x y Fork e;
    forks = λ x y. came_same x y Fork e;
    needed = s.needed q;
    near = λ x y. came_near_same x y (Bottle q);
    token = λ x y. inr (token x y);
    behind = λ x y. came_behind_same q x y behind;
  }
