-- The work of the pairs by its two parts, forks and bottles: what each may rise or fall by, and what a bottle's part looks at.
use Rattle.std.proofs.Common.{◌≡◌, ℕ, zero, suc, ◌+◌, ◌*◌, ◌≤◌, ◌<◌, Bool, true, false, not, cond, List, [], ◌∷◌, length, Option, None, Some, is_some, sum_by, slice_get, refl, sym, ap, subst, ◌∙◌, arith, ⊎_elim, eqb-true, eq-eqb}
use Rattle.std.specs.Prelude.{◌==◌, ◌&&◌, ◌||◌, nat_lt}
use Rattle.std.specs.List.{range_with_len}
use Rattle.std.specs.Option.{option_map, option_map_or}
use Rattle.std.proofs.lemmas.Bool.{or_left, or_right, cases_lt}
use Rattle.std.proofs.lemmas.List.Sums.{sum_by-cons}
use Rattle.bottle_values.specs.Lists.{num, is_among}
use Rattle.bottle_values.specs.Maps.{put}
use Rattle.frame_codec.specs.declared.message.Msg.{Msg}
use Rattle.office_map.specs.declared.entries.RecordEntry.{RecordEntry}
use Rattle.office_map.specs.PlanValue.{PlanValue, neighbours_of, records_between, ends_of, has_ends, lies_between, is_end, has_end}
use Rattle.token_channel.specs.declared.thing.Thing.TheVariants.{Fork, ForkToken, Bottle, BottleToken}
use Rattle.token_channel.specs.Things.{count_carrying}
use Rattle.drinking_core.specs.Drinkers.{Drinker}
use Rattle.site_core.specs.Pairs.{Pairs, held}
use Rattle.frame_world.specs.Ways.{between}
use Rattle.frame_world.specs.WorkLeft.{is_behind, gives_by_needs, gives_by_order, bottle_work, move_work, dirty_work, fork_work, change_work}
use Rattle.frame_world.proofs.work.RequestsGo.{is_way}
use Rattle.frame_world.proofs.work.WorkSums.{sum_by-more, sum_by-less, sum_by-ends, sum_by-between}
use Rattle.frame_world.proofs.work.BottleGives.{gives_few}
use Rattle.frame_world.proofs.work.ForkAsked.{sum_by-no_more}

-- ---- sums

no_more : (xs : List ℕ) → sum_by (λ (x : ℕ). 0) xs ≡ 0
no_more [] = refl
no_more (x ∷ xs) = omega (arith, sum_by-cons (λ (y : ℕ). 0) x xs, no_more xs)

-- of what falls at one place at least
sum_falls : (f g : ℕ → ℕ) (d : ℕ) (xs : List ℕ) → ((x : ℕ) → f x ≤ g x) → (y : ℕ) → is_among xs y ≡ true → f y + d ≤ g y → sum_by f xs + d ≤ sum_by g xs
sum_falls f g d xs le y i less = omega (arith, sum_by-less f g (λ x. 0) d xs (λ x i. omega (arith, le x)) y i (omega (arith, less)), no_more xs)

-- of what may rise at one number of a range alone
none_before : (n a k m : ℕ) → a < k → sum_by (λ x. cond (x == a) n 0) (range_with_len k m) ≡ 0
none_before n a k zero lt = refl
none_before n a k (suc m) lt = sum_by-cons (λ x. cond (x == a) n 0) k (range_with_len (k + 1) m) ∙ go (k == a) refl (none_before n a (k + 1) m (omega (arith, lt)))
  where
    go : (b : Bool) → (k == a) ≡ b → sum_by (λ x. cond (x == a) n 0) (range_with_len (k + 1) m) ≡ 0 → cond b n 0 + sum_by (λ x. cond (x == a) n 0) (range_with_len (k + 1) m) ≡ 0
    go true i rest = absurd (omega (arith, lt, eqb-true k a i))
    go false i rest = omega (arith, rest)

pub once_in_range : (n a k m : ℕ) → sum_by (λ x. cond (x == a) n 0) (range_with_len k m) ≤ n
once_in_range n a k zero = omega arith
once_in_range n a k (suc m) = subst (λ s. s ≤ n) (sym (sum_by-cons (λ x. cond (x == a) n 0) k (range_with_len (k + 1) m))) (go (k == a) refl (once_in_range n a (k + 1) m))
  where
    go : (b : Bool) → (k == a) ≡ b → sum_by (λ x. cond (x == a) n 0) (range_with_len (k + 1) m) ≤ n → cond b n 0 + sum_by (λ x. cond (x == a) n 0) (range_with_len (k + 1) m) ≤ n
    go true i h = omega (arith, none_before n a (k + 1) m (omega (arith, eqb-true k a i)))
    go false i h = omega (arith, h)

-- each number of a range is among it
pub among_range : (a k n : ℕ) → k ≤ a → a < k + n → is_among (range_with_len k n) a ≡ true
among_range a k zero le lt = absurd (omega (arith, le, lt))
among_range a k (suc n) le lt = ⊎_elim
    (λ later. or_right (k == a) (is_among (range_with_len (k + 1) n) a) (among_range a (k + 1) n (omega (arith, later)) (omega (arith, lt))))
    (λ here. or_left (k == a) (is_among (range_with_len (k + 1) n) a) (eq-eqb k a (omega (arith, le, here))))
    (cases_lt k a)

-- what may be there is no more than all of it
pub part_of : (b : Bool) (m : ℕ) → cond b m 0 ≤ m
part_of true m = omega arith
part_of false m = omega arith

-- ---- the two parts

abbrev pub forks_work : PlanValue → (ℕ → Pairs) → ℕ
forks_work plan pairs = sum_by (λ x. sum_by (fork_work plan pairs x) (neighbours_of plan x)) (range_with_len 0 (length plan.offices))

abbrev pub work_of_record : PlanValue → (ℕ → Pairs) → ℕ → ℕ
work_of_record plan pairs r = option_map_or (bottle_work pairs r) (ends_of plan r) 0

abbrev pub bottles_work : PlanValue → (ℕ → Pairs) → ℕ
bottles_work plan pairs = sum_by (work_of_record plan pairs) (range_with_len 0 (length plan.records))

module _ (plan : PlanValue) (pairs pairs' : ℕ → Pairs) where
  pub forks_stay : ((x y : ℕ) → fork_work plan pairs' x y ≤ fork_work plan pairs x y) → forks_work plan pairs' ≤ forks_work plan pairs
  forks_stay le =
      sum_by-no_more (λ x. sum_by (fork_work plan pairs' x) (neighbours_of plan x)) (λ x. sum_by (fork_work plan pairs x) (neighbours_of plan x)) (range_with_len 0 (length plan.offices))
      (λ x. sum_by-no_more (fork_work plan pairs' x) (fork_work plan pairs x) (neighbours_of plan x) (le x))

  pub forks_fall : (a v d : ℕ) → is_among (range_with_len 0 (length plan.offices)) a ≡ true → is_among (neighbours_of plan a) v ≡ true → ((x y : ℕ) → fork_work plan pairs' x y ≤ fork_work plan pairs x y) →
      fork_work plan pairs' a v + d ≤ fork_work plan pairs a v → forks_work plan pairs' + d ≤ forks_work plan pairs
  forks_fall a v d inside near le less =
      sum_falls (λ x. sum_by (fork_work plan pairs' x) (neighbours_of plan x)) (λ x. sum_by (fork_work plan pairs x) (neighbours_of plan x)) d (range_with_len 0 (length plan.offices))
      (λ x. sum_by-no_more (fork_work plan pairs' x) (fork_work plan pairs x) (neighbours_of plan x) (le x)) a inside
      (sum_falls (fork_work plan pairs' a) (fork_work plan pairs a) d (neighbours_of plan a) (le a) v near less)

  pub bottles_stay : ((r : ℕ) → work_of_record plan pairs' r ≤ work_of_record plan pairs r) → bottles_work plan pairs' ≤ bottles_work plan pairs
  bottles_stay le = sum_by-no_more (work_of_record plan pairs') (work_of_record plan pairs) (range_with_len 0 (length plan.records)) le

  -- at the records between two offices
  pub bottles_rise_between : (a v : ℕ) → ((r : ℕ) → work_of_record plan pairs' r ≤ work_of_record plan pairs r + 8 * num (has_ends plan r a v)) → bottles_work plan pairs' ≤ bottles_work plan pairs + 8 * records_between plan a v
  bottles_rise_between a v le =
      omega (
        arith,
        sum_by-more (work_of_record plan pairs') (work_of_record plan pairs) (λ r. 8 * num (has_ends plan r a v)) (range_with_len 0 (length plan.records)) (λ r i. le r),
        sum_by-between plan a v,
      )

  -- at the records of one office
  pub bottles_rise_at : (a : ℕ) → ((r : ℕ) → work_of_record plan pairs' r ≤ work_of_record plan pairs r + 8 * num (is_end plan r a)) → bottles_work plan pairs' ≤ bottles_work plan pairs + change_work plan a
  bottles_rise_at a le =
      omega (
        arith,
        sum_by-more (work_of_record plan pairs') (work_of_record plan pairs) (λ r. 8 * num (is_end plan r a)) (range_with_len 0 (length plan.records)) (λ r i. le r),
        sum_by-ends plan a,
      )

-- ---- what a fork's part looks at

abbrev pub fork_at : PlanValue → ℕ → ℕ → (held clean token : Bool) → (forks tokens : ℕ) → ℕ
fork_at plan x y held clean token forks tokens = cond (held && not clean) (dirty_work plan x y) 0 + (cond (nat_lt 0 forks) (move_work plan x y) 0 + (tokens + 2 * num (token && not held)))

pub fork_work_at : (plan : PlanValue) (pairs : ℕ → Pairs) (x y : ℕ) (held clean token : Bool) (forks tokens : ℕ) → (pairs x).diner.held y ≡ held → (pairs x).diner.clean y ≡ clean → (pairs x).diner.token y ≡ token →
    count_carrying Fork (between pairs x y) ≡ forks → count_carrying ForkToken (between pairs x y) ≡ tokens → fork_work plan pairs x y ≡ fork_at plan x y held clean token forks tokens
fork_work_at plan pairs x y held clean token forks tokens h c t f q =
    ap (λ b. fork_at plan x y b ((pairs x).diner.clean y) ((pairs x).diner.token y) (count_carrying Fork (between pairs x y)) (count_carrying ForkToken (between pairs x y))) h
    ∙ ap (λ b. fork_at plan x y held b ((pairs x).diner.token y) (count_carrying Fork (between pairs x y)) (count_carrying ForkToken (between pairs x y))) c
    ∙ ap (λ b. fork_at plan x y held clean b (count_carrying Fork (between pairs x y)) (count_carrying ForkToken (between pairs x y))) t
    ∙ ap (λ n. fork_at plan x y held clean token n (count_carrying ForkToken (between pairs x y))) f
    ∙ ap (fork_at plan x y held clean token forks) q

-- where one office holds one fork otherwise, each other fork is held as it was
pub held_elsewhere : (pairs : ℕ → Pairs) (a v : ℕ) (b : Bool) (p' : Pairs) → p'.diner.held ≡ put (pairs a).diner.held v b → (x y : ℕ) → is_way a v x y ≡ false → (put pairs a p' x).diner.held y ≡ (pairs x).diner.held y
held_elsewhere pairs a v b p' e x y off = go (x == a) refl off
  where
    go : (c : Bool) → (x == a) ≡ c → (c && (y == v)) ≡ false → (cond c p' (pairs x)).diner.held y ≡ (pairs x).diner.held y
    go true i o = ap (λ f. f y) e ∙ ap (λ c. cond c b ((pairs a).diner.held y)) o ∙ ap (λ k. (pairs k).diner.held y) (sym (eqb-true x a i))
    go false i o = refl

-- ---- what a bottle's part looks at

-- what an office shows of a record toward another, and the messages that it sent to it
pub record View : Type 0 where
  pub fork : Bool
  pub needed : Bool
  pub bottle : Bool
  pub token : Bool
  pub forks : ℕ
  pub bottles : ℕ
  pub tokens : ℕ
  pub behind : Bool

abbrev pub view_of : ℕ → ℕ → (fork : Bool) → Drinker → List Msg → View
view_of r y fork k ms = record {
  fork = fork;
  needed = k.needed r;
  bottle = (k.peer r == y) && is_some (k.bottle r);
  token = (k.peer r == y) && k.token r;
  forks = count_carrying Fork ms;
  bottles = count_carrying (Bottle r) ms;
  tokens = count_carrying (BottleToken r) ms;
  behind = is_behind r ms;
}

abbrev pub view : (ℕ → Pairs) → ℕ → ℕ → ℕ → View
view pairs r x y = view_of r y ((pairs x).diner.held y) (pairs x).drinker (between pairs x y)

pub view_stays : (pairs pairs' : ℕ → Pairs) (r x y : ℕ) → (pairs' x).diner.held y ≡ (pairs x).diner.held y → (pairs' x).drinker ≡ (pairs x).drinker → between pairs' x y ≡ between pairs x y → view pairs' r x y ≡ view pairs r x y
view_stays pairs pairs' r x y h k m =
    ap (λ b. view_of r y b (pairs' x).drinker (between pairs' x y)) h
    ∙ ap (λ d. view_of r y ((pairs x).diner.held y) d (between pairs' x y)) k
    ∙ ap (view_of r y ((pairs x).diner.held y) (pairs x).drinker) m

abbrev gives_from : View → View → ℕ
gives_from v w = cond v.fork (gives_by_needs v.needed (v.bottle || nat_lt 0 w.bottles) v.token) (gives_by_order w.behind (v.bottle || nat_lt 0 w.bottles))

abbrev gives_of : View → View → ℕ
gives_of v w = cond (v.fork || nat_lt 0 w.forks) (gives_from v w) (gives_from w v)

abbrev requests_of : View → ℕ
requests_of v = v.tokens + 2 * num (v.token && not v.bottle)

-- all but how often the bottle may be given
abbrev rest_of : View → View → ℕ
rest_of v w = (v.bottles + w.bottles) + (requests_of v + requests_of w)

-- so `bottle_work pairs r (x, y)` is this of what x and y show of r to one another
abbrev work_by : View → View → ℕ
work_by v w = 4 * gives_of v w + rest_of v w

-- where both offices show the same
pub work_stays : (pairs pairs' : ℕ → Pairs) (r x y : ℕ) → view pairs' r x y ≡ view pairs r x y → view pairs' r y x ≡ view pairs r y x → bottle_work pairs' r (x, y) ≡ bottle_work pairs r (x, y)
work_stays pairs pairs' r x y e f = ap (λ v. work_by v (view pairs' r y x)) e ∙ ap (work_by (view pairs r x y)) f

-- where the bottle and its token are where they were, whatever else changed
pub record IsRestSame (pairs pairs' : ℕ → Pairs) (r : ℕ) : Type 0 where
  pub bottle : (x y : ℕ) → held (pairs' x) y (Bottle r) ≡ held (pairs x) y (Bottle r)
  pub token : (x y : ℕ) → held (pairs' x) y (BottleToken r) ≡ held (pairs x) y (BottleToken r)
  pub bottles : (x y : ℕ) → count_carrying (Bottle r) (between pairs' x y) ≡ count_carrying (Bottle r) (between pairs x y)
  pub tokens : (x y : ℕ) → count_carrying (BottleToken r) (between pairs' x y) ≡ count_carrying (BottleToken r) (between pairs x y)

pub work_rises : (pairs pairs' : ℕ → Pairs) (r : ℕ) → IsRestSame pairs pairs' r → (x y : ℕ) → bottle_work pairs' r (x, y) ≤ bottle_work pairs r (x, y) + 8
work_rises pairs pairs' r s x y = omega (arith, gives_few pairs' r x y, s.bottles x y, s.bottles y x, requests x y, requests y x)
  where
    requests : (x y : ℕ) → requests_of (view pairs' r x y) ≡ requests_of (view pairs r x y)
    requests x y =
        ap (λ n. n + 2 * num (held (pairs' x) y (BottleToken r) && not (held (pairs' x) y (Bottle r)))) (s.tokens x y)
        ∙ ap (λ b. count_carrying (BottleToken r) (between pairs x y) + 2 * num (b && not (held (pairs' x) y (Bottle r)))) (s.token x y)
        ∙ ap (λ b. count_carrying (BottleToken r) (between pairs x y) + 2 * num (held (pairs x) y (BottleToken r) && not b)) (s.bottle x y)

-- ---- by a record's ends

either_is : (a b : Bool) → (a || b) ≡ false → (a ≡ false) × (b ≡ false)
either_is true b e = absurd cc
either_is false b e = (refl, e)

pub turned : (a b : Bool) → (a && b) ≡ false → (b && a) ≡ false
turned true true e = e
turned true false e = refl
turned false true e = refl
turned false false e = refl

-- the record lies between two offices, or what goes between them is nothing to it
pub record_rises_between : (plan : PlanValue) (pairs pairs' : ℕ → Pairs) (a v r : ℕ) → ((x y : ℕ) → bottle_work pairs' r (x, y) ≤ bottle_work pairs r (x, y) + 8) →
    ((x y : ℕ) → is_way a v x y ≡ false → is_way a v y x ≡ false → bottle_work pairs' r (x, y) ≡ bottle_work pairs r (x, y)) → work_of_record plan pairs' r ≤ work_of_record plan pairs r + 8 * num (has_ends plan r a v)
record_rises_between plan pairs pairs' a v r rise stay = of (slice_get plan.records r)
  where
    at : (e : RecordEntry) (b : Bool) → lies_between a v e ≡ b → bottle_work pairs' r (e.first, e.second) ≤ bottle_work pairs r (e.first, e.second) + 8 * num b
    at e true i = omega (arith, rise e.first e.second)
    at e false i =
        let apart : ((e.first == a && e.second == v) ≡ false) × ((e.first == v && e.second == a) ≡ false) = either_is (e.first == a && e.second == v) (e.first == v && e.second == a) i in
        omega (arith, stay e.first e.second apart.0 (turned (e.first == v) (e.second == a) apart.1))

    of : (o : Option RecordEntry) → option_map_or (bottle_work pairs' r) (option_map (λ (e : RecordEntry). (e.first, e.second)) o) 0 ≤ option_map_or (bottle_work pairs r) (option_map (λ (e : RecordEntry). (e.first, e.second)) o) 0 + 8 * num (option_map_or (lies_between a v) o false)
    of None = omega arith
    of (Some e) = at e (lies_between a v e) refl

-- the record ends at an office, or what that office does is nothing to it
pub record_rises_at : (plan : PlanValue) (pairs pairs' : ℕ → Pairs) (a r : ℕ) → ((x y : ℕ) → bottle_work pairs' r (x, y) ≤ bottle_work pairs r (x, y) + 8) →
    ((x y : ℕ) → (x == a) ≡ false → (y == a) ≡ false → bottle_work pairs' r (x, y) ≡ bottle_work pairs r (x, y)) → work_of_record plan pairs' r ≤ work_of_record plan pairs r + 8 * num (is_end plan r a)
record_rises_at plan pairs pairs' a r rise stay = of (slice_get plan.records r)
  where
    at : (e : RecordEntry) (b : Bool) → has_end e a ≡ b → bottle_work pairs' r (e.first, e.second) ≤ bottle_work pairs r (e.first, e.second) + 8 * num b
    at e true i = omega (arith, rise e.first e.second)
    at e false i =
        let apart : ((e.first == a) ≡ false) × ((e.second == a) ≡ false) = either_is (e.first == a) (e.second == a) i in
        omega (arith, stay e.first e.second apart.0 apart.1)

    of : (o : Option RecordEntry) → option_map_or (bottle_work pairs' r) (option_map (λ (e : RecordEntry). (e.first, e.second)) o) 0 ≤ option_map_or (bottle_work pairs r) (option_map (λ (e : RecordEntry). (e.first, e.second)) o) 0 + 8 * num (option_map_or (λ e. has_end e a) o false)
    of None = omega arith
    of (Some e) = at e (has_end e a) refl

-- where no record shows anything else
pub record_stays : (plan : PlanValue) (pairs pairs' : ℕ → Pairs) (r : ℕ) → ((x y : ℕ) → bottle_work pairs' r (x, y) ≡ bottle_work pairs r (x, y)) → work_of_record plan pairs' r ≡ work_of_record plan pairs r
record_stays plan pairs pairs' r same = of (ends_of plan r)
  where
    of : (o : Option (ℕ × ℕ)) → option_map_or (bottle_work pairs' r) o 0 ≡ option_map_or (bottle_work pairs r) o 0
    of None = refl
    of (Some (x, y)) = same x y
