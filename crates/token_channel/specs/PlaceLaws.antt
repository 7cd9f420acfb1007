-- How many things two neighbours share: two for the fork and two for each record between them.
use Rattle.std.proofs.Common.{◌≡◌, ◌≢◌, ℕ, ◌+◌, ◌*◌, ◌≤◌, Bool, true, false, ◌&&◌, ◌||◌, cond, List, [], ◌∷◌, ◌++◌, length, Some, zero, suc, refl, sym, ap, ◌∙◌, subst, arith, append_assoc}
use Rattle.std.specs.Prelude.{◌==◌, filter, count_by, slice_get, All, IsTrue}
use Rattle.std.specs.List.{list_any, flat_map, range_with_len}
use Rattle.std.specs.Option.{option_map_or}
use Rattle.std.proofs.lemmas.Bool.{cond_both, eqb-true}
use Rattle.std.proofs.lemmas.List.{length-append}
use Rattle.std.proofs.lemmas.List.Sums.{sum_by-cons}
use Rattle.std.proofs.lemmas.List.Elements.{All-head, All-tail}
use Rattle.office_map.specs.declared.entries.RecordEntry.{RecordEntry}
use Rattle.office_map.specs.declared.entries.PairEntry.{PairEntry}
use Rattle.office_map.specs.PlanValue.{PlanValue, is_end, has_end, lies_between, records_between, joins, are_neighbours}
use Rattle.office_map.specs.Consistency.{IsConsistent}
use Rattle.token_channel.specs.declared.thing.SharedThing.{SharedThing}
use Rattle.token_channel.specs.Places.{bottle_places, places_of}

-- ---- different ends

pub both_true : (a b : Bool) → (a && b) ≡ true → (a ≡ true) × (b ≡ true)
both_true true true e = (refl, refl)
both_true true false e = absurd cc
both_true false b e = absurd cc

joined_twice : (a : ℕ) (pair : PairEntry) → pair.first ≢ pair.second → joins a a pair ≡ true → ⊥
joined_twice a pair differ e = differ (go (pair.first == a && pair.second == a) (pair.first == a && pair.second == a) e (λ h. ends h) (λ h. ends h))
  where
    ends : (pair.first == a && pair.second == a) ≡ true → pair.first ≡ pair.second
    ends h = let b = both_true (pair.first == a) (pair.second == a) h in eqb-true pair.first a b.0 ∙ sym (eqb-true pair.second a b.1)

    go : (x y : Bool) → (x || y) ≡ true → (x ≡ true → pair.first ≡ pair.second) → (y ≡ true → pair.first ≡ pair.second) → pair.first ≡ pair.second
    go true y h f g = f refl
    go false y h f g = g h

none_joined : (a : ℕ) (pairs : List PairEntry) → All (λ (pair : PairEntry). pair.first ≢ pair.second) pairs → list_any (joins a a) pairs ≡ true → ⊥
none_joined a [] h e = absurd cc
none_joined a (pair ∷ pairs) h e = go (joins a a pair) e (joined_twice a pair (All-head (λ (pair : PairEntry). pair.first ≢ pair.second) pair pairs h)) (none_joined a pairs (All-tail (λ (pair : PairEntry). pair.first ≢ pair.second) pair pairs h))
  where
    go : (x : Bool) → (x || list_any (joins a a) pairs) ≡ true → (x ≡ true → ⊥) → (list_any (joins a a) pairs ≡ true → ⊥) → ⊥
    go true h f g = f refl
    go false h f g = g h

pub neighbours_differ : (p : PlanValue) (a b : ℕ) → IsConsistent p → IsTrue (are_neighbours p a b) → a ≢ b
neighbours_differ p a b h n e = none_joined a p.pairs h.ends_differ (ap (λ x. are_neighbours p a x) e ∙ n)

-- ---- records between two offices

-- a record with both ends lies between them
pub between_from_ends : (a b : ℕ) (r : RecordEntry) → a ≢ b → has_end r a ≡ true → has_end r b ≡ true → lies_between a b r ≡ true
between_from_ends a b r differ ha hb = go (r.first == a) (r.second == a) (r.first == b) (r.second == b) refl refl refl refl ha hb
  where
    go : (fa sa fb sb : Bool) → (r.first == a) ≡ fa → (r.second == a) ≡ sa → (r.first == b) ≡ fb → (r.second == b) ≡ sb → (fa || sa) ≡ true → (fb || sb) ≡ true → ((fa && sb) || (fb && sa)) ≡ true
    go true sa fb true e f g h x y = refl
    go true sa true false e f g h x y = absurd (differ (sym (eqb-true r.first a e) ∙ eqb-true r.first b g))
    go true sa false false e f g h x y = absurd cc
    go false true true sb e f g h x y = refl
    go false true false true e f g h x y = absurd (differ (sym (eqb-true r.second a f) ∙ eqb-true r.second b h))
    go false true false false e f g h x y = absurd cc
    go false false fb sb e f g h x y = absurd cc

abbrev two : Bool → ℕ
two true = 2
two false = 0

bottles_length : (p : PlanValue) (me peer r : ℕ) → length (bottle_places p me peer r) ≡ two (is_end p r peer)
bottles_length p me peer r = cond_both {A = List SharedThing} (is_end p r peer) _ _ (λ ps. length ps ≡ two (is_end p r peer)) (λ e. sym (ap two e)) (λ e. sym (ap two e))

abbrev one : Bool → ℕ
one true = 1
one false = 0

-- the records from one on, counted where both offices are ends
both_ends : PlanValue → ℕ → ℕ → ℕ → ℕ → ℕ
both_ends p me peer from zero = 0
both_ends p me peer from (suc n) = one (is_end p from me && is_end p from peer) + both_ends p me peer (from + 1) n

bottles_of : (p : PlanValue) (me peer from n : ℕ) → length (flat_map (bottle_places p me peer) (filter (λ r. is_end p r me) (range_with_len from n))) ≡ 2 * both_ends p me peer from n
unfolding both_ends
bottles_of p me peer from zero = refl
bottles_of p me peer from (suc n) = go (is_end p from me) refl (bottles_of p me peer (from + 1) n)
  where
    rest : List ℕ
    rest = filter (λ r. is_end p r me) (range_with_len (from + 1) n)

    one_two : (b : Bool) → two b ≡ 2 * one b
    one_two true = refl
    one_two false = refl

    go : (b : Bool) → is_end p from me ≡ b → length (flat_map (bottle_places p me peer) rest) ≡ 2 * both_ends p me peer (from + 1) n →
        length (flat_map (bottle_places p me peer) (cond b (from ∷ rest) rest)) ≡ 2 * (one (b && is_end p from peer) + both_ends p me peer (from + 1) n)
    go true h ih =
        omega (arith, ih, bottles_length p me peer from, one_two (is_end p from peer), length-append (bottle_places p me peer from) (flat_map (bottle_places p me peer) rest))
    go false h ih = omega (arith, ih)

slice_get-after : {X : Type 0} (xs ys : List X) (y : X) → slice_get (xs ++ y ∷ ys) (length xs) ≡ Some y
slice_get-after [] ys y = refl
slice_get-after (x ∷ xs) ys y = slice_get-after xs ys y

count_by-yes : {X : Type 0} (test : X → Bool) (x : X) (xs : List X) → test x ≡ true → count_by test (x ∷ xs) ≡ 1 + count_by test xs
count_by-yes test x xs e = omega (arith, sum_by-cons (λ y. cond (test y) 1 0) x xs, ap {B = ℕ} (λ b. cond b 1 0) e)

count_by-no : {X : Type 0} (test : X → Bool) (x : X) (xs : List X) → test x ≡ false → count_by test (x ∷ xs) ≡ count_by test xs
count_by-no test x xs e = omega (arith, sum_by-cons (λ y. cond (test y) 1 0) x xs, ap {B = ℕ} (λ b. cond b 1 0) e)

-- they are at most those between the two
ends_between : (p : PlanValue) (me peer : ℕ) → me ≢ peer → (front back : List RecordEntry) → p.records ≡ front ++ back →
    both_ends p me peer (length front) (length back) ≤ count_by (lies_between me peer) back
unfolding both_ends
ends_between p me peer differ front [] is = omega arith
ends_between p me peer differ front (e ∷ back) is =
    go (lies_between me peer e) refl (subst (λ k. both_ends p me peer k (length back) ≤ count_by (lies_between me peer) back) (length-append front (e ∷ [])) (ends_between p me peer differ (front ++ e ∷ []) back (is ∙ sym (append_assoc front (e ∷ []) back))))
  where
    here : (o : ℕ) → is_end p (length front) o ≡ has_end e o
    here o = ap (λ x. option_map_or (λ r. has_end r o) x false) (ap (λ l. slice_get l (length front)) is ∙ slice_get-after front back e)

    one_le : (b c : Bool) → (b ≡ true → c ≡ true) → one b ≤ one c
    one_le true c h = let t : c ≡ true = h refl in omega (arith, ap one t)
    one_le false true h = omega arith
    one_le false false h = omega arith

    implied : (is_end p (length front) me && is_end p (length front) peer) ≡ true → lies_between me peer e ≡ true
    implied h =
        let b = both_true (is_end p (length front) me) (is_end p (length front) peer) h in
        between_from_ends me peer e differ (sym (here me) ∙ b.0) (sym (here peer) ∙ b.1)

    go : (c : Bool) → lies_between me peer e ≡ c → both_ends p me peer (length front + 1) (length back) ≤ count_by (lies_between me peer) back →
        one (is_end p (length front) me && is_end p (length front) peer) + both_ends p me peer (length front + 1) (length back) ≤ count_by (lies_between me peer) (e ∷ back)
    go true h ih = omega (arith, ih, count_by-yes (lies_between me peer) e back h, one_le (is_end p (length front) me && is_end p (length front) peer) true (λ x. refl))
    go false h ih = omega (arith, ih, count_by-no (lies_between me peer) e back h, one_le (is_end p (length front) me && is_end p (length front) peer) false (λ x. sym h ∙ implied x))

-- so many places, and at most 18
pub few_places : (p : PlanValue) (me peer : ℕ) → IsConsistent p → IsTrue (are_neighbours p me peer) → length (places_of p me peer) ≤ 2 + 2 * records_between p me peer
few_places p me peer h n =
    omega (
      arith,
      bottles_of p me peer 0 (length p.records),
      ends_between p me peer (neighbours_differ p me peer h n) [] p.records refl,
    )
