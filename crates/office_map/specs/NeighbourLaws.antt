-- What follows of neighbours, and of a record and its two ends.
use Rattle.std.proofs.Common.{◌≡◌, ◌≢◌, ℕ, zero, suc, ◌+◌, ◌<◌, get_or, Bool, true, false, ◌&&◌, ◌||◌, List, [], ◌∷◌, length, Option, None, Some, refl, sym, ap, ◌∙◌, subst, arith, inl, inr, ◌⊎◌, ⊎_elim}
use Rattle.std.specs.Prelude.{slice_get, ◌==◌, All, IsTrue, filter}
use Rattle.std.specs.Option.{option_map_or}
use Rattle.std.specs.List.{list_any, range_with_len}
use Rattle.std.proofs.lemmas.Bool.{cond_both, eqb-true, eqb-false, eq-eqb, or_left, or_right, or_cases, and_parts, and_from}
use Rattle.std.proofs.lemmas.List.Elements.{All-head, All-tail}
use Rattle.std.proofs.lemmas.Map.Views.{any-filter_same}
use Rattle.bottle_values.specs.Lists.{is_among}
use Rattle.office_map.specs.declared.entries.PairEntry.{PairEntry}
use Rattle.office_map.specs.declared.entries.RecordEntry.{RecordEntry}
use Rattle.office_map.specs.PlanValue.{PlanValue, joins, are_neighbours, neighbours_of, records_of, lies_between, has_end, is_end, has_ends, other_end, peer}
use Rattle.office_map.specs.Consistency.{IsConsistent}

or_swap : (x y : Bool) → (x || y) ≡ (y || x)
or_swap true true = refl
or_swap true false = refl
or_swap false true = refl
or_swap false false = refl

-- two ways round
pub joins_swap : (a b : ℕ) (pair : PairEntry) → joins a b pair ≡ joins b a pair
joins_swap a b pair = or_swap (pair.first == a && pair.second == b) (pair.first == b && pair.second == a)

pub any_same : (f g : PairEntry → Bool) → ((x : PairEntry) → f x ≡ g x) → (xs : List PairEntry) → list_any f xs ≡ list_any g xs
any_same f g h [] = refl
any_same f g h (x ∷ xs) = ap (λ b. b || list_any f xs) (h x) ∙ ap (λ b. g x || b) (any_same f g h xs)

pub near_both : (p : PlanValue) (a b : ℕ) → are_neighbours p a b ≡ are_neighbours p b a
near_both p a b = any_same (joins a b) (joins b a) (joins_swap a b) p.pairs

pub has_ends_both : (p : PlanValue) (r a b : ℕ) → has_ends p r a b ≡ has_ends p r b a
has_ends_both p r a b = go (slice_get p.records r)
  where
    go : (o : Option RecordEntry) → option_map_or (lies_between a b) o false ≡ option_map_or (lies_between b a) o false
    go None = refl
    go (Some e) = or_swap (e.first == a && e.second == b) (e.first == b && e.second == a)

-- the two ends of an entry
pub between_cases : (e : RecordEntry) (a b : ℕ) → lies_between a b e ≡ true → ((e.first ≡ a) × (e.second ≡ b)) ⊎ ((e.first ≡ b) × (e.second ≡ a))
between_cases e a b h =
    ⊎_elim
    (λ s. let k : ((e.first == a) ≡ true) × ((e.second == b) ≡ true) = and_parts _ _ s in inl (eqb-true _ _ k.0, eqb-true _ _ k.1))
    (λ s. let k : ((e.first == b) ≡ true) × ((e.second == a) ≡ true) = and_parts _ _ s in inr (eqb-true _ _ k.0, eqb-true _ _ k.1))
    (or_cases (e.first == a && e.second == b) (e.first == b && e.second == a) h)

pub end_cases : (e : RecordEntry) (a : ℕ) → has_end e a ≡ true → (e.first ≡ a) ⊎ (e.second ≡ a)
end_cases e a h = ⊎_elim (λ s. inl (eqb-true _ _ s)) (λ s. inr (eqb-true _ _ s)) (or_cases (e.first == a) (e.second == a) h)

-- in an entry whose ends differ, or not: the other end of a is b
other_is : (e : RecordEntry) (a b : ℕ) → lies_between a b e ≡ true → other_end a e ≡ b
other_is e a b h =
    cond_both (e.first == a) e.second e.first (λ z. z ≡ b)
    (λ t. let f : e.first ≡ a = eqb-true _ _ t in ⊎_elim (λ x. x.1) (λ x. x.1 ∙ sym f ∙ x.0) (between_cases e a b h))
    (λ t. ⊎_elim (λ x. absurd (eqb-false (e.first) a t x.0)) (λ x. x.0) (between_cases e a b h))

-- each of the two is an end
pub is_first_end : (p : PlanValue) (r a b : ℕ) → has_ends p r a b ≡ true → is_end p r a ≡ true
is_first_end p r a b h = go (slice_get p.records r) h
  where
    go : (o : Option RecordEntry) → option_map_or (lies_between a b) o false ≡ true → option_map_or (λ e. has_end e a) o false ≡ true
    go None k = k
    go (Some e) k = ⊎_elim
        (λ s. or_left (e.first == a) (e.second == a) (eq-eqb e.first a s.0))
        (λ s. or_right (e.first == a) (e.second == a) (eq-eqb e.second a s.1))
        (between_cases e a b k)

-- an end is of a record of the plan
pub end_within : (p : PlanValue) (r a : ℕ) → is_end p r a ≡ true → r < length p.records
end_within p r a e = go p.records r e
  where
    go : (xs : List RecordEntry) (k : ℕ) → option_map_or (λ e. has_end e a) (slice_get xs k) false ≡ true → k < length xs
    go [] k h = absurd cc
    go (x ∷ xs) zero h = omega arith
    go (x ∷ xs) (suc k) h = omega (arith, go xs k h)

pub peer_is : (p : PlanValue) (r a b : ℕ) → has_ends p r a b ≡ true → peer p a r ≡ b
peer_is p r a b h = go (slice_get p.records r) h
  where
    go : (o : Option RecordEntry) → option_map_or (lies_between a b) o false ≡ true → option_map_or (other_end a) o 0 ≡ b
    go None k = cc
    go (Some e) k = other_is e a b k

pub ends_are : (p : PlanValue) (r a x y : ℕ) → is_end p r a ≡ true → has_ends p r x y ≡ true → (x ≡ a → ⊥) → (y ≡ a → ⊥) → ⊥
ends_are p r a x y e h xa ya = go (slice_get p.records r) e h
  where
    go : (o : Option RecordEntry) → option_map_or (λ e. has_end e a) o false ≡ true → option_map_or (lies_between x y) o false ≡ true → ⊥
    go None k j = cc
    go (Some e) k j =
        ⊎_elim
        (λ s. ⊎_elim (λ t. xa (sym s.0 ∙ t)) (λ t. ya (sym s.1 ∙ t)) (end_cases e a k))
        (λ s. ⊎_elim (λ t. ya (sym s.0 ∙ t)) (λ t. xa (sym s.1 ∙ t)) (end_cases e a k))
        (between_cases e x y j)

-- neighbours are different
joined_differ : (pairs : List PairEntry) (a b : ℕ) → All (λ (pair : PairEntry). pair.first ≢ pair.second) pairs → list_any (joins a b) pairs ≡ true → a ≡ b → ⊥
joined_differ [] a b h e same = cc
joined_differ (x ∷ xs) a b h e same =
    ⊎_elim
    (λ s. ⊎_elim
    (λ k. let j : ((x.first == a) ≡ true) × ((x.second == b) ≡ true) = and_parts _ _ k in All-head (λ (pair : PairEntry). pair.first ≢ pair.second) x xs h (eqb-true _ _ j.0 ∙ same ∙ sym (eqb-true _ _ j.1)))
    (λ k. let j : ((x.first == b) ≡ true) × ((x.second == a) ≡ true) = and_parts _ _ k in All-head (λ (pair : PairEntry). pair.first ≢ pair.second) x xs h (eqb-true _ _ j.0 ∙ sym same ∙ sym (eqb-true _ _ j.1)))
    (or_cases (x.first == a && x.second == b) (x.first == b && x.second == a) s))
    (λ s. joined_differ xs a b (All-tail (λ (pair : PairEntry). pair.first ≢ pair.second) x xs h) s same)
    (or_cases (joins a b x) (list_any (joins a b) xs) e)

pub neighbours_apart : (p : PlanValue) (a b : ℕ) → IsConsistent p → are_neighbours p a b ≡ true → a ≡ b → ⊥
neighbours_apart p a b h near = joined_differ p.pairs a b h.ends_differ near

-- the entry of a record that is there
pub entry_of : (p : PlanValue) (r : ℕ) → r < length p.records → (e : RecordEntry) × (slice_get p.records r ≡ Some e)
entry_of p r lt = go p.records r lt
  where
    go : (xs : List RecordEntry) (k : ℕ) → k < length xs → (e : RecordEntry) × (slice_get xs k ≡ Some e)
    go [] k l = absurd (omega arith)
    go (x ∷ xs) zero l = (x, refl)
    go (x ∷ xs) (suc k) l = go xs k (omega arith)

entry_near : (xs : List RecordEntry) (k : ℕ) (x : RecordEntry) (f : RecordEntry → Bool) → All (λ y. IsTrue (f y)) xs → slice_get xs k ≡ Some x → f x ≡ true
entry_near [] k x f a g = cc
entry_near (y ∷ ys) zero x f a g = let e : y ≡ x = cc in let k : IsTrue (f y) = All-head (λ (z : RecordEntry). IsTrue (f z)) y ys a in subst (λ z. f z ≡ true) e k
entry_near (y ∷ ys) (suc k) x f a g = entry_near ys k x f (All-tail (λ (z : RecordEntry). IsTrue (f z)) y ys a) g

pub entry_apart : (p : PlanValue) (r : ℕ) (e : RecordEntry) → IsConsistent p → slice_get p.records r ≡ Some e → e.first ≡ e.second → ⊥
entry_apart p r e h here = neighbours_apart p e.first e.second h (entry_near p.records r e (λ x. are_neighbours p x.first x.second) h.records_have_pairs here)

pub peer_apart : (p : PlanValue) (r a : ℕ) → IsConsistent p → is_end p r a ≡ true → a ≡ peer p a r → ⊥
peer_apart p r a h e = go (slice_get p.records r) refl e
  where
    go : (o : Option RecordEntry) → slice_get p.records r ≡ o → option_map_or (λ e. has_end e a) o false ≡ true → a ≡ option_map_or (other_end a) o 0 → ⊥
    go None s k = cc
    go (Some x) s k =
        cond_both (x.first == a) x.second x.first (λ z. a ≡ z → ⊥)
        (λ t q. entry_apart p r x h s (eqb-true x.first a t ∙ q))
        (λ t q. eqb-false x.first a t (sym q))

-- and are neighbours
pub peer_near : (p : PlanValue) (r a : ℕ) → IsConsistent p → is_end p r a ≡ true → are_neighbours p a (peer p a r) ≡ true
peer_near p r a h e = go (slice_get p.records r) refl e
  where
    near : (x : RecordEntry) → slice_get p.records r ≡ Some x → are_neighbours p x.first x.second ≡ true
    near x s = entry_near p.records r x (λ y. are_neighbours p y.first y.second) h.records_have_pairs s

    go : (o : Option RecordEntry) → slice_get p.records r ≡ o → option_map_or (λ e. has_end e a) o false ≡ true → are_neighbours p a (option_map_or (other_end a) o 0) ≡ true
    go None s k = cc
    go (Some x) s k =
        cond_both (x.first == a) x.second x.first (λ z. are_neighbours p a z ≡ true)
        (λ t. subst (λ z. are_neighbours p z x.second ≡ true) (eqb-true x.first a t) (near x s))
        (λ t. ⊎_elim (λ f. absurd (eqb-false x.first a t f)) (λ f. subst (λ z. are_neighbours p z x.first ≡ true) f (near_both p x.second x.first ∙ near x s)) (end_cases x a k))

-- an end and its peer are the two ends
pub has_peer : (p : PlanValue) (r a : ℕ) → is_end p r a ≡ true → has_ends p r a (peer p a r) ≡ true
has_peer p r a e = go (slice_get p.records r) e
  where
    go : (o : Option RecordEntry) → option_map_or (λ e. has_end e a) o false ≡ true → option_map_or (lies_between a (option_map_or (other_end a) o 0)) o false ≡ true
    go None k = cc
    go (Some x) k =
        cond_both (x.first == a) x.second x.first (λ z. lies_between a z x ≡ true)
        (λ t. or_left _ _ (and_from _ _ t (eq-eqb x.second x.second refl)))
        (λ t. ⊎_elim (λ f. absurd (eqb-false x.first a t f)) (λ f. or_right (x.first == a && x.second == x.first) _ (and_from _ _ (eq-eqb x.first x.first refl) (eq-eqb x.second a f))) (end_cases x a k))

-- neighbours are offices of the plan
joined : (n : ℕ) (pairs : List PairEntry) (a b : ℕ) → All (λ (pair : PairEntry). (pair.first < n) × (pair.second < n)) pairs → list_any (joins a b) pairs ≡ true → b < n
joined n [] a b h e = cc
joined n (x ∷ xs) a b h e =
    let k : (x.first < n) × (x.second < n) = All-head (λ (pair : PairEntry). (pair.first < n) × (pair.second < n)) x xs h in
    ⊎_elim
    (λ s. ⊎_elim
    (λ j. let q : ((x.first == a) ≡ true) × ((x.second == b) ≡ true) = and_parts _ _ j in omega (arith, k.1, eqb-true x.second b q.1))
    (λ j. let q : ((x.first == b) ≡ true) × ((x.second == a) ≡ true) = and_parts _ _ j in omega (arith, k.0, eqb-true x.first b q.0))
    (or_cases (x.first == a && x.second == b) (x.first == b && x.second == a) s))
    (λ s. joined n xs a b (All-tail (λ (pair : PairEntry). (pair.first < n) × (pair.second < n)) x xs h) s)
    (or_cases (joins a b x) (list_any (joins a b) xs) e)

pub near_within : (plan : PlanValue) (a b : ℕ) → IsConsistent plan → are_neighbours plan a b ≡ true → b < length plan.offices
near_within plan a b h e = joined (length plan.offices) plan.pairs a b h.ends_are_offices e

-- the other end's other end is the office itself
pub peer_back : (p : PlanValue) (r a : ℕ) → is_end p r a ≡ true → peer p (peer p a r) r ≡ a
peer_back p r a e = peer_is p r (peer p a r) a (has_ends_both p r (peer p a r) a ∙ has_peer p r a e)

-- ---- an office's neighbours and records are among its own

in_range : (a n k : ℕ) → k < n → list_any (λ x. x == a + k) (range_with_len a n) ≡ true
in_range a zero k lt = absurd (omega arith)
in_range a (suc n) zero lt = let here : a ≡ a + 0 = omega arith in ap (λ b. b || list_any (λ x. x == a + 0) (range_with_len (a + 1) n)) (eq-eqb a (a + 0) here)
in_range a (suc n) (suc k) lt =
    let same : a + suc k ≡ a + 1 + k = omega arith in
    or_right (a == a + suc k) _ (ap (λ j. list_any (λ x. x == j) (range_with_len (a + 1) n)) same ∙ in_range (a + 1) n k (omega arith))

pub among_those : (p : ℕ → Bool) (n k : ℕ) → k < n → p k ≡ true → is_among (filter p (range_with_len 0 n)) k ≡ true
among_those p n k lt e =
    let same : 0 + k ≡ k = omega arith in
    any-filter_same (λ x. x == k) p true (λ x h. ap p (eqb-true x k h) ∙ e) (range_with_len 0 n) ∙ ap (λ j. list_any (λ x. x == j) (range_with_len 0 n)) (sym same) ∙ in_range 0 n k lt

pub among_records : (p : PlanValue) (me r : ℕ) → is_end p r me ≡ true → is_among (records_of p me) r ≡ true
among_records p me r e = among_those (λ q. is_end p q me) (length p.records) r (end_within p r me e) e

pub among_neighbours : (p : PlanValue) (me v : ℕ) → IsConsistent p → are_neighbours p me v ≡ true → is_among (neighbours_of p me) v ≡ true
among_neighbours p me v h e = among_those (are_neighbours p me) (length p.offices) v (near_within p me v h e) e

pub all_among : (p : PlanValue) (me : ℕ) (records rs : List ℕ) → records ≡ records_of p me → All (λ r. is_end p r me ≡ true) rs → All (λ r. is_among records r ≡ true) rs
all_among p me records rs e h i d lt = ap (λ (l : List ℕ). is_among l (get_or rs i d)) e ∙ among_records p me (get_or rs i d) (h i d lt)
