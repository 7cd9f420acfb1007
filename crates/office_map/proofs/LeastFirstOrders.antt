-- Orders of offices, which grow by the office that comes next.
use Rattle.std.proofs.Common.{◌≡◌, ℕ, zero, suc, ◌+◌, ◌*◌, ◌<◌, ◌≤◌, Bool, true, false, not, ◌&&◌, ◌||◌, cond, List, [], ◌∷◌, ◌++◌, length, get_or, take, refl, sym, ap, ◌∙◌, subst, arith, ⊎_elim, length-append}
use Rattle.std.specs.Prelude.{◌==◌, nat_lt}
use Rattle.std.specs.List.{All, Any, count_by}
use Rattle.std.proofs.Math.Seq.{take-append_seam, get_or-append_seam, take-length}
use Rattle.std.proofs.lemmas.Bool.{eqb-true, eq-eqb, ne_eqb, and_parts, and_from, or_cases, or_left, or_right, cases_eq, cases_lt, ltb-true, lt-ltb, both_ways, false_from_ne_true}
use Rattle.std.proofs.lemmas.List.{take-append-le, get_or_append_left, take_more}
use Rattle.std.proofs.lemmas.List.Elements.{All-push}
use Rattle.std.proofs.lemmas.List.Folds.{Any-from_list_any, list_any-append, list_any_at}
use Rattle.std.proofs.lemmas.List.Recursion.{is_count_by}
use Rattle.office_map.specs.declared.entries.PairEntry.{PairEntry}
use Rattle.office_map.specs.PlanValue.{PlanValue, fork_end}
use Rattle.office_map.specs.Consistency.{IsConsistent}
use Rattle.office_map.specs.OrderLaws.{occurrences_of_some}
use Rattle.office_map.specs.Precedence.{preceding_end, starts_before, comes_before, occurrences, IsNext, IsLeastFirst}
use Rattle.office_map.proofs.ListBounds.{length_by_key}
use Rattle.bottle_values.specs.Lists.{is_among, num}
use Rattle.bottle_values.specs.ListLaws.{num_one}
use Rattle.office_map.specs.refinement.OrderSearch.{awaits}

-- ---- how often an office stands in a list
num_or : (b : Bool) (n : ℕ) → num b + n ≡ cond b (1 + n) n
num_or true n = refl
num_or false n = omega arith

occurrences_counts : (a : ℕ) (xs : List ℕ) → occurrences a xs ≡ count_by (λ x. x == a) xs
occurrences_counts a xs = is_count_by (occurrences a) (λ x. x == a) refl (λ x ys. num_or (x == a) (occurrences a ys)) xs

-- numbers below n, each once, are at most n
pub few : (n : ℕ) (xs : List ℕ) → All (λ x. x < n) xs → ((a : ℕ) → occurrences a xs ≤ 1) → length xs ≤ n
few n xs below once = let short : length xs ≤ n * 1 = length_by_key (λ x. x) n 1 xs below (λ k. omega (arith, once k, occurrences_counts k xs)) in omega (arith, short)

pub occurrences_append : (a : ℕ) (xs ys : List ℕ) → occurrences a (xs ++ ys) ≡ occurrences a xs + occurrences a ys
occurrences_append a [] ys = omega arith
occurrences_append a (x ∷ xs) ys = omega (arith, occurrences_append a xs ys)

none_more : (b c : Bool) (n : ℕ) → (c ≡ false → n ≡ 0) → (b || c) ≡ false → num b + n ≡ 0
none_more true c n h e = (cc)
none_more false c n h e = omega (arith, h e)

pub occurrences_of_none : (a : ℕ) (xs : List ℕ) → is_among xs a ≡ false → occurrences a xs ≡ 0
occurrences_of_none a [] h = refl
occurrences_of_none a (x ∷ xs) h = none_more (x == a) (is_among xs a) (occurrences a xs) (occurrences_of_none a xs) h

not_among : (a : ℕ) (xs : List ℕ) → occurrences a xs ≡ 0 → is_among xs a ≡ false
not_among a xs h = false_from_ne_true (is_among xs a) (λ e. absurd (omega (arith, h, occurrences_of_some a xs e)))

-- who stands in a list is one of its elements
pub among_below : (n : ℕ) (xs : List ℕ) (a : ℕ) → All (λ x. x < n) xs → is_among xs a ≡ true → a < n
among_below n xs a below h =
    let any : Any (λ x. (x == a) ≡ true) xs = Any-from_list_any (λ x. x == a) xs h in
    omega (arith, below any.0 any.1 any.2, eqb-true (get_or xs any.0 any.1) a (rw any.3 any.4))

-- ---- who precedes whom are two offices
end_below : (n : ℕ) (pair : PairEntry) (b : Bool) → (pair.first < n) × (pair.second < n) → (cond b pair.first pair.second < n)
end_below n pair true h = h.0
end_below n pair false h = h.1

pub precedes_offices : (p : PlanValue) (u v : ℕ) → IsConsistent p → starts_before p u v ≡ true → (u < length p.offices) × (v < length p.offices)
precedes_offices p u v ok h =
    let any : Any (λ (pair : PairEntry). (preceding_end pair == u && fork_end pair == v) ≡ true) p.pairs = Any-from_list_any (λ (pair : PairEntry). preceding_end pair == u && fork_end pair == v) p.pairs h in
    let pair : PairEntry = get_or p.pairs any.0 any.1 in
    let lt : (pair.first < length p.offices) × (pair.second < length p.offices) = ok.ends_are_offices any.0 any.1 any.2 in
    let same : ((preceding_end pair == u) ≡ true) × ((fork_end pair == v) ≡ true) = and_parts (preceding_end pair == u) (fork_end pair == v) (rw any.3 any.4) in
    (omega (arith, other_below pair pair.fork_at_first lt, eqb-true (preceding_end pair) u same.0), omega (arith, end_below (length p.offices) pair pair.fork_at_first lt, eqb-true (fork_end pair) v same.1))
  where
    other_below : (pair : PairEntry) (b : Bool) → (pair.first < length p.offices) × (pair.second < length p.offices) → (cond b pair.second pair.first < length p.offices)
    other_below pair true h = h.1
    other_below pair false h = h.0

-- ---- who is awaited
pub none_awaited : (p : PlanValue) (placed : List ℕ) (v : ℕ) → ((k : ℕ) (d : PairEntry) → k < length p.pairs → awaits placed v (get_or p.pairs k d) ≡ false) → (u : ℕ) → starts_before p u v ≡ true → is_among placed u ≡ true
none_awaited p placed v none u h =
    let any : Any (λ (pair : PairEntry). (preceding_end pair == u && fork_end pair == v) ≡ true) p.pairs = Any-from_list_any (λ (pair : PairEntry). preceding_end pair == u && fork_end pair == v) p.pairs h in
    let pair : PairEntry = get_or p.pairs any.0 any.1 in
    let same : ((preceding_end pair == u) ≡ true) × ((fork_end pair == v) ≡ true) = and_parts (preceding_end pair == u) (fork_end pair == v) (rw any.3 any.4) in
    subst (λ x. is_among placed x ≡ true) (eqb-true (preceding_end pair) u same.0) (not_waiting (fork_end pair == v) (is_among placed (preceding_end pair)) same.1 (none any.0 any.1 any.2))
  where
    not_waiting : (b c : Bool) → b ≡ true → (b && not c) ≡ false → c ≡ true
    not_waiting true true e f = refl
    not_waiting true false e f = absurd (cc)
    not_waiting false c e f = absurd (cc)

pub one_awaited : (p : PlanValue) (placed : List ℕ) (v k : ℕ) (pair : PairEntry) → IsConsistent p → k < length p.pairs → pair ≡ get_or p.pairs k pair → awaits placed v pair ≡ true
    → (starts_before p (preceding_end pair) v ≡ true) × (preceding_end pair < length p.offices) × (is_among placed (preceding_end pair) ≡ false)
one_awaited p placed v k pair ok lt read h =
    let parts : ((fork_end pair == v) ≡ true) × (not (is_among placed (preceding_end pair)) ≡ true) = and_parts (fork_end pair == v) (not (is_among placed (preceding_end pair))) h in
    let here : (preceding_end pair == preceding_end pair && fork_end pair == v) ≡ true = and_from (preceding_end pair == preceding_end pair) (fork_end pair == v) (eq-eqb (preceding_end pair) (preceding_end pair) refl) parts.0 in
    let before : starts_before p (preceding_end pair) v ≡ true = list_any_at (λ (x : PairEntry). preceding_end x == preceding_end pair && fork_end x == v) p.pairs k pair lt (subst (λ x. (preceding_end x == preceding_end pair && fork_end x == v) ≡ true) read here) in
    (before, (precedes_offices p (preceding_end pair) v ok before).0, not_true (is_among placed (preceding_end pair)) parts.1)
  where
    not_true : (b : Bool) → not b ≡ true → b ≡ false
    not_true true e = absurd (cc)
    not_true false e = refl

-- ---- one more at the end
pub before_grows : (xs ys : List ℕ) (u v : ℕ) → comes_before xs u v ≡ true → comes_before (xs ++ ys) u v ≡ true
before_grows [] ys u v h = (cc)
before_grows (x ∷ xs) ys u v h = ⊎_elim
    (λ e. or_left (x == u && is_among (xs ++ ys) v) (comes_before (xs ++ ys) u v)
    (let parts = and_parts (x == u) (is_among xs v) e in
    and_from (x == u) (is_among (xs ++ ys) v) parts.0 (list_any-append (λ y. y == v) xs ys ∙ or_left (is_among xs v) (is_among ys v) parts.1)))
    (λ e. or_right (x == u && is_among (xs ++ ys) v) (comes_before (xs ++ ys) u v) (before_grows xs ys u v e))
    (or_cases (x == u && is_among xs v) (comes_before xs u v) h)

at_end : (xs : List ℕ) (v : ℕ) → is_among (xs ++ v ∷ []) v ≡ true
at_end xs v = list_any-append (λ y. y == v) xs (v ∷ []) ∙ or_right (is_among xs v) (is_among (v ∷ []) v) (or_left (v == v) false (eq-eqb v v refl))

pub before_end : (xs : List ℕ) (u v : ℕ) → is_among xs u ≡ true → comes_before (xs ++ v ∷ []) u v ≡ true
before_end [] u v h = (cc)
before_end (x ∷ xs) u v h = ⊎_elim
    (λ e. or_left (x == u && is_among (xs ++ v ∷ []) v) (comes_before (xs ++ v ∷ []) u v) (and_from (x == u) (is_among (xs ++ v ∷ []) v) e (at_end xs v)))
    (λ e. or_right (x == u && is_among (xs ++ v ∷ []) v) (comes_before (xs ++ v ∷ []) u v) (before_end xs u v e))
    (or_cases (x == u) (is_among xs u) h)

-- an order as far as it was built
pub record IsBegun (p : PlanValue) (xs : List ℕ) : Type 0 where
  pub offices : All (λ x. x < length p.offices) xs
  pub once : (a : ℕ) → occurrences a xs ≤ 1
  pub earlier : (u v : ℕ) → starts_before p u v ≡ true → is_among xs v ≡ true → comes_before xs u v ≡ true
  pub next : (k d : ℕ) → k < length xs → IsNext p (take k xs) (get_or xs k d)

pub begun_empty : (p : PlanValue) → IsBegun p []
begun_empty p = record {
  offices = λ k d lt. absurd (omega arith);
  once = λ a. omega arith;
  earlier = λ u v h among. (cc);
  next = λ k d lt. absurd (omega arith);
}

once_more : (xs : List ℕ) (v : ℕ) → is_among xs v ≡ false → ((a : ℕ) → occurrences a xs ≤ 1) → (a : ℕ) → occurrences a (xs ++ v ∷ []) ≤ 1
once_more xs v new once a = ⊎_elim
    (λ e. let none : occurrences a xs ≡ 0 = ap (λ x. occurrences x xs) (sym e) ∙ occurrences_of_none v xs new in omega (arith, none, occurrences_append a xs (v ∷ []), num_one (v == a)))
    (λ ne. omega (arith, once a, occurrences_append a xs (v ∷ []), ap num (ne_eqb v a ne)))
    (cases_eq v a)

pub begun_more : (p : PlanValue) (xs : List ℕ) (v : ℕ) → IsBegun p xs → IsNext p xs v → IsBegun p (xs ++ v ∷ [])
begun_more p xs v b n = record {
  offices = All-push (λ x. x < length p.offices) xs v b.offices n.may_come.office;
  once = once_more xs v n.may_come.unplaced b.once;
  earlier = λ u w h among. ⊎_elim
      (λ e. before_grows xs (v ∷ []) u w (b.earlier u w h e))
      (λ e. let same : v ≡ w = eqb-true v w (⊎_elim (λ s. s) (λ s. absurd (cc)) (or_cases (v == w) false e)) in
      subst (λ z. comes_before (xs ++ v ∷ []) u z ≡ true) same (before_end xs u v (n.may_come.after_all u (subst (λ z. starts_before p u z ≡ true) (sym same) h))))
      (or_cases (is_among xs w) (is_among (v ∷ []) w) (sym (list_any-append (λ y. y == w) xs (v ∷ [])) ∙ among));
  next = λ k d lt. ⊎_elim
      (λ less. subst (λ l. IsNext p l (get_or (xs ++ v ∷ []) k d)) (sym (take-append-le k xs (v ∷ []) (omega (arith, less))))
      (subst (λ z. IsNext p (take k xs) z) (sym (get_or_append_left xs (v ∷ []) d k less)) (b.next k d less)))
      (λ more. let end : length xs ≡ k = omega (arith, lt, more, length-append xs (v ∷ [])) in
      subst (λ j. IsNext p (take j (xs ++ v ∷ [])) (get_or (xs ++ v ∷ []) j d)) end
      (subst (λ l. IsNext p l (get_or (xs ++ v ∷ []) (length xs) d)) (sym (take-append_seam xs (v ∷ [])))
      (subst (λ z. IsNext p xs z) (sym (get_or-append_seam xs v [] d)) n)))
      (cases_lt k (length xs));
}

-- at most as many as there are offices
pub begun_fits : (p : PlanValue) (xs : List ℕ) → IsBegun p xs → length xs ≤ length p.offices
begun_fits p xs b = few (length p.offices) xs b.offices b.once

-- an order is whole when no office is left
once_each : (n a t : ℕ) (b : Bool) → nat_lt a n ≡ b → t ≤ 1 → (a < n → 1 ≤ t) → ((a < n → ⊥) → t ≡ 0) → t ≡ num b
once_each n a t true e most some none = omega (arith, most, some (ltb-true a n e))
once_each n a t false e most some none = none (λ lt. both_ways (nat_lt a n) e (lt-ltb a n lt))

pub whole : (p : PlanValue) (xs : List ℕ) → IsConsistent p → IsBegun p xs → ((a : ℕ) → a < length p.offices → is_among xs a ≡ true) → IsLeastFirst p xs
whole p xs ok b all = record {
  is_order = record {
    once = λ a. once_each (length p.offices) a (occurrences a xs) (nat_lt a (length p.offices)) refl (b.once a) (λ lt. occurrences_of_some a xs (all a lt)) (λ not. occurrences_of_none a xs (false_from_ne_true (is_among xs a) (λ e. not (among_below (length p.offices) xs a b.offices e))));
    earlier = λ u v h. b.earlier u v h (all v (precedes_offices p u v ok h).1);
  };
  next = b.next;
}

-- ---- one order is least first
same_next : (p : PlanValue) (xs : List ℕ) (a b : ℕ) → IsNext p xs a → IsNext p xs b → a ≡ b
same_next p xs a b n m = ⊎_elim
    (λ less. absurd (m.least a less n.may_come))
    (λ more. ⊎_elim (λ less. absurd (n.least b less m.may_come)) (λ le. omega (arith, more, le)) (cases_lt b a))
    (cases_lt a b)

same_up_to : (p : PlanValue) (a b : List ℕ) → IsLeastFirst p a → IsLeastFirst p b → (k : ℕ) → k ≤ length a → k ≤ length b → take k a ≡ take k b
same_up_to p a b f g zero la lb = refl
same_up_to p a b f g (suc k) la lb =
    let before : take k a ≡ take k b = same_up_to p a b f g k (omega (arith, la)) (omega (arith, lb)) in
    let one : suc k ≡ k + 1 = omega arith in
    let x : ℕ = get_or a k 0 in
    let y : ℕ = get_or b k 0 in
    let at : x ≡ y = same_next p (take k b) x y (subst (λ l. IsNext p l x) before (f.next k 0 (omega (arith, la)))) (g.next k 0 (omega (arith, lb))) in
    ap (λ j. take j a) one ∙ take_more a k 0 (omega (arith, la)) ∙ ap (λ l. l ++ x ∷ []) before ∙ ap (λ z. take k b ++ z ∷ []) at ∙ sym (take_more b k 0 (omega (arith, lb))) ∙ ap (λ j. take j b) (sym one)

-- the shorter one has all offices, so that the other has no more
no_longer : (p : PlanValue) (a b : List ℕ) → IsLeastFirst p a → IsLeastFirst p b → length a < length b → ⊥
no_longer p a b f g lt =
    let same : a ≡ take (length a) b = sym (take-length a) ∙ same_up_to p a b f g (length a) (omega arith) (omega (arith, lt)) in
    let more : IsNext p (take (length a) b) (get_or b (length a) 0) = g.next (length a) 0 lt in
    let x : ℕ = get_or b (length a) 0 in
    let new : is_among a x ≡ false = subst (λ l. is_among l x ≡ false) (sym same) more.may_come.unplaced in
    let counted : occurrences x a ≡ 1 = f.is_order.once x ∙ ap num (lt-ltb x (length p.offices) more.may_come.office) in
    omega (arith, counted, occurrences_of_none x a new)

pub one_order : (p : PlanValue) (a b : List ℕ) → IsLeastFirst p a → IsLeastFirst p b → a ≡ b
one_order p a b f g =
    let alike : length a ≡ length b = ⊎_elim (λ lt. absurd (no_longer p a b f g lt)) (λ ge. ⊎_elim (λ lt. absurd (no_longer p b a g f lt)) (λ le. omega (arith, ge, le)) (cases_lt (length b) (length a))) (cases_lt (length a) (length b)) in
    sym (take-length a) ∙ same_up_to p a b f g (length a) (omega arith) (omega (arith, alike)) ∙ ap (λ k. take k b) alike ∙ take-length b
