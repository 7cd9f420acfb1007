-- Every consistent plan has an order or a ring.
-- An order is begun, and grows by the office that comes next as long as there is one. Where none may come, either all offices are placed, or each that is left is preceded by another that is left, and who goes from one to such another comes round.
use Rattle.std.proofs.Common.{◌≡◌, ℕ, zero, suc, ◌+◌, ◌<◌, ◌≤◌, true, false, List, [], ◌∷◌, ◌++◌, length, get_or, take, drop, sym, ◌∙◌, subst, arith, inl, inr, ◌⊎◌, ⊎_elim, length-append}
use Rattle.std.specs.Prelude.{◌==◌}
use Rattle.std.specs.List.{Any, list_any}
use Rattle.std.proofs.lemmas.Bool.{eqb-true, cases_lt, cases_Bool, both_ways, false_from_ne_true}
use Rattle.std.proofs.lemmas.List.{get_or_default}
use Rattle.std.proofs.lemmas.List.Folds.{Any-from_list_any, list_any_at}
use Rattle.office_map.specs.declared.entries.PairEntry.{PairEntry}
use Rattle.office_map.specs.PlanValue.{PlanValue}
use Rattle.office_map.specs.Consistency.{IsConsistent}
use Rattle.office_map.specs.Precedence.{preceding_end, starts_before, MayCome, IsNext, IsCircle, IsRing}
use Rattle.office_map.specs.OrderOrRing.{AnOrderOrARing}
use Rattle.office_map.specs.refinement.OrderSearch.{awaits}
use Rattle.office_map.proofs.LeastFirstOrders.{none_awaited, one_awaited, IsBegun, begun_empty, begun_more, begun_fits, whole}
use Rattle.office_map.proofs.Rings.{IsPath, path_empty, path_more, path_fits, circle_closed, turned_ring}
use Rattle.bottle_values.specs.Lists.{is_among}

-- ---- who is awaited
-- an office that isn't placed and precedes this one
record Awaited (p : PlanValue) (placed : List ℕ) (v : ℕ) : Type 0 where
  office : ℕ
  before : starts_before p office v ≡ true
  within : office < length p.offices
  unplaced : is_among placed office ≡ false

awaited_or_none : (p : PlanValue) (placed : List ℕ) (v : ℕ) → IsConsistent p → Awaited p placed v ⊎ ((u : ℕ) → starts_before p u v ≡ true → is_among placed u ≡ true)
awaited_or_none p placed v ok = ⊎_elim
    (λ e. let any : Any (λ (pair : PairEntry). awaits placed v pair ≡ true) p.pairs = Any-from_list_any (awaits placed v) p.pairs e in
    let one : (starts_before p (preceding_end any.1) v ≡ true) × (preceding_end any.1 < length p.offices) × (is_among placed (preceding_end any.1) ≡ false) = one_awaited p placed v any.0 any.1 ok any.2 (sym any.3) any.4 in
    inl (record { office = preceding_end any.1; before = one.0; within = one.1; unplaced = one.2 }))
    (λ e. inr (none_awaited p placed v (λ k d lt. false_from_ne_true (awaits placed v (get_or p.pairs k d)) (λ h. both_ways (list_any (awaits placed v) p.pairs) e (list_any_at (awaits placed v) p.pairs k d lt h)))))
    (cases_Bool (list_any (awaits placed v) p.pairs))

-- ---- which office comes next
may_or_not : (p : PlanValue) (placed : List ℕ) (v : ℕ) → IsConsistent p → v < length p.offices → MayCome p placed v ⊎ (MayCome p placed v → ⊥)
may_or_not p placed v ok lt = ⊎_elim
    (λ e. inr (λ m. both_ways (is_among placed v) m.unplaced e))
    (λ e. ⊎_elim
    (λ a. inr (λ m. both_ways (is_among placed a.office) a.unplaced (m.after_all a.office a.before)))
    (λ all. inl (record { office = lt; unplaced = e; after_all = all }))
    (awaited_or_none p placed v ok))
    (cases_Bool (is_among placed v))

-- none below k may come, and k may not
none_more : (p : PlanValue) (placed : List ℕ) (k : ℕ) → ((v : ℕ) → v < k → MayCome p placed v → ⊥) → (MayCome p placed k → ⊥) → (v : ℕ) → v < suc k → MayCome p placed v → ⊥
none_more p placed k none not v lt m = ⊎_elim
    (λ less. none v less m)
    (λ more. let same : v ≡ k = omega arith in not (subst (MayCome p placed) same m))
    (cases_lt v k)

-- the least office below k that may come, or none may
next_below : (p : PlanValue) (placed : List ℕ) → IsConsistent p → (k : ℕ) → k ≤ length p.offices → ((v : ℕ) × IsNext p placed v) ⊎ ((v : ℕ) → v < k → MayCome p placed v → ⊥)
next_below p placed ok zero le = inr (λ v lt m. absurd (omega arith))
next_below p placed ok (suc k) le = ⊎_elim
    (λ found. inl found)
    (λ none. ⊎_elim
    (λ m. inl (k, record { may_come = m; least = none }))
    (λ not. inr (none_more p placed k none not))
    (may_or_not p placed k ok (omega arith)))
    (next_below p placed ok k (omega arith))

-- ---- an order grows until no office may come
record IsStuck (p : PlanValue) (placed : List ℕ) : Type 0 where
  begun : IsBegun p placed
  stuck : (v : ℕ) → MayCome p placed v → ⊥

-- with more steps left than offices
grown : (p : PlanValue) → IsConsistent p → (steps : ℕ) (xs : List ℕ) → IsBegun p xs → length p.offices < steps + length xs → (placed : List ℕ) × IsStuck p placed
grown p ok zero xs b left = absurd (omega (arith, begun_fits p xs b))
grown p ok (suc steps) xs b left = ⊎_elim
    (λ n. grown p ok steps (xs ++ n.0 ∷ []) (begun_more p xs n.0 b n.1) (omega (arith, left, length-append xs (n.0 ∷ []))))
    (λ none. (xs, record { begun = b; stuck = λ v m. none v m.office m }))
    (next_below p xs ok (length p.offices) (omega arith))

-- an office below n that isn't placed, or all are
left_or_none : (xs : List ℕ) (n : ℕ) → ((a : ℕ) × (a < n) × (is_among xs a ≡ false)) ⊎ ((a : ℕ) → a < n → is_among xs a ≡ true)
left_or_none xs zero = inr (λ a lt. absurd (omega arith))
left_or_none xs (suc n) = ⊎_elim
    (λ found. inl (found.0, omega (arith, found.1), found.2))
    (λ all. ⊎_elim
    (λ e. inr (λ a lt. all_more e all a lt))
    (λ e. inl (n, omega arith, e))
    (cases_Bool (is_among xs n)))
    (left_or_none xs n)
  where
    all_more : is_among xs n ≡ true → ((a : ℕ) → a < n → is_among xs a ≡ true) → (a : ℕ) → a < suc n → is_among xs a ≡ true
    all_more e all a lt = ⊎_elim
        (λ less. all a less)
        (λ more. let same : n ≡ a = omega arith in subst (λ x. is_among xs x ≡ true) same e)
        (cases_lt a n)

-- ---- where none may come, the way from an office that is left comes round
awaited_where_stuck : (p : PlanValue) (placed : List ℕ) (v : ℕ) → IsConsistent p → (MayCome p placed v → ⊥) → v < length p.offices → is_among placed v ≡ false → Awaited p placed v
awaited_where_stuck p placed v ok not lt new = ⊎_elim
    (λ a. a)
    (λ all. absurd (not (record { office = lt; unplaced = new; after_all = all })))
    (awaited_or_none p placed v ok)

one_step : (p : PlanValue) (placed xs : List ℕ) (office : ℕ) → IsConsistent p → IsStuck p placed → IsPath p placed xs office → is_among xs office ≡ false → (before : ℕ) × IsPath p placed (office ∷ xs) before
one_step p placed xs office ok s i new =
    let a : Awaited p placed office = awaited_where_stuck p placed office ok (s.stuck office) i.here i.unplaced in
    (a.office, path_more p placed xs office a.office i new a.before a.within a.unplaced)

come_round : (p : PlanValue) (placed xs : List ℕ) (office : ℕ) → IsPath p placed xs office → is_among xs office ≡ true → (circle : List ℕ) × IsCircle p circle
come_round p placed xs office i among =
    let any : Any (λ x. (x == office) ≡ true) xs = Any-from_list_any (λ x. x == office) xs among in
    let there : get_or xs any.0 office ≡ office = get_or_default xs any.0 office any.1 any.2 ∙ any.3 ∙ eqb-true any.1 office any.4 in
    (take (any.0 + 1) xs, circle_closed p placed xs office any.0 i any.2 there)

-- with more steps left than offices
walked : (p : PlanValue) (placed : List ℕ) → IsConsistent p → IsStuck p placed → (steps : ℕ) (xs : List ℕ) (office : ℕ) → IsPath p placed xs office → length p.offices < steps + length xs → (circle : List ℕ) × IsCircle p circle
walked p placed ok s zero xs office i left = absurd (omega (arith, path_fits p placed xs office i))
walked p placed ok s (suc steps) xs office i left = ⊎_elim
    (λ e. come_round p placed xs office i e)
    (λ e. let on : (before : ℕ) × IsPath p placed (office ∷ xs) before = one_step p placed xs office ok s i e in
    walked p placed ok s steps (office ∷ xs) on.0 on.1 (omega (arith, left)))
    (cases_Bool (is_among xs office))

-- ---- a circle, begun with its least number
least_more : (xs : List ℕ) (n x : ℕ) → n < length xs → x ≤ get_or xs n 0 → ((j d : ℕ) → j < n → x ≤ get_or xs j d) → (j d : ℕ) → j < suc n → x ≤ get_or xs j d
least_more xs n x lt here below j d l = ⊎_elim
    (λ less. below j d less)
    (λ more. let same : n ≡ j = omega arith in subst (λ z. x ≤ get_or xs z d) same (omega (arith, here, get_or_default xs n d 0 lt)))
    (cases_lt j n)

-- where the least of the first n numbers stands
least_place : (xs : List ℕ) (n : ℕ) → 0 < length xs → n ≤ length xs → (k : ℕ) × (k < length xs) × ((j d : ℕ) → j < n → get_or xs k 0 ≤ get_or xs j d)
least_place xs zero some le = (0, some, λ j d l. absurd (omega arith))
least_place xs (suc n) some le =
    let m : (k : ℕ) × (k < length xs) × ((j d : ℕ) → j < n → get_or xs k 0 ≤ get_or xs j d) = least_place xs n some (omega arith) in
    let lt : n < length xs = omega arith in
    ⊎_elim
    (λ less. (n, lt, least_more xs n (get_or xs n 0) lt (omega arith) (λ j d l. omega (arith, less, m.2 j d l))))
    (λ more. (m.0, m.1, least_more xs n (get_or xs m.0 0) lt more m.2))
    (cases_lt (get_or xs n 0) (get_or xs m.0 0))

ring_of : (p : PlanValue) (circle : List ℕ) → IsCircle p circle → (ring : List ℕ) × IsRing p ring
ring_of p circle c =
    let m : (k : ℕ) × (k < length circle) × ((j d : ℕ) → j < length circle → get_or circle k 0 ≤ get_or circle j d) = least_place circle (length circle) c.some (omega arith) in
    (drop m.0 circle ++ take m.0 circle, turned_ring p circle m.0 c m.1 (λ j d l. m.2 j d l))

pub order_or_ring : AnOrderOrARing
order_or_ring p ok =
    let g : (placed : List ℕ) × IsStuck p placed = grown p ok (suc (length p.offices)) [] (begun_empty p) (omega arith) in
    ⊎_elim
    (λ left. let c : (circle : List ℕ) × IsCircle p circle = walked p g.0 ok g.1 (suc (length p.offices)) [] left.0 (path_empty p g.0 left.0 left.1 left.2) (omega arith) in
    inr (ring_of p c.0 c.1))
    (λ all. inl (record { order = g.0; is = (whole p g.0 ok g.1.begun all).is_order }))
    (left_or_none g.0 (length p.offices))
