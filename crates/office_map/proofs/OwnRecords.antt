-- How many records an office has, and that none of them stands twice.
use Rattle.std.proofs.Common.{◌≡◌, ℕ, suc, ◌+◌, ◌*◌, ◌<◌, ◌≤◌, List, [], ◌∷◌, length, get_or, Bool, true, false, ◌||◌, ◌&&◌, cond, eqb, refl, ap, ◌∙◌, sym, arith}
use Rattle.std.specs.Prelude.{AllPairs}
use Rattle.std.specs.List.{All, filter, count_by, range_with_len}
use Rattle.std.specs.Option.{option_map_or}
use Rattle.std.proofs.lemmas.List.Elements.{All-filter}
use Rattle.std.proofs.lemmas.List.FromFn.{length-range_with_len, get_or-range_with_len}
use Rattle.std.proofs.lemmas.List.Kept.{AllPairs-filter}
use Rattle.std.proofs.lemmas.List.Sums.{length-filter}
use Rattle.std.proofs.lemmas.Option.{slice_get-get_or}
use Rattle.office_map.specs.declared.entries.RecordEntry.{RecordEntry}
use Rattle.office_map.specs.PlanValue.{PlanValue, lies_between, has_end, is_end, other_end, records_of}
use Rattle.office_map.specs.Consistency.{IsConsistent}
use Rattle.office_map.proofs.ListBounds.{counted, count_by-filter, length_by_key}
use Rattle.office_map.proofs.ConsistencyKept.{neighbours_are_offices}

-- the places of a list at which a test passes are as many as its elements that pass
count_places : {X : Type 0} (f : X → Bool) (at : ℕ → Bool) (a : ℕ) (xs : List X) → ((i : ℕ) (d : X) → i < length xs → at (a + i) ≡ f (get_or xs i d)) → count_by at (range_with_len a (length xs)) ≡ count_by f xs
count_places f at a [] h = refl
count_places f at a (x ∷ xs) h =
    let first : a ≡ a + 0 = omega arith in
    let here : at a ≡ f x = ap at first ∙ h 0 x (omega arith) in
    let rest : count_by at (range_with_len (a + 1) (length xs)) ≡ count_by f xs = count_places f at (a + 1) xs (λ i d lt. let next : a + 1 + i ≡ a + suc i = omega arith in ap at next ∙ h (suc i) d (omega (arith, lt))) in
    counted at a (range_with_len (a + 1) (length xs)) ∙ ap (λ b. cond b 1 0 + count_by at (range_with_len (a + 1) (length xs))) here ∙ ap (λ n. cond (f x) 1 0 + n) rest ∙ sym (counted f x xs)

own_counted : (p : PlanValue) (a : ℕ) → length (records_of p a) ≡ length (filter (λ (r : RecordEntry). has_end r a) p.records)
own_counted p a =
    let own : RecordEntry → Bool = λ r. has_end r a in
    length-filter (λ r. is_end p r a) (range_with_len 0 (length p.records))
    ∙ count_places own (λ r. is_end p r a) 0 p.records (λ i d lt. let same : 0 + i ≡ i = omega arith in ap (λ k. is_end p k a) same ∙ ap (λ o. option_map_or own o false) (slice_get-get_or p.records i d lt))
    ∙ sym (length-filter own p.records)

ends_meet : (x : Bool) (f s a b : ℕ) → eqb f a ≡ x → (x || eqb s a) ≡ true → eqb (cond x s f) b ≡ true → ((eqb f a && eqb s b) || (eqb f b && eqb s a)) ≡ true
ends_meet true f s a b e h k = rw (e, k) refl
ends_meet false f s a b e h k = rw (e, k, h) refl

-- each neighbour shares a few of them
pub few_own : (p : PlanValue) → IsConsistent p → (a : ℕ) → length (records_of p a) ≤ 16 * 8
few_own p ok a =
    let own : List RecordEntry = filter (λ (r : RecordEntry). has_end r a) p.records in
    let ends : All (λ (r : RecordEntry). other_end a r < 16) p.records = λ k d lt. by_end (get_or p.records k d) (neighbours_are_offices p _ _ ok (ok.records_have_pairs k d lt)).first (neighbours_are_offices p _ _ ok (ok.records_have_pairs k d lt)).second in
    let few : length own ≤ 16 * 8 = length_by_key (other_end a) 16 8 own (All-filter (λ (r : RecordEntry). has_end r a) (λ (r : RecordEntry). other_end a r < 16) p.records ends) (λ b. omega (arith, count_by-filter (λ (r : RecordEntry). eqb (other_end a r) b) (λ (r : RecordEntry). has_end r a) (lies_between a b) p.records (λ r h k. ends_meet (eqb r.first a) r.first r.second a b refl h k), ok.records_fit a b)) in
    omega (arith, own_counted p a)
  where
    choose : (x : Bool) (f s : ℕ) → f < length p.offices → s < length p.offices → cond x s f < 16
    choose true f s h k = omega (arith, k, ok.offices_fit)
    choose false f s h k = omega (arith, h, ok.offices_fit)

    by_end : (r : RecordEntry) → r.first < length p.offices → r.second < length p.offices → other_end a r < 16
    by_end r h k = choose (eqb r.first a) r.first r.second h k

pub own_increase : (p : PlanValue) (a : ℕ) → AllPairs (λ r s. r < s) (records_of p a)
own_increase p a = AllPairs-filter (λ r s. r < s) (λ r. is_end p r a) (range_with_len 0 (length p.records)) (λ i j d lt in_range. let inside : j < length p.records = omega (arith, in_range, length-range_with_len 0 (length p.records)) in omega (arith, lt, get_or-range_with_len 0 (length p.records) i d (omega (arith, lt, inside)), get_or-range_with_len 0 (length p.records) j d inside))
