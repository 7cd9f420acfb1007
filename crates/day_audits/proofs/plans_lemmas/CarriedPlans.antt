-- The plan that carries values on is consistent as the plan is.
use Rattle.std.proofs.Common.{◌≡◌, ℕ, zero, suc, ◌+◌, ◌<◌, List, [], ◌∷◌, ◌++◌, length, get_or, Bool, cond, refl, sym, ap, ◌∙◌, subst, arith}
use Rattle.std.specs.Prelude.{All, IsTrue}
use Rattle.std.specs.List.{count_by}
use Rattle.std.proofs.lemmas.List.Elements.{All-nil, All-cons, All-head, All-tail}
use Rattle.std.proofs.lemmas.List.Sums.{sum_by-cons}
use Rattle.bottle_values.specs.declared.Value.{Value}
use Rattle.bottle_values.specs.Versions.{admits}
use Rattle.office_map.specs.declared.entries.RecordEntry.{RecordEntry}
use Rattle.office_map.specs.PlanValue.{PlanValue, are_neighbours, lies_between}
use Rattle.office_map.specs.Precedence.{HasOrder}
use Rattle.office_map.specs.Consistency.{IsConsistent}
use Rattle.text_lines.specs.Text.{is_name}
use Rattle.day_audits.specs.carried.Days.{with_values, carried}

pub length_with : (m : ℕ → Value) (r : ℕ) (xs : List RecordEntry) → length (with_values m r xs) ≡ length xs
length_with m r [] = refl
length_with m r (x ∷ xs) = ap suc (length_with m (suc r) xs)

-- what holds of records whatever their values are
all_with : (P : RecordEntry → Type 0) → ((x : RecordEntry) (v : Value) → P x → P (record x { value = v })) → (m : ℕ → Value) (r : ℕ) (xs : List RecordEntry) → All P xs → All P (with_values m r xs)
all_with P keeps m r [] h = All-nil P
all_with P keeps m r (x ∷ xs) h =
    All-cons P (record x { value = m r }) (with_values m (suc r) xs) (keeps x (m r) (All-head P x xs h)) (all_with P keeps m (suc r) xs (All-tail P x xs h))

name_with : (m : ℕ → Value) (r : ℕ) (xs : List RecordEntry) (k : ℕ) (d : RecordEntry) → (get_or (with_values m r xs) k d).name ≡ (get_or xs k d).name
name_with m r [] k d = refl
name_with m r (x ∷ xs) zero d = refl
name_with m r (x ∷ xs) (suc k) d = name_with m (suc r) xs k d

count_with : (a b : ℕ) (m : ℕ → Value) (r : ℕ) (xs : List RecordEntry) → count_by (lies_between a b) (with_values m r xs) ≡ count_by (lies_between a b) xs
count_with a b m r [] = refl
count_with a b m r (x ∷ xs) =
    let f : RecordEntry → ℕ = λ y. cond (lies_between a b y) 1 0 in
    sum_by-cons f (record x { value = m r }) (with_values m (suc r) xs)
    ∙ ap (λ k. f x + k) (count_with a b m (suc r) xs)
    ∙ sym (sum_by-cons f x xs)

-- values one after the other
pub with_more : (m : ℕ → Value) (r : ℕ) (xs ys : List RecordEntry) → with_values m r (xs ++ ys) ≡ with_values m r xs ++ with_values m (r + length xs) ys
with_more m r [] ys = let here : r + 0 ≡ r = omega arith in ap (λ k. with_values m k ys) (sym here)
with_more m r (x ∷ xs) ys =
    let there : suc r + length xs ≡ r + length (x ∷ xs) = omega arith in
    ap (λ l. record x { value = m r } ∷ l) (with_more m (suc r) xs ys ∙ ap (λ k. with_values m (suc r) xs ++ with_values m k ys) there)

-- what holds of all values that are carried on holds of the values of the records
pub each_with : (test : Value → Bool) (m : ℕ → Value) (from : ℕ) (xs : List RecordEntry) → ((r : ℕ) → r < length xs → IsTrue (test (m (from + r)))) → All (λ (x : RecordEntry). IsTrue (test x.value)) (with_values m from xs)
each_with test m from [] h = All-nil (λ (x : RecordEntry). IsTrue (test x.value))
each_with test m from (x ∷ xs) h =
    let P : RecordEntry → Type 0 = λ y. IsTrue (test y.value) in
    let here : from + 0 ≡ from = omega arith in
    let first : IsTrue (test (m from)) = subst (λ (k : ℕ). IsTrue (test (m k))) here (h 0 (omega arith)) in
    let rest : (r : ℕ) → r < length xs → IsTrue (test (m (suc from + r))) =
    λ r lt. let there : from + suc r ≡ suc from + r = omega arith in subst (λ (k : ℕ). IsTrue (test (m k))) there (h (suc r) (omega (arith, lt))) in
    All-cons P (record x { value = m from }) (with_values m (suc from) xs) first (each_with test m (suc from) xs rest)

pub consistent_with : (p : PlanValue) (run : ℕ) (m : ℕ → Value) → IsConsistent p → ((r : ℕ) → r < length p.records → IsTrue (admits p.version (m r))) → IsConsistent (carried p run m)
consistent_with p run m ok fit = record {
  offices_fit = ok.offices_fit;
  offices_are_named = ok.offices_are_named;
  office_names = ok.office_names;
  offices_have_addresses = ok.offices_have_addresses;
  addresses = ok.addresses;
  ends_are_offices = ok.ends_are_offices;
  ends_differ = ok.ends_differ;
  pairs_once = ok.pairs_once;
  records_are_named = all_with (λ (r : RecordEntry). IsTrue (is_name r.name)) (λ x v h. h) m 0 p.records ok.records_are_named;
  record_names = λ i j d lt short same. ok.record_names i j d lt (omega (arith, short, length_with m 0 p.records)) (sym (name_with m 0 p.records i d) ∙ same ∙ name_with m 0 p.records j d);
  records_have_pairs = all_with (λ (r : RecordEntry). IsTrue (are_neighbours p r.first r.second)) (λ x v h. h) m 0 p.records ok.records_have_pairs;
  records_fit = λ a b. omega (arith, count_with a b m 0 p.records, ok.records_fit a b);
  values_are_admitted = each_with (admits p.version) m 0 p.records (λ r lt. let on : 0 + r ≡ r = omega arith in ap (λ k. admits p.version (m k)) on ∙ fit r lt);
}

pub ordered_with : (p : PlanValue) (run : ℕ) (m : ℕ → Value) → HasOrder p → HasOrder (carried p run m)
ordered_with p run m h = record { order = h.order; is = record { once = h.is.once; earlier = h.is.earlier } }
