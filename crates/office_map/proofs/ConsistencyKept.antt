-- A declaration that is accepted keeps the tables consistent.
use Rattle.std.proofs.Common.{◌≡◌, ◌≢◌, ℕ, ◌+◌, ◌*◌, ◌<◌, ◌≤◌, List, [], ◌∷◌, ◌++◌, length, get_or, Bool, true, false, IsTrue, ◌&&◌, ◌||◌, cond, eqb, ◌⊎◌, inl, inr, Option, Some, None, is_some, refl, sym, subst, ◌∙◌, arith, length-append, nat_lt}
use Rattle.std.specs.List.{All, Any, filter, count_by, list_any, position}
use Rattle.std.specs.Str.{bytes_eq}
use Rattle.std.proofs.lemmas.Bool.{and_parts, or_cases, or_left, eqb-true, both_ways, false_from_ne_true}
use Rattle.std.proofs.lemmas.Bool.Decides.{nat_tests}
use Rattle.std.proofs.lemmas.List.Elements.{All-push, All-weaker, All-filter}
use Rattle.std.proofs.lemmas.List.Folds.{Any-from_list_any, list_any_at, list_any-append}
use Rattle.std.proofs.lemmas.List.Quantifiers.{all_pairs_push}
use Rattle.std.proofs.lemmas.List.Sums.{sum_by_push, sum_by-cons, fails_before_first, length-filter}
use Rattle.std.proofs.lemmas.Slice.Eq.{bytes_eq-Decides}
use Rattle.bottle_values.specs.declared.Value.{Value}
use Rattle.bottle_values.specs.Versions.{admits}
use Rattle.office_map.specs.declared.entries.OfficeEntry.{OfficeEntry}
use Rattle.office_map.specs.declared.entries.PairEntry.{PairEntry}
use Rattle.office_map.specs.declared.entries.RecordEntry.{RecordEntry}
use Rattle.office_map.specs.PlanValue.{PlanValue, office_named, record_named, joins, are_neighbours, lies_between, records_between, with_office, with_pair, with_record, no_address, fork_end}
use Rattle.office_map.specs.Address.{is_address}
use Rattle.office_map.specs.PlanText.{is_address_taken}
use Rattle.text_lines.specs.Text.{is_name}
use Rattle.office_map.specs.Consistency.{IsConsistent}
use Rattle.office_map.proofs.ListBounds.{count_by-filter, length_by_key}
use Rattle.office_map.specs.refinement.PlanReader.{HasEnds}

-- where no element passes
past_the_end : (i n : ℕ) → cond (nat_lt i n) (Some i) None ≡ None → n ≤ i
past_the_end i n h = grind (arith, nat_tests)

pub none_passes : {X : Type 0} (p : X → Bool) (xs : List X) → position p xs ≡ None → (k : ℕ) (d : X) → k < length xs → p (get_or xs k d) ≡ false
none_passes p xs h k d lt =
    fails_before_first p xs k d (omega (arith, past_the_end _ (length xs) h))

no_element_passes : {X : Type 0} (p : X → Bool) (xs : List X) → list_any p xs ≡ false → (k : ℕ) (d : X) → k < length xs → p (get_or xs k d) ≡ false
no_element_passes p xs h k d lt = false_from_ne_true (p (get_or xs k d)) (λ e. both_ways (list_any p xs) h (list_any_at p xs k d lt e))

-- words that are not equal byte by byte
differ : (a b : List ℕ) → bytes_eq a b ≡ false → a ≢ b
differ a b h e = both_ways (bytes_eq a b) h ((bytes_eq-Decides a b).1 e)

free_address : (p : PlanValue) (address : List ℕ) → is_address_taken p address ≡ false → (k : ℕ) (d : OfficeEntry) → k < length p.offices → (get_or p.offices k d).address ≡ address → (get_or p.offices k d).address ≡ no_address
free_address p address free k d lt e =
    by_kind (bytes_eq address no_address) refl
  where
    by_kind : (b : Bool) → bytes_eq address no_address ≡ b → (get_or p.offices k d).address ≡ no_address
    by_kind true h = e ∙ (bytes_eq-Decides address no_address).0 h
    by_kind false h =
        let others : list_any (λ (o : OfficeEntry). bytes_eq o.address address) p.offices ≡ false = rw h at free in
        absurd (differ _ _ (no_element_passes (λ (o : OfficeEntry). bytes_eq o.address address) p.offices others k d lt) e)

pub office_consistent : (p : PlanValue) (o : OfficeEntry) → IsConsistent p → is_name o.name ≡ true → is_address o.address ≡ true → office_named p o.name ≡ None → is_address_taken p o.address ≡ false → length p.offices < 16 → IsConsistent (with_office p o)
office_consistent p o ok named addressed fresh free room =
    let longer : length (p.offices ++ o ∷ []) ≡ length p.offices + 1 = length-append p.offices (o ∷ []) in
    record {
      offices_fit = omega arith;
      offices_are_named = All-push (λ (e : OfficeEntry). IsTrue (is_name e.name)) p.offices o ok.offices_are_named named;
      office_names = all_pairs_push (λ (a b : OfficeEntry). a.name ≢ b.name) p.offices o ok.office_names (λ k d lt. differ _ _ (none_passes (λ (e : OfficeEntry). bytes_eq e.name o.name) p.offices fresh k d lt));
      offices_have_addresses = All-push (λ (e : OfficeEntry). IsTrue (is_address e.address)) p.offices o ok.offices_have_addresses addressed;
      addresses = all_pairs_push (λ (a b : OfficeEntry). a.address ≡ b.address → a.address ≡ no_address) p.offices o ok.addresses (free_address p o.address free);
      ends_are_offices = All-weaker (λ (pair : PairEntry). (pair.first < length p.offices) × (pair.second < length p.offices)) (λ (pair : PairEntry). (pair.first < length (p.offices ++ o ∷ [])) × (pair.second < length (p.offices ++ o ∷ []))) (λ pair h. (omega (arith, h), omega (arith, h))) p.pairs ok.ends_are_offices;
      ends_differ = ok.ends_differ;
      pairs_once = ok.pairs_once;
      records_are_named = ok.records_are_named;
      record_names = ok.record_names;
      records_have_pairs = ok.records_have_pairs;
      records_fit = ok.records_fit;
      values_are_admitted = ok.values_are_admitted;
    }

still_neighbours : (p : PlanValue) (pair : PairEntry) (a b : ℕ) → are_neighbours p a b ≡ true → are_neighbours (with_pair p pair) a b ≡ true
still_neighbours p pair a b h = list_any-append (joins a b) p.pairs (pair ∷ []) ∙ or_left (list_any (joins a b) p.pairs) _ h

pub pair_consistent : (p : PlanValue) (pair : PairEntry) → IsConsistent p → pair.first < length p.offices → pair.second < length p.offices → pair.first ≢ pair.second → are_neighbours p pair.first pair.second ≡ false → IsConsistent (with_pair p pair)
pair_consistent p pair ok first second apart fresh =
    record {
      offices_fit = ok.offices_fit;
      offices_are_named = ok.offices_are_named;
      office_names = ok.office_names;
      offices_have_addresses = ok.offices_have_addresses;
      addresses = ok.addresses;
      ends_are_offices = All-push (λ (e : PairEntry). (e.first < length p.offices) × (e.second < length p.offices)) p.pairs pair ok.ends_are_offices (first, second);
      ends_differ = All-push (λ (e : PairEntry). e.first ≢ e.second) p.pairs pair ok.ends_differ apart;
      pairs_once = all_pairs_push (λ (a b : PairEntry). joins b.first b.second a ≡ false) p.pairs pair ok.pairs_once (no_element_passes (joins pair.first pair.second) p.pairs fresh);
      records_are_named = ok.records_are_named;
      record_names = ok.record_names;
      records_have_pairs = All-weaker (λ (r : RecordEntry). are_neighbours p r.first r.second ≡ true) (λ (r : RecordEntry). are_neighbours (with_pair p pair) r.first r.second ≡ true) (λ r h. still_neighbours p pair r.first r.second h) p.records ok.records_have_pairs;
      records_fit = ok.records_fit;
      values_are_admitted = ok.values_are_admitted;
    }

-- the ends, in one order or the other
both_equal : (a b x y : ℕ) → (eqb x a && eqb y b) ≡ true → (x ≡ a) × (y ≡ b)
both_equal a b x y h = let e = and_parts (eqb x a) (eqb y b) h in (eqb-true x a e.0, eqb-true y b e.1)

pub in_either_order : (a b x y : ℕ) → ((eqb x a && eqb y b) || (eqb x b && eqb y a)) ≡ true → ((x ≡ a) × (y ≡ b)) ⊎ ((x ≡ b) × (y ≡ a))
in_either_order a b x y h = by_order (or_cases (eqb x a && eqb y b) (eqb x b && eqb y a) h)
  where
    by_order : ((eqb x a && eqb y b) ≡ true) ⊎ ((eqb x b && eqb y a) ≡ true) → ((x ≡ a) × (y ≡ b)) ⊎ ((x ≡ b) × (y ≡ a))
    by_order (inl e) = inl (both_equal a b x y e)
    by_order (inr e) = inr (both_equal b a x y e)

or_comm : (a b : Bool) → (a || b) ≡ (b || a)
or_comm true true = refl
or_comm true false = refl
or_comm false true = refl
or_comm false false = refl

count_by_same : {X : Type 0} (p q : X → Bool) → ((x : X) → p x ≡ q x) → (xs : List X) → count_by p xs ≡ count_by q xs
count_by_same p q h [] = refl
count_by_same p q h (x ∷ xs) =
    rw (sum_by-cons (λ y. cond (p y) 1 0) x xs, sum_by-cons (λ y. cond (q y) 1 0) x xs, h x, count_by_same p q h xs) refl

records_turned : (p : PlanValue) (a b : ℕ) → records_between p a b ≡ records_between p b a
records_turned p a b = count_by_same (lies_between a b) (lies_between b a) (λ r. or_comm (eqb r.first a && eqb r.second b) (eqb r.first b && eqb r.second a)) p.records

-- a record that lies between a and b is counted with those of its own ends
records_same : (p : PlanValue) (r : RecordEntry) (a b : ℕ) → ((r.first ≡ a) × (r.second ≡ b)) ⊎ ((r.first ≡ b) × (r.second ≡ a)) → records_between p a b ≡ records_between p r.first r.second
records_same p r a b (inl e) = rw (e.0, e.1) refl
records_same p r a b (inr e) = rw (e.0, e.1) (records_turned p a b)

one_record_more : (p : PlanValue) (r : RecordEntry) (a b : ℕ) → records_between p a b ≤ 8 → records_between p r.first r.second < 8 → (t : Bool) → lies_between a b r ≡ t → records_between p a b + cond t 1 0 ≤ 8
one_record_more p r a b fit room false h = omega arith
one_record_more p r a b fit room true h = let same = records_same p r a b (in_either_order a b r.first r.second h) in omega (arith, same)

pub record_consistent : (p : PlanValue) (r : RecordEntry) → IsConsistent p → is_name r.name ≡ true → admits p.version r.value ≡ true → are_neighbours p r.first r.second ≡ true → record_named p r.name ≡ None → records_between p r.first r.second < 8 → IsConsistent (with_record p r)
record_consistent p r ok named admitted pair fresh room =
    record {
      offices_fit = ok.offices_fit;
      offices_are_named = ok.offices_are_named;
      office_names = ok.office_names;
      offices_have_addresses = ok.offices_have_addresses;
      addresses = ok.addresses;
      ends_are_offices = ok.ends_are_offices;
      ends_differ = ok.ends_differ;
      pairs_once = ok.pairs_once;
      records_are_named = All-push (λ (e : RecordEntry). IsTrue (is_name e.name)) p.records r ok.records_are_named named;
      record_names = all_pairs_push (λ (a b : RecordEntry). a.name ≢ b.name) p.records r ok.record_names (λ k d lt. differ _ _ (none_passes (λ (e : RecordEntry). bytes_eq e.name r.name) p.records fresh k d lt));
      records_have_pairs = All-push (λ (e : RecordEntry). are_neighbours p e.first e.second ≡ true) p.records r ok.records_have_pairs pair;
      records_fit = λ a b. rw (sum_by_push (λ e. cond (lies_between a b e) 1 0) p.records r) (one_record_more p r a b (ok.records_fit a b) room (lies_between a b r) refl);
      values_are_admitted = All-push (λ (e : RecordEntry). IsTrue (admits p.version e.value)) p.records r ok.values_are_admitted admitted;
    }

-- neighbours are two different offices
neighbours_at : (p : PlanValue) (a b : ℕ) → are_neighbours p a b ≡ true → (pair : PairEntry) → (pair.first < length p.offices) × (pair.second < length p.offices) → pair.first ≢ pair.second → ((pair.first ≡ a) × (pair.second ≡ b)) ⊎ ((pair.first ≡ b) × (pair.second ≡ a)) → HasEnds p a b
neighbours_at p a b h pair lt apart (inl e) = record { joined = h; first = omega (arith, lt, e); second = omega (arith, lt, e); different = λ same. apart (e.0 ∙ same ∙ sym e.1) }
neighbours_at p a b h pair lt apart (inr e) = record { joined = h; first = omega (arith, lt, e); second = omega (arith, lt, e); different = λ same. apart (e.0 ∙ sym same ∙ sym e.1) }

pub neighbours_are_offices : (p : PlanValue) (a b : ℕ) → IsConsistent p → are_neighbours p a b ≡ true → HasEnds p a b
neighbours_are_offices p a b ok h =
    let any : Any (λ (pair : PairEntry). joins a b pair ≡ true) p.pairs = Any-from_list_any (joins a b) p.pairs h in
    neighbours_at p a b h (get_or p.pairs any.0 any.1) (ok.ends_are_offices any.0 any.1 any.2) (ok.ends_differ any.0 any.1 any.2) (in_either_order a b _ _ (rw any.3 any.4))

-- the ends of a record
pub record_ends : (p : PlanValue) (k : ℕ) (e : RecordEntry) → IsConsistent p → k < length p.records → e ≡ get_or p.records k e → HasEnds p e.first e.second
record_ends p k e ok lt read =
    let P : RecordEntry → Type 0 = λ x. are_neighbours p x.first x.second ≡ true in
    neighbours_are_offices p e.first e.second ok (subst P (sym read) (ok.records_have_pairs k e lt))

-- where a fork starts
fork_at : (a b : ℕ) (pair : PairEntry) → ((pair.first ≡ a) × (pair.second ≡ b)) ⊎ ((pair.first ≡ b) × (pair.second ≡ a)) → (t : Bool) → (cond t pair.first pair.second ≡ a) ⊎ (cond t pair.first pair.second ≡ b)
fork_at a b pair (inl e) true = inl e.0
fork_at a b pair (inl e) false = inr e.1
fork_at a b pair (inr e) true = inr e.0
fork_at a b pair (inr e) false = inl e.1

pub fork_is_end : (a b : ℕ) (pair : PairEntry) → joins a b pair ≡ true → (fork_end pair ≡ a) ⊎ (fork_end pair ≡ b)
fork_is_end a b pair h = fork_at a b pair (in_either_order a b pair.first pair.second h) pair.fork_at_first

between : (a b : ℕ) (r : RecordEntry) → eqb r.first a ≡ true → eqb r.second b ≡ true → lies_between a b r ≡ true
between a b r h k = rw (h, k) refl

-- the records of one office as their first end
first_few : (p : PlanValue) → IsConsistent p → (a : ℕ) → count_by (λ (r : RecordEntry). eqb r.first a) p.records ≤ 16 * 8
first_few p ok a =
    let own : List RecordEntry = filter (λ (r : RecordEntry). eqb r.first a) p.records in
    let ends : All (λ (r : RecordEntry). r.second < 16) p.records = λ k d lt. omega (arith, (neighbours_are_offices p _ _ ok (ok.records_have_pairs k d lt)).second, ok.offices_fit) in
    let few : length own ≤ 16 * 8 = length_by_key (λ (r : RecordEntry). r.second) 16 8 own (All-filter (λ (r : RecordEntry). eqb r.first a) (λ (r : RecordEntry). r.second < 16) p.records ends) (λ b. omega (arith, count_by-filter (λ (r : RecordEntry). eqb r.second b) (λ (r : RecordEntry). eqb r.first a) (lies_between a b) p.records (between a b), ok.records_fit a b)) in
    omega (arith, length-filter (λ (r : RecordEntry). eqb r.first a) p.records)

pub few_records : (p : PlanValue) → IsConsistent p → length p.records ≤ 2048
few_records p ok =
    let ends : All (λ (r : RecordEntry). r.first < 16) p.records = λ k d lt. omega (arith, (neighbours_are_offices p _ _ ok (ok.records_have_pairs k d lt)).first, ok.offices_fit) in
    let few : length p.records ≤ 16 * (16 * 8) = length_by_key (λ (r : RecordEntry). r.first) 16 (16 * 8) p.records ends (first_few p ok) in
    omega arith

-- what the code tested says the same
pub none_found : {A : Type 0} (o : Option A) → is_some o ≡ false → o ≡ None
none_found None h = refl
none_found (Some x) h = (cc)

pub office_added : (p now : PlanValue) (o : OfficeEntry) (found : Option ℕ) (taken : Bool) (name address : List ℕ) → IsConsistent p → is_name name ≡ true → is_address address ≡ true → p ≡ now → found ≡ office_named now name → is_some found ≡ false → taken ≡ is_address_taken now address → taken ≡ false → length p.offices < 16 → o.name ≡ name → o.address ≡ address → IsConsistent (with_office p o)
office_added p now o found taken name address ok is has same named fresh looked free room n a =
    let unnamed : office_named p o.name ≡ None = rw (n, same) (sym named ∙ none_found found fresh) in
    let unused : is_address_taken p o.address ≡ false = rw (a, same) (sym looked ∙ free) in
    let good : is_name o.name ≡ true = rw n is in
    let addressed : is_address o.address ≡ true = rw a has in
    office_consistent p o ok good addressed unnamed unused room

pub record_added : (p now : PlanValue) (r : RecordEntry) (found : Option ℕ) (pair : Bool) (count : ℕ) (name : List ℕ) (value : Value) → IsConsistent p → is_name name ≡ true → admits now.version value ≡ true → p ≡ now → pair ≡ are_neighbours now r.first r.second → pair ≡ true → found ≡ record_named now name → is_some found ≡ false → count ≡ records_between now r.first r.second → count < 8 → r.name ≡ name → r.value ≡ value → IsConsistent (with_record p r)
record_added p now r found pair count name value ok is fits same looked joined named fresh counted few n v =
    let neighbours : are_neighbours p r.first r.second ≡ true = rw same (sym looked ∙ joined) in
    let unnamed : record_named p r.name ≡ None = rw (n, same) (sym named ∙ none_found found fresh) in
    let room : records_between p r.first r.second < 8 = rw (same, ← counted) few in
    let good : is_name r.name ≡ true = rw n is in
    let admitted : admits p.version r.value ≡ true = rw (v, same) fits in
    record_consistent p r ok good admitted neighbours unnamed room

within : (i n x : ℕ) → cond (nat_lt i n) (Some i) None ≡ Some x → x < n
within i n x h = grind (arith, nat_tests)

pub is_office : (p : PlanValue) (name : List ℕ) (x : ℕ) → office_named p name ≡ Some x → x < length p.offices
is_office p name x h = within _ (length p.offices) x h

pub pair_added : (p now : PlanValue) (pair : PairEntry) (joined : Bool) (a b : List ℕ) → IsConsistent p → p ≡ now → office_named now a ≡ Some pair.first → office_named now b ≡ Some pair.second → pair.first ≢ pair.second → joined ≡ are_neighbours now pair.first pair.second → joined ≡ false → IsConsistent (with_pair p pair) × (pair.first < 16) × (pair.second < 16)
pair_added p now pair joined a b ok same one other apart looked free =
    let first : pair.first < length p.offices = rw same (is_office now a pair.first one) in
    let second : pair.second < length p.offices = rw same (is_office now b pair.second other) in
    let fresh : are_neighbours p pair.first pair.second ≡ false = rw same (sym looked ∙ free) in
    (pair_consistent p pair ok first second apart fresh, omega (arith, first, ok.offices_fit), omega (arith, second, ok.offices_fit))
