-- A plan's names, and which number has one.
use Rattle.std.proofs.Common.{◌≡◌, ◌≢◌, ◌<◌, ◌≤◌, ◌⊎◌, inl, inr, ℕ, List, [], ◌∷◌, length, true, ◌&&◌, not, nat_le, All, AllPairs, IsTrue, option_map, unwrap_or, slice_get, refl, sym, ap, ◌∙◌, arith}
use Rattle.std.specs.List.{list_all, slice_index_or}
use Rattle.std.specs.Char.{is_ascii_alphabetic}
use Rattle.std.proofs.lemmas.Bool.{and_parts, cases_lt}
use Rattle.std.proofs.lemmas.Option.{slice_get-get_or}
use Rattle.text_lines.specs.Text.{is_name, is_name_byte, is_keyword, most_letters}
use Rattle.office_map.specs.PlanValue.{PlanValue}
use Rattle.office_map.specs.Consistency.{IsConsistent}
use Rattle.office_map.specs.declared.entries.OfficeEntry.{OfficeEntry}
use Rattle.office_map.specs.declared.entries.RecordEntry.{RecordEntry}
use Rattle.session_reports.specs.Names.{office_name, record_name}

abbrev name_at : {X : Type 0} → (X → List ℕ) → List X → ℕ → List ℕ
name_at f xs i = unwrap_or (option_map f (slice_get xs i)) []

name_is : {X : Type 0} (f : X → List ℕ) (xs : List X) (i : ℕ) (d : X) → i < length xs → name_at f xs i ≡ f (slice_index_or xs i d)
name_is f xs i d within = ap (λ o. unwrap_or (option_map f o) []) (slice_get-get_or xs i d within)

-- with names of their own two numbers of one name are one
own_name : {X : Type 0} (f : X → List ℕ) (x : X) (xs : List X) (i j : ℕ) → AllPairs (λ a b. f a ≢ f b) (x ∷ xs) → i < length (x ∷ xs) → j < length (x ∷ xs) → name_at f (x ∷ xs) i ≡ name_at f (x ∷ xs) j → i ≡ j
own_name f x xs i j own a b e = by_order (cases_lt i j) (cases_lt j i)
  where
    same : f (slice_index_or (x ∷ xs) i x) ≡ f (slice_index_or (x ∷ xs) j x)
    same = sym (name_is f (x ∷ xs) i x a) ∙ e ∙ name_is f (x ∷ xs) j x b

    by_order : (i < j) ⊎ (j ≤ i) → (j < i) ⊎ (i ≤ j) → i ≡ j
    by_order (inl lt) other = absurd (own i j x lt b same)
    by_order (inr ge) (inl lt) = absurd (own j i x lt a (sym same))
    by_order (inr ge) (inr le) = omega (arith, ge, le)

own_names : {X : Type 0} (f : X → List ℕ) (xs : List X) (i j : ℕ) → AllPairs (λ a b. f a ≢ f b) xs → i < length xs → j < length xs → name_at f xs i ≡ name_at f xs j → i ≡ j
own_names f [] i j own a b e = absurd (omega (arith, a))
own_names f (x ∷ xs) i j own a b e = own_name f x xs i j own a b e

name_bytes : (w : List ℕ) → is_name w ≡ true → list_all is_name_byte w ≡ true
name_bytes [] h = refl
name_bytes (b ∷ bs) h =
    (and_parts (list_all is_name_byte (b ∷ bs)) (not (is_keyword (b ∷ bs))) (and_parts (is_ascii_alphabetic b && nat_le (length (b ∷ bs)) most_letters) (list_all is_name_byte (b ∷ bs) && not (is_keyword (b ∷ bs))) h).1).0

all_named : {X : Type 0} (f : X → List ℕ) (xs : List X) (i : ℕ) → All (λ x. IsTrue (is_name (f x))) xs → i < length xs → list_all is_name_byte (name_at f xs i) ≡ true
all_named f [] i named a = absurd (omega (arith, a))
all_named f (x ∷ xs) i named a = ap (list_all is_name_byte) (name_is f (x ∷ xs) i x a) ∙ name_bytes (f (slice_index_or (x ∷ xs) i x)) (named i x a)

-- ---- offices and records

pub office_bytes : (p : PlanValue) (a : ℕ) → IsConsistent p → a < length p.offices → list_all is_name_byte (office_name p a) ≡ true
office_bytes p a c within = all_named (λ (o : OfficeEntry). o.name) p.offices a c.offices_are_named within

pub record_bytes : (p : PlanValue) (r : ℕ) → IsConsistent p → r < length p.records → list_all is_name_byte (record_name p r) ≡ true
record_bytes p r c within = all_named (λ (e : RecordEntry). e.name) p.records r c.records_are_named within

pub one_office : (p : PlanValue) (a b : ℕ) → IsConsistent p → a < length p.offices → b < length p.offices → office_name p a ≡ office_name p b → a ≡ b
one_office p a b c within also e = own_names (λ (o : OfficeEntry). o.name) p.offices a b c.office_names within also e

pub one_record : (p : PlanValue) (r s : ℕ) → IsConsistent p → r < length p.records → s < length p.records → record_name p r ≡ record_name p s → r ≡ s
one_record p r s c within also e = own_names (λ (x : RecordEntry). x.name) p.records r s c.record_names within also e
