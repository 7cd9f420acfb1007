-- The names of a canonical text stand for what they were written for.
use Rattle.std.proofs.Common.{◌≡◌, ◌≢◌, ◌<◌, ◌≤◌, ◌+◌, ℕ, zero, suc, pos, negsuc, List, [], ◌∷◌, ◌++◌, length, take, get_or, Bool, true, false, not, ◌&&◌, nat_lt, cond, Option, Some, None, is_some, option_map, unwrap_or, if◌then◌else◌, refl, sym, ap, ◌∙◌, subst, arith}
use Rattle.std.specs.Prelude.{AllPairs}
use Rattle.std.specs.List.{list_all, position, position_or_len}
use Rattle.std.specs.Option.{option_map_or}
use Rattle.std.specs.Str.{bytes_eq}
use Rattle.std.proofs.lemmas.Bool.{and_parts, false_from_ne_true}
use Rattle.std.proofs.lemmas.Bool.Decides.{nat_tests}
use Rattle.std.proofs.lemmas.Slice.Eq.{bytes_eq-Decides}
use Rattle.std.proofs.lemmas.List.{take_more, get_or-take, length-take-le}
use Rattle.std.proofs.lemmas.List.Folds.{list_all-append}
use Rattle.std.proofs.lemmas.Option.{get_or_from_slice_get, slice_get-get_or, slice_get_within}
use Rattle.std.specs.Prelude.{slice_get}
use Rattle.office_map.specs.declared.entries.OfficeEntry.{OfficeEntry}
use Rattle.office_map.specs.declared.entries.RecordEntry.{RecordEntry}
use Rattle.office_map.specs.PlanValue.{PlanValue, office_named, record_named, record_name_of, is_end, has_end}
use Rattle.office_map.specs.Consistency.{IsConsistent}
use Rattle.text_lines.specs.Text.{is_name}
use Rattle.bottle_values.specs.declared.Value.{Value}
use Rattle.bottle_values.specs.declared.Value.TheVariants.{Number, Text}
use Rattle.bottle_values.specs.declared.version.Version.{Version}
use Rattle.session_meaning.specs.declared.node.Operator.TheVariants as op
use Rattle.session_programs.specs.declared.rank.Rank.{Rank}
use Rattle.session_programs.specs.declared.rank.Rank.TheVariants.{Factor, Product, Sum}
use Rattle.session_meaning.specs.Tree.{Term, Constant, Var, ReadOf, Neg, Bin}
use Rattle.session_language.specs.Spelling.{AVariable, ARecord, Token, Leaf, Plus, Minus, Times, Open, Close}
use Rattle.session_language.specs.Names.{Scope, variable_named, if_of_office, record_of, operand_of, placed, token_variable, token_record, knows_variables, knows_records}
use Rattle.session_programs.specs.Text.{Words, variable_name, rank_of}
use Rattle.session_programs.specs.WellFormed.{IsLiteral, IsOver}
use Rattle.session_language.specs.Reading.{with_variable, place_of}
use Rattle.session_language.proofs.canonical.Tokens.{enclose, factor_tokens, product_tokens, tokens, said, spelled}
use Rattle.session_language.proofs.session_reading.ProgramsFit.{term_within}
use Rattle.session_language.proofs.Places.{place_there, place_new}

-- the first element that passes
first_at : {X : Type 0} (p : X → Bool) (xs : List X) (k : ℕ) (x : X) → slice_get xs k ≡ Some x → p x ≡ true → ((j : ℕ) (y : X) → j < k → slice_get xs j ≡ Some y → p y ≡ false) → position_or_len p xs ≡ k
first_at p [] k x h t b = (cc)
first_at p (y ∷ xs) zero x h t b = let same : y ≡ x = (cc) in ap (λ z. cond (not z) (1 + position_or_len p xs) 0) (ap p same ∙ t)
first_at p (y ∷ xs) (suc k) x h t b =
    ap (λ z. cond (not z) (1 + position_or_len p xs) 0) (b 0 y (omega arith) refl)
    ∙ (let e = first_at p xs k x h t (λ j z lt g. b (suc j) z (omega arith) g) in omega arith)

none_at : {X : Type 0} (p : X → Bool) (xs : List X) → ((j : ℕ) (y : X) → slice_get xs j ≡ Some y → p y ≡ false) → position_or_len p xs ≡ length xs
none_at p [] b = refl
none_at p (y ∷ xs) b =
    ap (λ z. cond (not z) (1 + position_or_len p xs) 0) (b 0 y refl)
    ∙ (let e = none_at p xs (λ j z g. b (suc j) z g) in omega arith)

abbrev within : ℕ → ℕ → Option ℕ
within k n = cond (nat_lt k n) (Some k) None

same_bytes : (w : List ℕ) → bytes_eq w w ≡ true
same_bytes w = (bytes_eq-Decides w w).1 refl

other_bytes : (v w : List ℕ) → v ≢ w → bytes_eq v w ≡ false
other_bytes v w h = false_from_ne_true (bytes_eq v w) (λ e. h ((bytes_eq-Decides v w).0 e))

module _ {X : Type 0} (f : X → List ℕ) (xs : List X) (distinct : AllPairs (λ a b. f a ≢ f b) xs) where
  apart : (j k : ℕ) (y x : X) → j < k → slice_get xs j ≡ Some y → slice_get xs k ≡ Some x → f y ≢ f x
  apart j k y x lt h g =
      let d = distinct j k x lt (slice_get_within xs k x g) in
      let P : X → Type 0 = λ z. f z ≢ f (get_or xs k x) in
      let Q : X → Type 0 = λ z. f y ≢ f z in
      subst Q (get_or_from_slice_get xs k x x g) (subst P (get_or_from_slice_get xs j y x h) d)

  -- a name is found where it stands
  pub found : (k : ℕ) (x : X) → slice_get xs k ≡ Some x → position (λ y. bytes_eq (f y) (f x)) xs ≡ Some k
  found k x h =
      let at : position_or_len (λ y. bytes_eq (f y) (f x)) xs ≡ k = first_at (λ y. bytes_eq (f y) (f x)) xs k x h (same_bytes (f x)) (λ j y lt g. other_bytes (f y) (f x) (apart j k y x lt g h)) in
      let lt : nat_lt k (length xs) ≡ true = let l = slice_get_within xs k x h in grind (arith, nat_tests) in
      ap (λ i. within i (length xs)) at ∙ ap (λ b. cond b (Some k) None) lt

-- the first names of a list
abbrev is_named : List ℕ → List ℕ → Bool
is_named name v = bytes_eq v name

abbrev nth : List (List ℕ) → ℕ → List ℕ
nth vs k = get_or vs k []

module _ (vs : List (List ℕ)) (distinct : AllPairs (λ a b. a ≢ b) vs) (n : ℕ) (le : n ≤ length vs) where
  len : length (take n vs) ≡ n
  len = length-take-le n vs le

  distinct_front : AllPairs (λ a b. a ≢ b) (take n vs)
  distinct_front i j d lt short =
      let e = get_or-take n vs i d (let l = len in omega arith) in
      let f = get_or-take n vs j d (let l = len in omega arith) in
      λ same. distinct i j d lt (let l = len in omega arith) (sym e ∙ same ∙ f)

  at_place : (k : ℕ) → k < n → slice_get (take n vs) k ≡ Some (nth vs k)
  at_place k lt = slice_get-get_or (take n vs) k [] (let l = len in omega arith) ∙ ap Some (get_or-take n vs k [] lt)

  pub variable_found : (k : ℕ) → k < n → position (is_named (nth vs k)) (take n vs) ≡ Some k
  variable_found k lt = found (λ v. v) (take n vs) distinct_front k (nth vs k) (at_place k lt)

  before_next : n < length vs → (j : ℕ) (y : List ℕ) → slice_get (take n vs) j ≡ Some y → bytes_eq y (nth vs n) ≡ false
  before_next lt j y h =
      let l = slice_get_within (take n vs) j y h in
      let is : get_or vs j [] ≡ y = sym (get_or-take n vs j [] (let m = len in omega arith)) ∙ get_or_from_slice_get (take n vs) j y [] h in
      other_bytes y (nth vs n) (λ same. distinct j n [] (let m = len in omega arith) lt (is ∙ same))

  next_absent : n < length vs → position (is_named (nth vs n)) (take n vs) ≡ None
  next_absent lt =
      let at = none_at (is_named (nth vs n)) (take n vs) (before_next lt) in
      let no : nat_lt (length (take n vs)) (length (take n vs)) ≡ false = grind (arith, nat_tests) in
      ap (λ i. within i (length (take n vs))) at ∙ ap (λ b. cond b (Some (length (take n vs))) None) no

  one_longer : n < length vs → take n vs ++ nth vs n ∷ [] ≡ take (suc n) vs
  one_longer lt = let e : n + 1 ≡ suc n = omega arith in sym (take_more vs n [] lt) ∙ ap (λ k. take k vs) e

  -- a variable that is let again, and one that is let for the first time
  pub let_again : (k : ℕ) → k < n → (place_of (nth vs k) (take n vs) ≡ k) × (with_variable (nth vs k) (take n vs) ≡ take n vs)
  let_again k lt = let p = place_there (nth vs k) (take n vs) k (variable_found k lt) in (sym p.0, sym p.1)

  pub let_next : n < length vs → (place_of (nth vs n) (take (suc n) vs) ≡ n) × (with_variable (nth vs n) (take n vs) ≡ take (suc n) vs)
  let_next lt =
      let p = place_new (nth vs n) (take n vs) (next_absent lt) in
      let e = one_longer lt in (
        ap (place_of (nth vs n)) (sym e) ∙ sym p.0 ∙ len,
        sym p.1 ∙ e,
      )

-- records and offices of a plan
module _ (p : PlanValue) (ok : IsConsistent p) where
  pub record_found : (r : ℕ) (e : RecordEntry) → slice_get p.records r ≡ Some e → record_named p e.name ≡ Some r
  record_found r e h = found (λ (x : RecordEntry). x.name) p.records ok.record_names r e h

  pub office_found : (o : ℕ) (e : OfficeEntry) → slice_get p.offices o ≡ Some e → office_named p e.name ≡ Some o
  office_found o e h = found (λ (x : OfficeEntry). x.name) p.offices ok.office_names o e h

  pub record_is_named : (r : ℕ) (e : RecordEntry) → slice_get p.records r ≡ Some e → is_name e.name ≡ true
  record_is_named r e h =
      let P : RecordEntry → Type 0 = λ x. is_name x.name ≡ true in
      subst P (get_or_from_slice_get p.records r e e h) (ok.records_are_named r e (slice_get_within p.records r e h))

  pub office_is_named : (o : ℕ) (e : OfficeEntry) → slice_get p.offices o ≡ Some e → is_name e.name ≡ true
  office_is_named o e h =
      let P : OfficeEntry → Type 0 = λ x. is_name x.name ≡ true in
      subst P (get_or_from_slice_get p.offices o e e h) (ok.offices_are_named o e (slice_get_within p.offices o e h))

  abbrev record_word : ℕ → List ℕ
  record_word r = unwrap_or (record_name_of p r) []

  there : (r office : ℕ) → is_end p r office ≡ true → (e : RecordEntry) × (slice_get p.records r ≡ Some e)
  there r office h = by_entry (slice_get p.records r) refl h
    where
      by_entry : (o : Option RecordEntry) → slice_get p.records r ≡ o → option_map_or (λ e. has_end e office) o false ≡ true → (e : RecordEntry) × (slice_get p.records r ≡ Some e)
      by_entry None e k = (cc)
      by_entry (Some x) e k = (x, e)

  word_is : (r : ℕ) (e : RecordEntry) → slice_get p.records r ≡ Some e → record_word r ≡ e.name
  word_is r e h = ap (λ o. unwrap_or (option_map (λ (x : RecordEntry). x.name) o) []) h

  -- the name of a record of an office is a name, and is that record's
  pub record_word_is_name : (r office : ℕ) → is_end p r office ≡ true → is_name (record_word r) ≡ true
  record_word_is_name r office h = let t = there r office h in ap is_name (word_is r t.0 t.1) ∙ record_is_named r t.0 t.1

  pub record_word_found : (r : ℕ) (s : Scope) → s.plan ≡ p → is_end p r s.office ≡ true → record_of s (record_word r) ≡ Some r
  record_word_found r s same h =
      let t = there r s.office h in
      ap (λ q. if_of_office s (record_named q (record_word r))) same
      ∙ ap (λ w. if_of_office s (record_named p w)) (word_is r t.0 t.1)
      ∙ ap (if_of_office s) (record_found r t.0 t.1)
      ∙ ap (λ q. if is_end q r s.office then Some r else None) same
      ∙ ap (λ b. if b then Some r else None) h

-- each name of an expression is in its place again
module _ (v : Version) (s : Scope) (w : Words) (known : ℕ) (ok : ℕ → Bool) (variables : (k : ℕ) → k < known → variable_named s (variable_name w k) ≡ Some k) (records : (r : ℕ) → ok r ≡ true → record_of s (w.record_name r) ≡ Some r) where
  literal_again : (c : Value) → IsLiteral c → operand_of s (said c) ≡ Constant c
  literal_again (Number (pos n)) h = refl
  literal_again (Number (negsuc n)) h = absurd h
  literal_again (Text t) h = refl

  pub placed_again : (e : Term) → IsOver known e → term_within v ok e ≡ true → placed s (spelled w e) ≡ e
  placed_again (Constant c) h g = literal_again c h
  placed_again (Var k) h g = ap (λ o. Var (unwrap_or o 0)) (variables k h)
  placed_again (ReadOf r) h g = ap (λ o. ReadOf (unwrap_or o 0)) (records r g)
  placed_again (Neg e) h g = ap Neg (placed_again e h g)
  placed_again (Bin o a b) h g =
      let parts = and_parts (term_within v ok a) (term_within v ok b) g in
      ap (λ x. Bin o x (placed s (spelled w b))) (placed_again a h.0 parts.0) ∙ ap (Bin o a) (placed_again b h.1 parts.1)

-- what holds of the signs, and of each leaf, holds of each token
record IsOfSigns (p : Token → Bool) : Type 0 where
  at_plus : p Plus ≡ true
  at_minus : p Minus ≡ true
  at_times : p Times ≡ true
  at_open : p Open ≡ true
  at_close : p Close ≡ true

module _ (p : Token → Bool) (signs : IsOfSigns p) (v : Version) (w : Words) (known : ℕ) (ok : ℕ → Bool) (literals : (c : Value) → p (Leaf (said c)) ≡ true) (variables : (k : ℕ) → k < known → p (Leaf (AVariable (variable_name w k))) ≡ true) (records : (r : ℕ) → ok r ≡ true → p (Leaf (ARecord (w.record_name r))) ≡ true) where
  first : (t : Token) (ts : List Token) → p t ≡ true → list_all p ts ≡ true → list_all p (t ∷ ts) ≡ true
  first t ts h g = ap (λ b. b && list_all p ts) h ∙ g

  both : (ts us : List Token) → list_all p ts ≡ true → list_all p us ≡ true → list_all p (ts ++ us) ≡ true
  both ts us h g = list_all-append p ts us ∙ ap (λ b. b && list_all p us) h ∙ g

  enclosed : (ts : List Token) → list_all p ts ≡ true → list_all p (enclose ts) ≡ true
  enclosed ts h = first Open (ts ++ Close ∷ []) signs.at_open (both ts (Close ∷ []) h (first Close [] signs.at_close refl))

  factor : (r : Rank) (ts : List Token) → list_all p ts ≡ true → list_all p (factor_tokens r ts) ≡ true
  factor Factor ts h = h
  factor Product ts h = enclosed ts h
  factor Sum ts h = enclosed ts h

  product : (r : Rank) (ts : List Token) → list_all p ts ≡ true → list_all p (product_tokens r ts) ≡ true
  product Factor ts h = h
  product Product ts h = h
  product Sum ts h = enclosed ts h

  all_tokens : (e : Term) → IsOver known e → term_within v ok e ≡ true → list_all p (tokens w e) ≡ true
  all_tokens (Constant c) h g = first _ [] (literals c) refl
  all_tokens (Var k) h g = first _ [] (variables k h) refl
  all_tokens (ReadOf r) h g = first _ [] (records r g) refl
  all_tokens (Neg e) h g = first Minus _ signs.at_minus (factor (rank_of e) _ (all_tokens e h g))
  all_tokens (Bin op.Times a b) h g =
      let parts = and_parts (term_within v ok a) (term_within v ok b) g in
      both _ _ (product (rank_of a) _ (all_tokens a h.0 parts.0)) (first Times _ signs.at_times (factor (rank_of b) _ (all_tokens b h.1 parts.1)))
  all_tokens (Bin op.Plus a b) h g =
      let parts = and_parts (term_within v ok a) (term_within v ok b) g in
      both _ _ (all_tokens a h.0 parts.0) (first Plus _ signs.at_plus (product (rank_of b) _ (all_tokens b h.1 parts.1)))
  all_tokens (Bin op.Minus a b) h g =
      let parts = and_parts (term_within v ok a) (term_within v ok b) g in
      both _ _ (all_tokens a h.0 parts.0) (first Minus _ signs.at_minus (product (rank_of b) _ (all_tokens b h.1 parts.1)))

module _ (v : Version) (s : Scope) (w : Words) (known : ℕ) (ok : ℕ → Bool) (variables : (k : ℕ) → k < known → variable_named s (variable_name w k) ≡ Some k) (records : (r : ℕ) → ok r ≡ true → record_of s (w.record_name r) ≡ Some r) where
  literal_knows_variable : (c : Value) → token_variable s (Leaf (said c)) ≡ true
  literal_knows_variable (Number z) = refl
  literal_knows_variable (Text t) = refl

  literal_knows_record : (c : Value) → token_record s (Leaf (said c)) ≡ true
  literal_knows_record (Number z) = refl
  literal_knows_record (Text t) = refl

  pub variables_known : (e : Term) → IsOver known e → term_within v ok e ≡ true → knows_variables s (tokens w e) ≡ true
  variables_known = all_tokens (token_variable s) (record { at_plus = refl; at_minus = refl; at_times = refl; at_open = refl; at_close = refl }) v w known ok literal_knows_variable (λ k lt. ap is_some (variables k lt)) (λ r h. refl)

  pub records_known : (e : Term) → IsOver known e → term_within v ok e ≡ true → knows_records s (tokens w e) ≡ true
  records_known = all_tokens (token_record s) (record { at_plus = refl; at_minus = refl; at_times = refl; at_open = refl; at_close = refl }) v w known ok literal_knows_record (λ k lt. refl) (λ r h. ap is_some (records r h))
