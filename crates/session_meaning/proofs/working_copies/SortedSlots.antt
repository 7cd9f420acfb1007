-- Slots in order of record: where a record's slot is, and that setting one keeps them in order.
use Rattle.std.proofs.Common.{◌≡◌, ℕ, zero, suc, ◌<◌, ◌≤◌, ◌+◌, ◌-◌, List, [], ◌∷◌, length, map, get_or, Bool, true, false, not, cond, ◌==◌, ◌⊎◌, inl, inr, Some, None, if◌then◌else◌, refl, sym, ap, ◌∙◌, subst, arith}
use Rattle.std.proofs.lemmas.Bool.{cases_lt}
use Rattle.std.proofs.lemmas.Bool.Decides.{nat_tests}
use Rattle.std.proofs.lemmas.List.{get_or-map, length-map}
use Rattle.std.specs.List.{slice_index, position, position_or_len}
use Rattle.std.specs.List.Sorted.{IsStrictlyIncreasing}
use Rattle.std.proofs.lemmas.List.Kept.{AllPairs-from_increasing}
use Rattle.bottle_values.specs.declared.Value.{Value}
use Rattle.session_meaning.specs.Meaning as meaning
use Rattle.session_meaning.specs.Meaning.{set_in}
use Rattle.session_meaning.specs.declared.slots.Slot.{Slot}
use Rattle.session_meaning.specs.refinement.CopiedSlots.{slot_of}
use Rattle.session_meaning.proofs.working_copies.RecordLookup.{is_of, within, is_within, not_within}

-- slots in order of record
abbrev pub ids : List Slot → List ℕ
ids = map (λ s. s.id)

abbrev records : List meaning.Slot → List ℕ
records = map (λ s. s.r)

ids_are : (slots : List Slot) → records (map slot_of slots) ≡ ids slots
ids_are [] = refl
ids_are (s ∷ rest) = ap (λ ks. s.id ∷ ks) (ids_are rest)

set_keeps : (r : ℕ) (v : Value) (slots : List meaning.Slot) → records (set_in r v slots) ≡ records slots
set_keeps r v [] = refl
set_keeps r v (s ∷ rest) = by_test (s.r == r) refl (set_keeps r v rest)
  where
    by_test : (b : Bool) → (s.r == r) ≡ b → records (set_in r v rest) ≡ records rest
        → records (if b then record { r = r; value = v; is_set = true } ∷ rest else s ∷ set_in r v rest) ≡ s.r ∷ records rest
    by_test true e more = ap (λ k. k ∷ records rest) (grind (e, arith, nat_tests))
    by_test false e more = ap (λ ks. s.r ∷ ks) more

-- setting one keeps them in order
pub order_kept : (old new : List Slot) (id : ℕ) (v : Value) → map slot_of new ≡ set_in id v (map slot_of old) → IsStrictlyIncreasing (ids old) → IsStrictlyIncreasing (ids new)
order_kept old new id v is h = subst IsStrictlyIncreasing (sym (sym (ids_are new) ∙ ap records is ∙ set_keeps id v (map slot_of old) ∙ ids_are old)) h

-- one more that is after the one before it
pub sorted_more : (slots : List Slot) (i : ℕ) (a b : Slot) → ((k : ℕ) → k + 1 < i → slice_index (ids slots) k < slice_index (ids slots) (k + 1)) → i < length slots → (get_or slots (i - 1) a).id < (get_or slots i b).id
    → (k : ℕ) → k + 1 < i + 1 → slice_index (ids slots) k < slice_index (ids slots) (k + 1)
sorted_more slots i a b before lt up k below = by_order (cases_lt (k + 1) i)
  where
    by_order : (k + 1 < i) ⊎ (i ≤ k + 1) → slice_index (ids slots) k < slice_index (ids slots) (k + 1)
    by_order (inl h) = before k h
    by_order (inr h) =
        let e : k + 1 ≡ i = omega arith in
        let f : k ≡ i - 1 = omega arith in
        let x : slice_index (ids slots) k ≡ (get_or slots k a).id = get_or-map (λ (s : Slot). s.id) slots k a 0 (omega arith) in
        let y : slice_index (ids slots) (k + 1) ≡ (get_or slots (k + 1) b).id = get_or-map (λ (s : Slot). s.id) slots (k + 1) b 0 (omega arith) in
        let u : (get_or slots k a).id ≡ (get_or slots (i - 1) a).id = ap (λ j. (get_or slots j a).id) f in
        let v : (get_or slots (k + 1) b).id ≡ (get_or slots i b).id = ap (λ j. (get_or slots j b).id) e in omega arith

-- the place before which all are of earlier records is the first of this one
place_first : (slots : List Slot) (id k : ℕ) (d : Slot) → ((i : ℕ) (e : Slot) → i < k → (get_or slots i e).id < id) → k < length slots → (get_or slots k d).id ≡ id → position_or_len (is_of id) slots ≡ k
place_first [] id k d before lt is = absurd (omega arith)
place_first (s ∷ rest) id zero d before lt is = let yes : (s.id == id) ≡ true = grind (is, arith, nat_tests) in ap (λ b. cond (not b) (1 + position_or_len (is_of id) rest) 0) yes
place_first (s ∷ rest) id (suc k) d before lt is =
    let low : s.id < id = before 0 d (omega arith) in
    let no : (s.id == id) ≡ false = grind (low, arith, nat_tests) in
    let more : position_or_len (is_of id) rest ≡ k = place_first rest id k d (λ i e h. before (suc i) e (omega arith)) (omega arith) is in
    ap (λ b. cond (not b) (1 + position_or_len (is_of id) rest) 0) no ∙ omega (arith, more)

pub placed : (slots : List Slot) (id k : ℕ) (d : Slot) → ((i : ℕ) (e : Slot) → i < k → (get_or slots i e).id < id) → k < length slots → (get_or slots k d).id ≡ id → position (is_of id) slots ≡ Some k
placed slots id k d before lt is = ap (λ n. within n (length slots)) (place_first slots id k d before lt is) ∙ is_within k (length slots) lt

none_of : (slots : List Slot) (id : ℕ) → ((i : ℕ) (e : Slot) → i < length slots → ((get_or slots i e).id == id) ≡ false) → length slots ≤ position_or_len (is_of id) slots
none_of [] id h = omega arith
none_of (s ∷ rest) id h =
    let more : length rest ≤ position_or_len (is_of id) rest = none_of rest id (λ i e lt. h (suc i) e (omega arith)) in
    let here : position_or_len (is_of id) (s ∷ rest) ≡ 1 + position_or_len (is_of id) rest = ap (λ b. cond (not b) (1 + position_or_len (is_of id) rest) 0) (h 0 s (omega arith)) in
    omega (arith, more, here)

nowhere : (slots : List Slot) (id : ℕ) → ((i : ℕ) (e : Slot) → i < length slots → ((get_or slots i e).id == id) ≡ false) → position (is_of id) slots ≡ None
nowhere slots id h = not_within (position_or_len (is_of id) slots) (length slots) (none_of slots id h)

module _ (slots : List Slot) (order : IsStrictlyIncreasing (ids slots)) where
  id_at : (i : ℕ) (e : Slot) → i < length slots → get_or (ids slots) i 0 ≡ (get_or slots i e).id
  id_at i e lt = get_or-map (λ (s : Slot). s.id) slots i e 0 lt

  rises : (i j : ℕ) (d e : Slot) → i < j → j < length slots → (get_or slots i d).id < (get_or slots j e).id
  rises i j d e after lt =
      let up : get_or (ids slots) i 0 < get_or (ids slots) j 0 = AllPairs-from_increasing (ids slots) order i j 0 after (omega (arith, length-map slots (λ (s : Slot). s.id))) in
      let a = id_at i d (omega arith) in
      let b = id_at j e lt in omega arith

  pub alike : (i j : ℕ) (d e : Slot) → i ≡ j → j < length slots → (get_or slots i d).id ≡ (get_or slots j e).id
  alike i j d e same lt =
      let a = id_at i d (omega arith) in
      let b = id_at j e lt in
      let c : get_or (ids slots) i 0 ≡ get_or (ids slots) j 0 = ap (λ k. get_or (ids slots) k 0) same in omega arith

  module _ (id middle : ℕ) (m : Slot) (there : middle < length slots) where
    pub below : (get_or slots middle m).id < id → (k : ℕ) (d : Slot) → k < middle + 1 → (get_or slots k d).id < id
    below low k d lt = by_order (cases_lt k middle)
      where
        by_order : (k < middle) ⊎ (middle ≤ k) → (get_or slots k d).id < id
        by_order (inl h) = let up = rises k middle d m h there in omega arith
        by_order (inr h) = let same = alike k middle d m (omega arith) there in omega arith

    pub above : id ≤ (get_or slots middle m).id → (k : ℕ) (d : Slot) → middle ≤ k → k < length slots → id ≤ (get_or slots k d).id
    above high k d le lt = by_order (cases_lt middle k)
      where
        by_order : (middle < k) ⊎ (k ≤ middle) → id ≤ (get_or slots k d).id
        by_order (inl h) = let up = rises middle k m d h lt in omega arith
        by_order (inr h) = let same = alike k middle d m (omega arith) there in omega arith

  -- where none before a place is of this record, and the slot there isn't, no slot is
  module _ (id place : ℕ) (before : (i : ℕ) (e : Slot) → i < place → (get_or slots i e).id < id) where
    pub past_all : length slots ≤ place → position (is_of id) slots ≡ None
    past_all le = nowhere slots id (λ i e lt. let low : (get_or slots i e).id < id = before i e (omega arith) in grind (low, arith, nat_tests))

    pub another : (d : Slot) → place < length slots → id ≤ (get_or slots place d).id → ((get_or slots place d).id == id) ≡ false → position (is_of id) slots ≡ None
    another d there high other = nowhere slots id (λ i e lt. by_order i e lt (cases_lt i place) (cases_lt place i))
      where
        by_order : (i : ℕ) (e : Slot) → i < length slots → (i < place) ⊎ (place ≤ i) → (place < i) ⊎ (i ≤ place) → ((get_or slots i e).id == id) ≡ false
        by_order i e lt (inl h) w = let low : (get_or slots i e).id < id = before i e h in grind (low, arith, nat_tests)
        by_order i e lt (inr h) (inl g) = let up = rises place i d e g lt in grind (up, high, arith, nat_tests)
        by_order i e lt (inr h) (inr g) = let same = alike i place e d (omega arith) there in ap (λ k. k == id) same ∙ other
