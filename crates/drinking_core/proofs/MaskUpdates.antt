-- What is put of a record is put at its bit.
use Rattle.std.proofs.Common.{◌≡◌, ℕ, zero, suc, ◌<◌, ◌≤◌, Bool, true, false, cond, List, [], ◌∷◌, length, Option, None, Some, refl, sym, ap, ◌∙◌, arith, ⊎_elim, not, subst}
use Rattle.std.specs.Prelude.{◌==◌, ◌&&◌, ◌||◌, All, nat_lt, find, is_some, option_map, slice_get}
use Rattle.std.specs.List.{list_any}
use Rattle.std.proofs.lemmas.Bool.{eq-eqb, ne_eqb, eqb-true, cases_eq, cases_lt, cases_Bool, or_cases, lt-ltb, le-ltb}
use Rattle.std.proofs.lemmas.List.Elements.{All-head, All-tail}
use Rattle.dining_core.specs.masks.Sets.{is_in128, IsLeast}
use Rattle.dining_core.specs.declared.masks.mask128.Mask128.{Mask128}
use Rattle.bottle_values.specs.Maps.{put}
use Rattle.bottle_values.specs.Lists.{is_among}
use Rattle.bottle_values.specs.declared.Value.{Value}
use Rattle.drinking_core.specs.Drinkers.{Drinker, Start, AskBottle, GiveBottle, Drink, Finish, Withdraw, is_thirsty, may, act, with_token, with_bottle, holds, is_drinking}
use Rattle.drinking_core.specs.refinement.Masks.{spot_in, record_at, AreSpots, IsSpot, bit_in, Tells, AreMasks}

-- a record stands at the place k where its spot is k
pub same_place : (records spots : List ℕ) → AreSpots records spots → (k r : ℕ) → k < length records → (k == spot_in spots r) ≡ (record_at records k == r)
same_place records spots s k r lt = ⊎_elim
    (λ e. eq-eqb k (spot_in spots r) e ∙ sym (eq-eqb (record_at records k) r (ap (record_at records) e ∙ s.of_spot r (subst (λ j. j < length records) e lt))))
    (λ ne. ne_eqb k (spot_in spots r) ne ∙ sym (ne_eqb (record_at records k) r (λ e. ne (sym (s.of_place k lt) ∙ ap (spot_in spots) e))))
    (cases_eq k (spot_in spots r))

-- a record's bit tells of it
pub told_bit : (records spots : List ℕ) → AreSpots records spots → (m : Mask128) (k : ℕ) → k < length records → bit_in spots m (record_at records k) ≡ is_in128 m k
told_bit records spots s m k lt =
    ap (λ j. nat_lt j 128 && is_in128 m j) (s.of_place k lt) ∙ ap (λ b. b && is_in128 m k) (lt-ltb k 128 (omega (arith, lt, s.few)))

abbrev pub IsPut : Mask128 → Mask128 → ℕ → Bool → Type 0
IsPut m m' spot x = (i : ℕ) → i < 128 → is_in128 m' i ≡ put (is_in128 m) spot x i

abbrev pub IsEmpty : Mask128 → Type 0
IsEmpty m = (i : ℕ) → is_in128 m i ≡ false

pub bit_put : (records : List ℕ) (r spot : ℕ) → length records ≤ 128 → IsSpot records r spot → (m m' : Mask128) (f : ℕ → Bool) (x : Bool) → Tells records m f → IsPut m m' spot x → Tells records m' (put f r x)
bit_put records r spot few at m m' f x tells set = λ k lt.
    set k (omega (arith, lt, few)) ∙ ap (λ b. cond b x (is_in128 m k)) (at k lt) ∙ ap (λ b. cond (record_at records k == r) x b) (tells k lt)

both_false : (b c : Bool) → c ≡ false → (b && c) ≡ false
both_false true c e = e
both_false false c e = refl

pub none_in : (spots : List ℕ) (m : Mask128) → IsEmpty m → (r : ℕ) → bit_in spots m r ≡ false
none_in spots m empty r = both_false (nat_lt (spot_in spots r) 128) (is_in128 m (spot_in spots r)) (empty (spot_in spots r))

-- ---- the bits of some of the office's own records

place_of : (records : List ℕ) (r : ℕ) → is_among records r ≡ true → (k : ℕ) × (k < length records) × (record_at records k ≡ r)
place_of [] r e = absurd cc
place_of (x ∷ xs) r e = ⊎_elim
    (λ s. (0, omega arith, eqb-true x r s))
    (λ s. let h : (k : ℕ) × (k < length xs) × (record_at xs k ≡ r) = place_of xs r s in (suc h.0, omega (arith, h.1), h.2))
    (or_cases (x == r) (is_among xs r) e)

own_spot : (records spots : List ℕ) → AreSpots records spots → (r : ℕ) → is_among records r ≡ true → spot_in spots r < length records
own_spot records spots s r e =
    let h : (k : ℕ) × (k < length records) × (record_at records k ≡ r) = place_of records r e in
    let at : spot_in spots r ≡ h.0 = ap (spot_in spots) (sym h.2) ∙ s.of_place h.0 h.1 in
    omega (arith, at, h.1)

same_spot : (records spots : List ℕ) → AreSpots records spots → (r q : ℕ) → is_among records r ≡ true → (spot_in spots r == spot_in spots q) ≡ (r == q)
same_spot records spots s r q own = ⊎_elim
    (λ e. eq-eqb (spot_in spots r) (spot_in spots q) e ∙ sym (eq-eqb r q (is e)))
    (λ ne. ne_eqb (spot_in spots r) (spot_in spots q) ne ∙ sym (ne_eqb r q (λ e. ne (ap (spot_in spots) e))))
    (cases_eq (spot_in spots r) (spot_in spots q))
  where
    here : spot_in spots r < length records
    here = own_spot records spots s r own

    is : spot_in spots r ≡ spot_in spots q → r ≡ q
    is e = sym (s.of_spot r here) ∙ ap (record_at records) e ∙ s.of_spot q (subst (λ j. j < length records) e here)

abbrev pub AreOwn : List ℕ → List ℕ → Type 0
AreOwn records rs = All (λ r. is_among records r ≡ true) rs

abbrev pub AreBitsOf : List ℕ → List ℕ → Mask128 → Type 0
AreBitsOf spots rs m = (k : ℕ) → k < 128 → is_in128 m k ≡ list_any (λ r. spot_in spots r == k) rs

some_spot : (records spots : List ℕ) → AreSpots records spots → (rs : List ℕ) (q : ℕ) → AreOwn records rs → list_any (λ r. spot_in spots r == spot_in spots q) rs ≡ is_among rs q
some_spot records spots s [] q own = refl
some_spot records spots s (r ∷ rs) q own =
    ap (λ b. b || list_any (λ x. spot_in spots x == spot_in spots q) rs) (same_spot records spots s r q (All-head (λ x. is_among records x ≡ true) r rs own))
    ∙ ap (λ b. (r == q) || b) (some_spot records spots s rs q (All-tail (λ x. is_among records x ≡ true) r rs own))

pub own_among : (records rs : List ℕ) (q : ℕ) → AreOwn records rs → is_among rs q ≡ true → is_among records q ≡ true
own_among records [] q own e = absurd cc
own_among records (r ∷ rs) q own e = ⊎_elim
    (λ s. ap (λ k. is_among records k) (sym (eqb-true r q s)) ∙ All-head (λ k. is_among records k ≡ true) r rs own)
    (λ s. own_among records rs q (All-tail (λ k. is_among records k ≡ true) r rs own) s)
    (or_cases (r == q) (is_among rs q) e)

-- whichever record is asked for, its bit tells whether it is one of them
pub bits_tell : (records spots rs : List ℕ) (m : Mask128) → AreSpots records spots → AreOwn records rs → AreBitsOf spots rs m → (q : ℕ) → bit_in spots m q ≡ is_among rs q
bits_tell records spots rs m s own bits q = ⊎_elim
    (λ lt. ap (λ b. b && is_in128 m (spot_in spots q)) (lt-ltb (spot_in spots q) 128 lt) ∙ bits (spot_in spots q) lt ∙ some_spot records spots s rs q own)
    (λ ge. ap (λ b. b && is_in128 m (spot_in spots q)) (le-ltb (spot_in spots q) 128 ge) ∙ sym (⊎_elim (λ t. absurd (past ge (own_spot records spots s q (own_among records rs q own t)))) (λ f. f) (cases_Bool (is_among rs q))))
    (cases_lt (spot_in spots q) 128)
  where
    past : 128 ≤ spot_in spots q → spot_in spots q < length records → ⊥
    past ge lt = omega (arith, ge, lt, s.few)

-- no bit beyond the office's own is set
pub bits_own : (records spots rs : List ℕ) (k : ℕ) → AreSpots records spots → AreOwn records rs → list_any (λ r. spot_in spots r == k) rs ≡ true → k < length records
bits_own records spots [] k s own e = absurd cc
bits_own records spots (r ∷ rs) k s own e = ⊎_elim
    (λ is. omega (arith, eqb-true (spot_in spots r) k is, own_spot records spots s r (All-head (λ x. is_among records x ≡ true) r rs own)))
    (λ later. bits_own records spots rs k s (All-tail (λ x. is_among records x ≡ true) r rs own) later)
    (or_cases (spot_in spots r == k) (list_any (λ x. spot_in spots x == k) rs) e)

-- a bottle that goes or comes
some_put : (b : Bool) (x o : Option Value) → is_some (cond b x o) ≡ cond b (is_some x) (is_some o)
some_put true x o = refl
some_put false x o = refl

pub Tells_held : (records : List ℕ) (m : Mask128) (bottle : ℕ → Option Value) (r : ℕ) (x : Option Value) → Tells records m (put (λ q. is_some (bottle q)) r (is_some x)) → Tells records m (λ q. is_some (put bottle r x q))
Tells_held records m bottle r x tells = λ k lt. tells k lt ∙ sym (some_put (record_at records k == r) x (bottle (record_at records k)))

-- what is written stays in bottles that are here
some_mapped : (f : Value → Value) (o : Option Value) → is_some (option_map f o) ≡ is_some o
some_mapped f None = refl
some_mapped f (Some x) = refl

pub Tells_written : (records : List ℕ) (m : Mask128) (bottle : ℕ → Option Value) (f : ℕ → Value → Value) → Tells records m (λ q. is_some (bottle q)) → Tells records m (λ q. is_some (option_map (f q) (bottle q)))
Tells_written records m bottle f tells = λ k lt. tells k lt ∙ sym (some_mapped (f (record_at records k)) (bottle (record_at records k)))

-- ---- the first of a list, by places

pub none_at : (p : ℕ → Bool) (xs : List ℕ) → ((k : ℕ) → k < length xs → p (record_at xs k) ≡ false) → find p xs ≡ None
none_at p [] none = refl
none_at p (x ∷ xs) none = ap (λ b. cond b (Some x) (find p xs)) (none 0 (omega arith)) ∙ none_at p xs (λ k lt. none (suc k) (omega (arith, lt)))

pub first_at : (p : ℕ → Bool) (xs : List ℕ) (k : ℕ) → k < length xs → p (record_at xs k) ≡ true → ((j : ℕ) → j < k → p (record_at xs j) ≡ false) → find p xs ≡ Some (record_at xs k)
first_at p [] k lt is none = absurd (omega (arith, lt))
first_at p (x ∷ xs) zero lt is none = ap (λ b. cond b (Some x) (find p xs)) is
first_at p (x ∷ xs) (suc k) lt is none =
    ap (λ b. cond b (Some x) (find p xs)) (none 0 (omega arith)) ∙ first_at p xs k (omega (arith, lt)) is (λ j below. none (suc j) (omega (arith, below)))

-- ---- what each rule does to a bar that has its masks

pub asked : (d d' : Drinker) (t t' : Mask128) (r spot : ℕ) → AreMasks d t → d' ≡ act d (AskBottle r) → IsSpot d'.records r spot → IsPut t t' spot false → AreMasks d' t'
asked d d' t t' r spot m is at set =
    subst (λ (x : Drinker). IsSpot x.records r spot → AreMasks x t') (sym is)
    (λ here. record { few = m.few; requests = bit_put d.records r spot m.few here t t' d.token false m.requests set }) at

pub token_came : (d d' : Drinker) (t t' : Mask128) (r spot : ℕ) → AreMasks d t → d' ≡ with_token d r → IsSpot d'.records r spot → IsPut t t' spot true → AreMasks d' t'
token_came d d' t t' r spot m is at set =
    subst (λ (x : Drinker). IsSpot x.records r spot → AreMasks x t') (sym is)
    (λ here. record { few = m.few; requests = bit_put d.records r spot m.few here t t' d.token true m.requests set }) at

pub given : (d : Drinker) (t : Mask128) (r : ℕ) (forks : ℕ → Bool) → AreMasks d t → AreMasks (act d (GiveBottle r forks)) t
given d t r forks m = record { few = m.few; requests = m.requests }

pub bottle_came : (d : Drinker) (t : Mask128) (r : ℕ) (x : Value) → AreMasks d t → AreMasks (with_bottle d r x) t
bottle_came d t r x m = record { few = m.few; requests = m.requests }

pub drunk : (d : Drinker) (t : Mask128) → AreMasks d t → AreMasks (act d Drink) t
drunk d t m = record { few = m.few; requests = m.requests }

pub withdrawn : (d : Drinker) (t : Mask128) → AreMasks d t → AreMasks (act d Withdraw) t
withdrawn d t m = record { few = m.few; requests = m.requests }

pub finished : (d : Drinker) (t : Mask128) (writes : Option (List (ℕ × Value))) → AreMasks d t → AreMasks (act d (Finish writes)) t
finished d t None m = m
finished d t (Some writes) m = record { few = m.few; requests = m.requests }

pub started : (d : Drinker) (t : Mask128) (session : Option (List ℕ)) → AreMasks d t → AreMasks (act d (Start session)) t
started d t None m = m
started d t (Some rs) m = record { few = m.few; requests = m.requests }

-- ---- the first record whose bit is set

-- what has no bit doesn't pass
abbrev pub Covers : (ℕ → Bool) → List ℕ → Mask128 → Type 0
Covers p xs m = (k : ℕ) → k < length xs → k < 128 → is_in128 m k ≡ false → p (record_at xs k) ≡ false

pub none_left : (p : ℕ → Bool) (xs : List ℕ) (m : Mask128) → length xs ≤ 128 → Covers p xs m → IsLeast 128 (is_in128 m) None → find p xs ≡ None
none_left p xs m few covers none = none_at p xs (λ k lt. covers k lt (omega (arith, lt, few)) (none k (omega (arith, lt, few))))

pub none_within : (p : ℕ → Bool) (xs : List ℕ) (m : Mask128) (k : ℕ) → length xs ≤ 128 → Covers p xs m → IsLeast 128 (is_in128 m) (Some k) → length xs ≤ k → find p xs ≡ None
none_within p xs m k few covers least past = none_at p xs (λ j lt. covers j lt (omega (arith, lt, few)) (least.2 j (omega (arith, lt, past))))

placed : (ys : List ℕ) (i x : ℕ) → slice_get ys i ≡ Some x → (i < length ys) × (record_at ys i ≡ x)
placed [] i x e = absurd cc
placed (y ∷ ys) zero x e = (omega arith, cc)
placed (y ∷ ys) (suc i) x e = let h = placed ys i x e in (omega (arith, h.0), h.1)

pub first_left : (p : ℕ → Bool) (xs : List ℕ) (m : Mask128) (k r : ℕ) → length xs ≤ 128 → Covers p xs m → IsLeast 128 (is_in128 m) (Some k) → slice_get xs k ≡ Some r → p r ≡ true → find p xs ≡ Some r
first_left p xs m k r few covers least read is =
    let here = placed xs k r read in
    first_at p xs k here.0 (ap p here.1 ∙ is) (λ j below. covers j (omega (arith, below, here.0)) (omega (arith, below, here.0, few)) (least.2 j below)) ∙ ap Some here.1

-- one that was asked and doesn't pass needs no bit any more
pub left_fewer : (p : ℕ → Bool) (xs : List ℕ) (m m' : Mask128) (k r : ℕ) → Covers p xs m → IsPut m m' k false → slice_get xs k ≡ Some r → p r ≡ false → Covers p xs m'
left_fewer p xs m m' k r covers set read refused j lt low none = ⊎_elim
    (λ e. ap (λ i. p (record_at xs i)) e ∙ ap p (placed xs k r read).1 ∙ refused)
    (λ ne. covers j lt low (sym (set j low ∙ ap (λ b. cond b false (is_in128 m j)) (ne_eqb j k ne)) ∙ none))
    (cases_eq j k)

-- and where each bit tells whether its record passes
pub first_told : (p : ℕ → Bool) (xs : List ℕ) (m : Mask128) (k r : ℕ) → length xs ≤ 128 → ((j : ℕ) → j < length xs → is_in128 m j ≡ p (record_at xs j)) → IsLeast 128 (is_in128 m) (Some k) → slice_get xs k ≡ Some r → find p xs ≡ Some r
first_told p xs m k r few tells least read =
    let here = placed xs k r read in
    first_left p xs m k r few (λ j lt low none. sym (tells j lt) ∙ none) least read (ap p (sym here.1) ∙ sym (tells k here.0) ∙ least.1)

-- the bits of what may be asked for
reordered : (n t h : Bool) → ((n && t) && not h) ≡ (n && (not h && t))
reordered false t h = refl
reordered true false true = refl
reordered true false false = refl
reordered true true true = refl
reordered true true false = refl

pub asked_bits : (d : Drinker) (h t n m : Mask128) → AreMasks d t → Tells d.records h (holds d) → Tells d.records n d.needed → ((i : ℕ) → i < 128 → is_in128 m i ≡ ((is_in128 n i && is_in128 t i) && not (is_in128 h i))) → is_thirsty d.phase ≡ true →
    (k : ℕ) → k < length d.records → is_in128 m k ≡ may d (AskBottle (record_at d.records k))
asked_bits d h t n m masked here needs bits thirsty k lt =
    bits k (omega (arith, lt, masked.few))
    ∙ ap (λ b. (b && is_in128 t k) && not (is_in128 h k)) (needs k lt)
    ∙ ap (λ b. (d.needed (record_at d.records k) && b) && not (is_in128 h k)) (masked.requests k lt)
    ∙ ap (λ b. (d.needed (record_at d.records k) && d.token (record_at d.records k)) && not b) (here k lt)
    ∙ reordered (d.needed (record_at d.records k)) (d.token (record_at d.records k)) (holds d (record_at d.records k))
    ∙ ap (λ b. b && (d.needed (record_at d.records k) && (not (holds d (record_at d.records k)) && d.token (record_at d.records k)))) (sym thirsty)

none_asked : (b c : Bool) → b ≡ false → (b && c) ≡ false
none_asked true c e = absurd cc
none_asked false c e = refl

pub not_thirsty : (d : Drinker) (xs : List ℕ) → is_thirsty d.phase ≡ false → find (λ r. may d (AskBottle r)) xs ≡ None
not_thirsty d xs sated = none_at (λ r. may d (AskBottle r)) xs (λ k lt. none_asked (is_thirsty d.phase) _ sated)

-- the bits of what is owed, and of what is owed and not needed
owed_false : (t h k : Bool) → (h && t) ≡ false → (t && (h && not k)) ≡ false
owed_false false h k e = refl
owed_false true false k e = refl
owed_false true true k e = absurd cc

free_false : (t h n k : Bool) → ((h && t) && not n) ≡ false → (t && (h && not (n && (true || k)))) ≡ false
free_false false h n k e = refl
free_false true false n k e = refl
free_false true true true k e = refl
free_false true true false k e = absurd cc

pub owed_covers : (d : Drinker) (h t m : Mask128) (forks : ℕ → Bool) → AreMasks d t → Tells d.records h (holds d) → ((i : ℕ) → is_in128 m i ≡ (is_in128 h i && is_in128 t i)) → Covers (λ r. may d (GiveBottle r forks)) d.records m
owed_covers d h t m forks masked here bits k lt low none =
    owed_false (d.token (record_at d.records k)) (holds d (record_at d.records k)) _
    (ap (λ b. b && d.token (record_at d.records k)) (sym (here k lt)) ∙ ap (λ b. is_in128 h k && b) (sym (masked.requests k lt)) ∙ sym (bits k) ∙ none)

pub free_covers : (d : Drinker) (h t n m : Mask128) (forks : ℕ → Bool) → AreMasks d t → Tells d.records h (holds d) → Tells d.records n d.needed → is_drinking d.phase ≡ true →
    ((i : ℕ) → i < 128 → is_in128 m i ≡ ((is_in128 h i && is_in128 t i) && not (is_in128 n i))) → Covers (λ r. may d (GiveBottle r forks)) d.records m
free_covers d h t n m forks masked here needs drinking bits k lt low none =
    ap (λ b. d.token r && (holds d r && not (d.needed r && (b || forks (d.peer r))))) drinking
    ∙ free_false (d.token r) (holds d r) (d.needed r) (forks (d.peer r))
    (ap (λ b. (b && d.token r) && not (d.needed r)) (sym (here k lt)) ∙ ap (λ b. (is_in128 h k && b) && not (d.needed r)) (sym (masked.requests k lt))
    ∙ ap (λ b. (is_in128 h k && is_in128 t k) && not b) (sym (needs k lt)) ∙ sym (bits k low) ∙ none)
  where
    r : ℕ
    r = record_at d.records k
