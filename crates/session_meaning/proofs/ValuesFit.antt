-- A session that fits a version makes of values of that version only such values: under version 1 numbers make numbers.
use Rattle.std.proofs.Common.{ℕ, zero, suc, ◌+◌, ◌<◌, List, [], ◌∷◌, ◌++◌, Bool, true, false, Result, Ok, Err, refl, length, replicate, map, arith}
use Rattle.std.specs.Prelude.{IsTrue, All, ◌&&◌, ◌==◌, if◌then◌else◌, slice_set, ℤ, ◌+ℤ◌, ◌-ℤ◌, ◌*ℤ◌, neg_ℤ}
use Rattle.std.specs.List.{slice_index_or}
use Rattle.std.proofs.lemmas.Bool.{false≢true}
use Rattle.std.proofs.lemmas.List.Elements.{All-nil, All-cons}
use Rattle.bottle_values.specs.declared.Value.{Value}
use Rattle.bottle_values.specs.declared.Value.TheVariants.{Number, Text}
use Rattle.bottle_values.specs.declared.ValueFault.{ValueFault}
use Rattle.bottle_values.specs.declared.ValueFault.TheVariants.{Overflow}
use Rattle.bottle_values.specs.declared.version.Version.{Version}
use Rattle.bottle_values.specs.declared.version.Version.TheVariants.{One, Two}
use Rattle.bottle_values.specs.Versions.{admits}
use Rattle.bottle_values.specs.Operations.{is_i64, nought, exact}
use Rattle.session_meaning.specs.declared.node.Operator.{Operator}
use Rattle.session_meaning.specs.declared.node.Operator.TheVariants.{Plus, Minus, Times}
use Rattle.session_meaning.specs.Tree.{Term, Constant, Var, ReadOf, Neg, Bin, Command, LetVar, SetTo, GiveOf, Requires, When, Choice, Loop, Block, Nothing, Then}
use Rattle.session_meaning.specs.ProgramValue.{ProgramValue}
use Rattle.session_meaning.specs.Meaning.{Environment, Slot, Step, Goes, Ends, value_in, set_in, apply, both, negated, value_of, truth_of, with_value, with_truth, and_then, repeated, command, block, slot_of, begun, writes_of, ending_of, alone}
use Rattle.session_meaning.specs.Fitting.{term_fits, test_fits, command_fits, block_fits, AllFit, RecordsFit}

-- of the first one and of the others
abbrev pub Each : {X : Type 0} → (X → Type 0) → List X → Type 0
Each P [] = Unit {0}
Each P (x ∷ xs) = P x × Each P xs

each_of : {X : Type 0} (P : X → Type 0) (xs : List X) → All P xs → Each P xs
each_of P [] h = tt
each_of P (x ∷ xs) h = (h 0 x (omega arith), each_of P xs (λ k d lt. h (suc k) d (omega (arith, lt))))

all_of : {X : Type 0} (P : X → Type 0) (xs : List X) → Each P xs → All P xs
all_of P [] h = All-nil P
all_of P (x ∷ xs) h = All-cons P x xs h.0 (all_of P xs h.1)

-- a value of a version
abbrev pub Admits : Version → Value → Type 0
Admits v x = IsTrue (admits v x)

abbrev pub Every : Version → List Value → Type 0
Every v xs = Each (Admits v) xs

abbrev pub EveryRecord : Version → List (ℕ × Value) → Type 0
EveryRecord v ws = Each (λ w. Admits v w.1) ws

first_of : (a b : Bool) → IsTrue (a && b) → IsTrue a
first_of true b h = refl
first_of false b h = absurd (false≢true h)

second_of : (a b : Bool) → IsTrue (a && b) → IsTrue b
second_of true b h = h
second_of false b h = absurd (false≢true h)

-- a value, if there is one
abbrev pub Fits : Version → Result Value ValueFault → Type 0
Fits v (Ok x) = IsTrue (admits v x)
Fits v (Err e) = Unit {0}

anything : (r : Result Value ValueFault) → Fits Two r
anything (Ok x) = refl
anything (Err e) = tt

exact_fits : (z : ℤ) → Fits One (exact z)
exact_fits z = go (is_i64 z)
  where
    go : (b : Bool) → Fits One (if b then Ok (Number z) else Err Overflow)
    go true = refl
    go false = tt

apply_fits : (v : Version) (op : Operator) (a b : Value) → IsTrue (admits v a) → IsTrue (admits v b) → Fits v (apply op a b)
apply_fits Two op a b x y = anything (apply op a b)
apply_fits One op (Text s) b x y = absurd (false≢true x)
apply_fits One op (Number z) (Text t) x y = absurd (false≢true y)
apply_fits One Plus (Number y) (Number z) _ _ = exact_fits (y +ℤ z)
apply_fits One Minus (Number y) (Number z) _ _ = exact_fits (y -ℤ z)
apply_fits One Times (Number y) (Number z) _ _ = exact_fits (y *ℤ z)

negated_fits : (v : Version) (r : Result Value ValueFault) → Fits v r → Fits v (negated r)
negated_fits Two r h = anything (negated r)
negated_fits One (Err e) h = tt
negated_fits One (Ok (Number z)) h = exact_fits (neg_ℤ z)
negated_fits One (Ok (Text t)) h = absurd (false≢true h)

both_fits : (v : Version) (op : Operator) (a b : Result Value ValueFault) → Fits v a → Fits v b → Fits v (both a b (apply op))
both_fits v op (Err e) b x y = tt
both_fits v op (Ok a) (Err e) x y = tt
both_fits v op (Ok a) (Ok b) x y = apply_fits v op a b x y

nought_fits : (v : Version) → IsTrue (admits v nought)
nought_fits One = refl
nought_fits Two = refl

choice : (v : Version) (b : Bool) (x y : Value) → IsTrue (admits v x) → IsTrue (admits v y) → IsTrue (admits v (if b then x else y))
choice v true x y h k = h
choice v false x y h k = k

at : (v : Version) (xs : List Value) (k : ℕ) → Every v xs → IsTrue (admits v (slice_index_or xs k nought))
at v [] k h = nought_fits v
at v (x ∷ xs) zero h = h.0
at v (x ∷ xs) (suc k) h = at v xs k h.1

with_one : (v : Version) (xs : List Value) (k : ℕ) (y : Value) → Every v xs → IsTrue (admits v y) → Every v (slice_set xs k y)
with_one v [] k y h e = tt
with_one v (x ∷ xs) zero y h e = (e, h.1)
with_one v (x ∷ xs) (suc k) y h e = (h.0, with_one v xs k y h.1 e)

one_more : (v : Version) (xs : List Value) (y : Value) → Every v xs → IsTrue (admits v y) → Every v (xs ++ y ∷ [])
one_more v [] y h e = (e, tt)
one_more v (x ∷ xs) y h e = (h.0, one_more v xs y h.1 e)

abbrev pub SlotsFit : Version → List Slot → Type 0
SlotsFit v [] = Unit {0}
SlotsFit v (s ∷ rest) = IsTrue (admits v s.value) × SlotsFit v rest

found : (v : Version) (slots : List Slot) (r : ℕ) → SlotsFit v slots → IsTrue (admits v (value_in slots r))
found v [] r h = nought_fits v
found v (s ∷ rest) r h = choice v (s.r == r) s.value (value_in rest r) h.0 (found v rest r h.1)

set_fits : (v : Version) (slots : List Slot) (r : ℕ) (y : Value) → SlotsFit v slots → IsTrue (admits v y) → SlotsFit v (set_in r y slots)
set_fits v [] r y h e = tt
set_fits v (s ∷ rest) r y h e = go (s.r == r) (set_fits v rest r y h.1 e)
  where
    go : (b : Bool) → SlotsFit v (set_in r y rest) → SlotsFit v (if b then record { r = r; value = y; is_set = true } ∷ rest else s ∷ set_in r y rest)
    go true more = (e, h.1)
    go false more = (h.0, more)

-- all that a running session has
pub record Has (v : Version) (d : Environment) : Type 0 where
  pub slots : SlotsFit v d.slots
  pub variables : Every v d.variables
  pub gives : Every v d.gives

value_fits : (v : Version) (e : Term) (d : Environment) → Has v d → IsTrue (term_fits v e) → Fits v (value_of e d)
value_fits v (Constant x) d h t = t
value_fits v (Var k) d h t = at v d.variables k h.variables
value_fits v (ReadOf r) d h t = found v d.slots r h.slots
value_fits v (Neg e) d h t = negated_fits v (value_of e d) (value_fits v e d h t)
value_fits v (Bin op a b) d h t = both_fits v op (value_of a d) (value_of b d) (value_fits v a d h (first_of _ _ t)) (value_fits v b d h (second_of _ _ t))

abbrev pub Leaves : Version → Step → Type 0
Leaves v (Goes d) = Has v d
Leaves v (Ends e) = Unit {0}

value_leaves : (v : Version) (r : Result Value ValueFault) (go : Value → Step) → Fits v r → ((x : Value) → IsTrue (admits v x) → Leaves v (go x)) → Leaves v (with_value r go)
value_leaves v (Err e) go h k = tt
value_leaves v (Ok x) go h k = k x h

truth_leaves : (v : Version) (r : Result Bool ValueFault) (a b : Step) → Leaves v a → Leaves v b → Leaves v (with_truth r a b)
truth_leaves v (Err e) a b x y = tt
truth_leaves v (Ok true) a b x y = x
truth_leaves v (Ok false) a b x y = y

then_leaves : (v : Version) (s : Step) (go : Environment → Step) → Leaves v s → ((d : Environment) → Has v d → Leaves v (go d)) → Leaves v (and_then s go)
then_leaves v (Goes d) go h k = k d h
then_leaves v (Ends e) go h k = tt

times_leave : (v : Version) (n : ℕ) (go : Environment → Step) (d : Environment) → Has v d → ((x : Environment) → Has v x → Leaves v (go x)) → Leaves v (repeated n go d)
times_leave v zero go d h k = h
times_leave v (suc n) go d h k = then_leaves v (go d) (repeated n go) (k d h) (λ x y. times_leave v n go x y k)

mutual
  command_leaves : (v : Version) (c : Command) (d : Environment) → Has v d → IsTrue (command_fits v c) → Leaves v (command c d)
  command_leaves v (LetVar k e) d h t = value_leaves v (value_of e d) _ (value_fits v e d h t) (λ x f. record { slots = h.slots; variables = with_one v d.variables k x h.variables f; gives = h.gives })
  command_leaves v (SetTo r e) d h t = value_leaves v (value_of e d) _ (value_fits v e d h t) (λ x f. record { slots = set_fits v d.slots r x h.slots f; variables = h.variables; gives = h.gives })
  command_leaves v (GiveOf e) d h t = value_leaves v (value_of e d) _ (value_fits v e d h t) (λ x f. record { slots = h.slots; variables = h.variables; gives = one_more v d.gives x h.gives f })
  command_leaves v (Requires t code) d h f = truth_leaves v (truth_of t d) (Goes d) _ h tt
  command_leaves v (When t body) d h f = truth_leaves v (truth_of t d) (block body d) (Goes d) (block_leaves v body d h (second_of _ _ f)) h
  command_leaves v (Choice t first second) d h f =
      truth_leaves v (truth_of t d) (block first d) (block second d) (block_leaves v first d h (first_of _ _ (second_of (test_fits v t) _ f))) (block_leaves v second d h (second_of (block_fits v first) _ (second_of (test_fits v t) _ f)))
  command_leaves v (Loop n body) d h f = times_leave v n (block body) d h (λ x y. block_leaves v body x y f)

  block_leaves : (v : Version) (b : Block) (d : Environment) → Has v d → IsTrue (block_fits v b) → Leaves v (block b d)
  block_leaves v Nothing d h t = h
  block_leaves v (Then c rest) d h t = then_leaves v (command c d) (block rest) (command_leaves v c d h (first_of _ _ t)) (λ x y. block_leaves v rest x y (second_of (command_fits v c) _ t))

slots_of : (v : Version) (reads : List (ℕ × Value)) → EveryRecord v reads → SlotsFit v (map slot_of reads)
slots_of v [] h = tt
slots_of v (x ∷ xs) h = (h.0, slots_of v xs h.1)

zeros : (v : Version) (n : ℕ) → Every v (replicate n nought)
zeros v zero = tt
zeros v (suc n) = (nought_fits v, zeros v n)

written : (v : Version) (slots : List Slot) → SlotsFit v slots → EveryRecord v (writes_of slots)
written v [] h = tt
written v (s ∷ rest) h = go s.is_set (written v rest h.1)
  where
    go : (b : Bool) → EveryRecord v (writes_of rest) → EveryRecord v (if b then (s.r, s.value) ∷ writes_of rest else writes_of rest)
    go true more = (h.0, more)
    go false more = more

-- what a session writes and gives
pub values_fit : (v : Version) (p : ProgramValue) (reads : List (ℕ × Value)) → IsTrue (block_fits v p.body) → RecordsFit v reads → RecordsFit v (alone p reads).writes × AllFit v (alone p reads).gives
unfolding alone
values_fit v p reads t h = go (block p.body (begun p reads)) (block_leaves v p.body (begun p reads) (record { slots = slots_of v reads (each_of (λ w. Admits v w.1) reads h); variables = zeros v (length p.variables); gives = tt }) t)
  where
    go : (s : Step) → Leaves v s → RecordsFit v (ending_of reads s).writes × AllFit v (ending_of reads s).gives
    go (Goes d) l = (all_of (λ w. Admits v w.1) (writes_of d.slots) (written v d.slots l.slots), all_of (Admits v) d.gives l.gives)
    go (Ends e) l = (All-nil (λ w. Admits v w.1), All-nil (Admits v))
