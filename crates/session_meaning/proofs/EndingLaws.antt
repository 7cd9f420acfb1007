-- What a session writes, and what it tells.
use Rattle.std.proofs.Common.{◌≡◌, ℕ, zero, suc, List, [], ◌∷◌, map, Bool, true, false, ◌==◌, All, Result, Ok, Err, if◌then◌else◌, refl, ap, ◌∙◌, subst, arith}
use Rattle.std.specs.Prelude.{Contains}
use Rattle.std.proofs.lemmas.List.Elements.{All-cons}
use Rattle.std.proofs.lemmas.Bool.Decides.{nat_tests}
use Rattle.bottle_values.specs.declared.Value.{Value}
use Rattle.bottle_values.specs.declared.ValueFault.{ValueFault}
use Rattle.session_meaning.specs.Tree.{Command, LetVar, SetTo, GiveOf, Requires, When, Choice, Loop, Block, Nothing, Then}
use Rattle.session_meaning.specs.Meaning.{Slot, Environment, value_of, truth_of, set_in, Step, Goes, Ends, with_value, with_truth, and_then, repeated, command, block, slot_of, begun, writes_of, ending_of, alone}
use Rattle.session_meaning.specs.Laws.{WritesWhatItHas, TellsWhatItRead}

-- the records of a session's copy stay the same
abbrev names : List Slot → List ℕ
names = map (λ s. s.r)

abbrev Keeps : List ℕ → Step → Type 0
Keeps rs (Goes d) = names d.slots ≡ rs
Keeps rs (Ends e) = Unit {0}

set_keeps : (r : ℕ) (v : Value) (slots : List Slot) → names (set_in r v slots) ≡ names slots
set_keeps r v [] = refl
set_keeps r v (s ∷ rest) = by_test (s.r == r) refl (set_keeps r v rest)
  where
    by_test : (b : Bool) → (s.r == r) ≡ b → names (set_in r v rest) ≡ names rest
        → names (if b then record { r = r; value = v; is_set = true } ∷ rest else s ∷ set_in r v rest) ≡ s.r ∷ names rest
    by_test true e more = ap (λ k. k ∷ names rest) (grind (e, arith, nat_tests))
    by_test false e more = ap (λ ks. s.r ∷ ks) more

value_keeps : (rs : List ℕ) (o : Result Value ValueFault) (go : Value → Step) → ((v : Value) → Keeps rs (go v)) → Keeps rs (with_value o go)
value_keeps rs (Err e) go h = tt
value_keeps rs (Ok v) go h = h v

truth_keeps : (rs : List ℕ) (o : Result Bool ValueFault) (a b : Step) → Keeps rs a → Keeps rs b → Keeps rs (with_truth o a b)
truth_keeps rs (Err e) a b h k = tt
truth_keeps rs (Ok true) a b h k = h
truth_keeps rs (Ok false) a b h k = k

then_keeps : (rs : List ℕ) (s : Step) (go : Environment → Step) → Keeps rs s → ((d : Environment) → names d.slots ≡ rs → Keeps rs (go d)) → Keeps rs (and_then s go)
then_keeps rs (Goes d) go h k = k d h
then_keeps rs (Ends e) go h k = tt

repeated_keep : (rs : List ℕ) (n : ℕ) (go : Environment → Step) (d : Environment) → names d.slots ≡ rs → ((c : Environment) → names c.slots ≡ rs → Keeps rs (go c)) → Keeps rs (repeated n go d)
repeated_keep rs zero go d h k = h
repeated_keep rs (suc n) go d h k = then_keeps rs (go d) (repeated n go) (k d h) (λ c e. repeated_keep rs n go c e k)

mutual
  command_keeps : (rs : List ℕ) (c : Command) (d : Environment) → names d.slots ≡ rs → Keeps rs (command c d)
  command_keeps rs (LetVar place e) d h = value_keeps rs (value_of e d) _ (λ v. h)
  command_keeps rs (SetTo r e) d h = value_keeps rs (value_of e d) _ (λ v. set_keeps r v d.slots ∙ h)
  command_keeps rs (GiveOf e) d h = value_keeps rs (value_of e d) _ (λ v. h)
  command_keeps rs (Requires t code) d h = truth_keeps rs (truth_of t d) (Goes d) _ h tt
  command_keeps rs (When t body) d h = truth_keeps rs (truth_of t d) (block body d) (Goes d) (block_keeps rs body d h) h
  command_keeps rs (Choice t first second) d h = truth_keeps rs (truth_of t d) (block first d) (block second d) (block_keeps rs first d h) (block_keeps rs second d h)
  command_keeps rs (Loop n body) d h = repeated_keep rs n (block body) d h (λ c e. block_keeps rs body c e)

  block_keeps : (rs : List ℕ) (b : Block) (d : Environment) → names d.slots ≡ rs → Keeps rs (block b d)
  block_keeps rs Nothing d h = h
  block_keeps rs (Then c rest) d h = then_keeps rs (command c d) (block rest) (command_keeps rs c d h) (λ e k. block_keeps rs rest e k)

further : (r : ℕ) (rs : List ℕ) (x : ℕ) → Contains rs x → Contains (r ∷ rs) x
further r rs x (k, lt, e) = (suc k, omega arith, e)

all_further : (r : ℕ) (rs : List ℕ) (ws : List (ℕ × Value)) → All (λ w. Contains rs w.0) ws → All (λ w. Contains (r ∷ rs) w.0) ws
all_further r rs ws h = λ k d lt. further r rs _ (h k d lt)

written : (slots : List Slot) → All (λ w. Contains (names slots) w.0) (writes_of slots)
written [] = λ k d lt. absurd (omega arith)
written (s ∷ rest) = by_test s.is_set (all_further s.r (names rest) (writes_of rest) (written rest))
  where
    by_test : (b : Bool) → All (λ w. Contains (s.r ∷ names rest) w.0) (writes_of rest) → All (λ w. Contains (s.r ∷ names rest) w.0) (if b then (s.r, s.value) ∷ writes_of rest else writes_of rest)
    by_test true more = All-cons (λ (w : ℕ × Value). Contains (s.r ∷ names rest) w.0) (s.r, s.value) (writes_of rest) (0, omega arith, refl) more
    by_test false more = more

ended : (reads : List (ℕ × Value)) (rs : List ℕ) (s : Step) → Keeps rs s → All (λ w. Contains rs w.0) (ending_of reads s).writes
ended reads rs (Goes d) h = subst (λ xs. All (λ w. Contains xs w.0) (writes_of d.slots)) h (written d.slots)
ended reads rs (Ends e) h = λ k d lt. absurd (omega arith)

slots_named : (reads : List (ℕ × Value)) → names (map slot_of reads) ≡ map (λ x. x.0) reads
slots_named [] = refl
slots_named (x ∷ xs) = ap (λ ks. x.0 ∷ ks) (slots_named xs)

pub what_it_has : WritesWhatItHas
what_it_has p reads = unfold alone in
    ended reads (map (λ x. x.0) reads) (block p.body (begun p reads)) (block_keeps (map (λ x. x.0) reads) p.body (begun p reads) (slots_named reads))

told : (reads : List (ℕ × Value)) (s : Step) → (ending_of reads s).reads ≡ reads
told reads (Goes d) = refl
told reads (Ends e) = refl

pub what_it_read : TellsWhatItRead
what_it_read p reads = unfold alone in told reads (block p.body (begun p reads))
