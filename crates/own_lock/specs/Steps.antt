-- The atomic steps at the lock's table: when each is taken, what it leaves, and that the rule holds after it.
-- A step changes the view of the seat that takes it. A seat gives its first pass a new seat, or takes another seat in; no other view changes.
use Rattle.std.specs.Prelude.{◌≡◌, ◌≢◌, ℕ, zero, suc, ◌+◌, Bool, true, false, List, [], ◌∷◌, ◌++◌, slice_set, Option, Some, None}
use mathlib.Core.Option.{some, none}
use lib.ListN.{get_elem?}
use Rattle.atomic_table.specs.Table.{State}
use Rattle.own_lock.specs.declared.seat_view.Part.{Part}
use Rattle.own_lock.specs.declared.seat_view.SeatView.{SeatView}
use Rattle.own_lock.specs.Entries.{Every, longer, tagged, AddsOnly}
use Rattle.own_lock.specs.Rule.{place, amid, free_word, awaited_word, IsHeldWord, LockRule, word_of}

-- ---- views

abbrev pub rest : {A : Type 0} → List A → List A
rest [] = []
rest (x ∷ xs) = xs

module _ {E : Type 0} where
  -- the first part, or an empty one
  abbrev pub first_part : List (Part E) → Part E
  first_part [] = record { tag = 0; seen = []; mine = [] }
  first_part (p ∷ ps) = p

  -- what a pass knows that has seen these entries
  abbrev pub part_with : (E → ℕ) → ℕ → List E → Part E
  part_with tag_of t es = record { tag = t; seen = es; mine = tagged tag_of t es }

  -- as many parts, with the tags from t on
  abbrev pub parts_from : (E → ℕ) → List E → ℕ → ℕ → List (Part E)
  parts_from tag_of es zero t = []
  parts_from tag_of es (suc count) t = part_with tag_of t es ∷ parts_from tag_of es count (t + 1)

  -- the first part, having learned what the second one has seen
  abbrev pub told_part : Part E → Part E → Part E
  told_part p q = record p { seen = longer p.seen q.seen }

module _ {K E : Type 0} where
  abbrev pub the_part : SeatView K E → Part E
  the_part v = first_part v.parts

  abbrev pub second_part : SeatView K E → Part E
  second_part v = first_part (rest v.parts)

  abbrev pub view_with : Option K → Bool → Part E → SeatView K E
  view_with k held p = record { key = k; holds = held; parts = p ∷ [] }

  -- at the start all passes are at one seat
  abbrev pub opening_view : (E → ℕ) → K → List E → ℕ → SeatView K E
  opening_view tag_of k es count = record { key = Some k; holds = false; parts = parts_from tag_of es count 0 }

  abbrev pub without_first : SeatView K E → SeatView K E
  without_first v = record { key = v.key; holds = false; parts = rest v.parts }

  abbrev pub first_alone : SeatView K E → SeatView K E
  first_alone v = view_with v.key false (the_part v)

  -- two seats of one pass each become one
  abbrev pub joined_view : SeatView K E → SeatView K E → SeatView K E
  joined_view v w = record { key = v.key; holds = false; parts = the_part v ∷ the_part w ∷ [] }

  -- and what is left of the other
  abbrev pub spent_view : SeatView K E
  spent_view = record { key = None; holds = false; parts = [] }

  -- the seat of a pass that took a state with these entries
  abbrev pub holder_view : (E → ℕ) → SeatView K E → List E → SeatView K E
  holder_view tag_of v es = view_with v.key true (part_with tag_of (the_part v).tag es)

  -- and of one that gave it back
  abbrev pub giver_view : (E → ℕ) → SeatView K E → List E → SeatView K E
  giver_view tag_of v es = view_with v.key false (part_with tag_of (the_part v).tag es)

  -- of two passes at a seat the first alone, having learned what the second one has seen
  abbrev pub told_view : SeatView K E → SeatView K E
  told_view v = view_with v.key false (told_part (the_part v) (second_part v))

-- ---- steps

-- the seven kinds of atomic steps, each with the seat that takes it, and the view there
pub data Step (S K E : Type 0) : Type 0 where
  -- a load by which the first pass of a seat gets a seat of its own
  Deals : (seat : ℕ) (v : SeatView K E) → Step S K E
  -- the word was 0 and becomes 1 or 2: the state goes from the slot to the seat
  Takes : (word seat : ℕ) (v : SeatView K E) (x : S) → Step S K E
  -- the word isn't 0, and stays
  FindsTaken : (seat : ℕ) (v : SeatView K E) → Step S K E
  -- the word isn't 0, and becomes 2: the pass may wait
  LeavesWord : (seat : ℕ) (v : SeatView K E) → Step S K E
  -- the word becomes 0: a state goes from the seat to the slot
  Gives : (seat : ℕ) (v : SeatView K E) (x : S) → Step S K E
  -- a load by which the pass of another seat comes to this one
  TakesIn : (seat : ℕ) (v : SeatView K E) (other : ℕ) (w : SeatView K E) → Step S K E
  -- a load by which the first of two passes learns what the second one has seen, and the second is given up
  Tells : (seat : ℕ) (v : SeatView K E) → Step S K E

module _ {S K E : Type 0} where
  -- the step leaves word that a pass may wait: it finds the state taken, or takes it, and sets the word to 2
  abbrev pub LeavesAwaited : Step S K E → Type 0
  LeavesAwaited (Deals seat v) = ⊥
  LeavesAwaited (Takes word seat v x) = word ≡ awaited_word
  LeavesAwaited (FindsTaken seat v) = ⊥
  LeavesAwaited (LeavesWord seat v) = Unit {0}
  LeavesAwaited (Gives seat v x) = ⊥
  LeavesAwaited (TakesIn seat v other w) = ⊥
  LeavesAwaited (Tells seat v) = ⊥

  -- the step gives no state back
  abbrev pub GivesNothing : Step S K E → Type 0
  GivesNothing (Deals seat v) = Unit {0}
  GivesNothing (Takes word seat v x) = Unit {0}
  GivesNothing (FindsTaken seat v) = Unit {0}
  GivesNothing (LeavesWord seat v) = Unit {0}
  GivesNothing (Gives seat v x) = ⊥
  GivesNothing (TakesIn seat v other w) = Unit {0}
  GivesNothing (Tells seat v) = Unit {0}

module _ {K E : Type 0} where
  abbrev pub IsAt : List (SeatView K E) → ℕ → SeatView K E → Type 0
  IsAt views seat v = get_elem? views seat ≡ some v

  -- the seat has one pass, which doesn't hold the state
  abbrev pub IsIdle : SeatView K E → Type 0
  IsIdle v = (v.holds ≡ false) × (v.parts ≡ the_part v ∷ [])

module _ {S K E : Type 0} (tag_of : E → ℕ) (key : S → K) (entries : S → List E) (fits : S → Type 0) where
  -- When a step is taken: what the code sees to, and what the atomic action finds. A state that is given fits and has the pass's key, and its entries are those that the pass has seen, with more of its own.
  abbrev pub May : State (Option S) (SeatView K E) → Step S K E → Type 0
  May s (Deals seat v) = IsAt s.views seat v × (v.holds ≡ false) × (v.parts ≡ the_part v ∷ rest v.parts)
  May s (Takes word seat v x) = IsAt s.views seat v × IsIdle v × (word_of s ≡ free_word) × IsHeldWord word × (get_elem? s.homes place ≡ some (some (Some x)))
  May s (FindsTaken seat v) = IsAt s.views seat v × (word_of s ≢ free_word)
  May s (LeavesWord seat v) = IsAt s.views seat v × (word_of s ≢ free_word)
  May s (Gives seat v x) = IsAt s.views seat v × (v.holds ≡ true) × (v.parts ≡ the_part v ∷ []) × fits x × (v.key ≡ Some (key x)) × AddsOnly tag_of (the_part v).tag (the_part v).seen (entries x)
  May s (TakesIn seat v other w) = IsAt s.views seat v × IsIdle v × IsAt s.views other w × IsIdle w × (other ≢ seat)
  May s (Tells seat v) = IsAt s.views seat v × (v.holds ≡ false) × (v.parts ≡ the_part v ∷ second_part v ∷ [])

module _ {S K E : Type 0} (tag_of : E → ℕ) (entries : S → List E) where
  -- the table after a step
  abbrev pub table_after : State (Option S) (SeatView K E) → Step S K E → State (Option S) (SeatView K E)
  table_after s (Deals seat v) = record { words = s.words; homes = s.homes; views = slice_set s.views seat (without_first v) ++ first_alone v ∷ [] }
  table_after s (Takes word seat v x) = record { words = slice_set s.words place word; homes = slice_set s.homes place none; views = slice_set s.views seat (holder_view tag_of v (entries x)) }
  table_after s (FindsTaken seat v) = s
  table_after s (LeavesWord seat v) = record { words = slice_set s.words place awaited_word; homes = s.homes; views = s.views }
  table_after s (Gives seat v x) = record { words = slice_set s.words place free_word; homes = slice_set s.homes place (some (Some x)); views = slice_set s.views seat (giver_view tag_of v (entries x)) }
  table_after s (TakesIn seat v other w) = record { words = s.words; homes = s.homes; views = slice_set (slice_set s.views seat (joined_view v w)) other spent_view }
  table_after s (Tells seat v) = record { words = s.words; homes = s.homes; views = slice_set s.views seat (told_view v) }

  -- the table after these steps, one after the other
  abbrev pub table_after_all : State (Option S) (SeatView K E) → List (Step S K E) → State (Option S) (SeatView K E)
  table_after_all s [] = s
  table_after_all s (step ∷ steps) = table_after_all (table_after s step) steps

module _ {S K E : Type 0} (tag_of : E → ℕ) (key : S → K) (entries : S → List E) (fits : S → Type 0) where
  -- each step of the list is one that may be taken when its turn comes
  abbrev pub MayAll : State (Option S) (SeatView K E) → List (Step S K E) → Type 0
  MayAll s [] = Unit {0}
  MayAll s (step ∷ steps) = May tag_of key entries fits s step × MayAll (table_after tag_of entries s step) steps

  -- the table at the opening: the word 0, the state in the slot, and all passes at one seat
  abbrev pub opening_table : S → ℕ → State (Option S) (SeatView K E)
  opening_table x passes = record { words = amid 0 free_word; homes = amid (some None) (some (Some x)); views = opening_view tag_of (key x) (entries x) passes ∷ [] }

  -- ---- laws

  -- where the rule holds before a step, it holds after it
  abbrev pub StepsKeepTheRule : Type 0
  StepsKeepTheRule = (k : K) (passes : ℕ) (s : State (Option S) (SeatView K E)) (step : Step S K E) →
      LockRule tag_of key entries fits k passes s → May tag_of key entries fits s step → LockRule tag_of key entries fits k passes (table_after tag_of entries s step)

  -- from an opening with a state that fits, the rule holds after every list of steps
  abbrev pub TheRuleHoldsThroughout : Type 0
  TheRuleHoldsThroughout = (x : S) (passes : ℕ) (steps : List (Step S K E)) → fits x → MayAll (opening_table x passes) steps →
      LockRule tag_of key entries fits (key x) passes (table_after_all tag_of entries (opening_table x passes) steps)

  -- Once a step left word, the word is 2 until the state is given back: whoever gives it back finds that others may wait.
  abbrev pub WordLeftIsFound : Type 0
  WordLeftIsFound = (k : K) (passes : ℕ) (s : State (Option S) (SeatView K E)) (step : Step S K E) (steps : List (Step S K E)) →
      LockRule tag_of key entries fits k passes s → MayAll s (step ∷ steps) → LeavesAwaited step → Every GivesNothing steps →
      word_of (table_after_all tag_of entries s (step ∷ steps)) ≡ awaited_word
