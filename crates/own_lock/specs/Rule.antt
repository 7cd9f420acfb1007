-- The rule of the lock: what holds of its table between any two atomic steps.
-- Of the table's words and slots one each is used. At word 0 the state lies in the slot. At any other word one seat holds it.
-- The history is the list of all entries up to now: those of the state in the slot, or those that the state had when it was taken.
use Rattle.std.specs.Prelude.{◌≡◌, ◌≢◌, ℕ, ◌<◌, true, List, [], ◌∷◌, ◌⊎◌, length, slice_index, Option, Some}
use mathlib.Core.List.{IsPrefix}
use mathlib.Core.Option.{some}
use lib.ListN.{get_elem?}
use Rattle.atomic_table.specs.Table.{State}
use Rattle.own_lock.specs.declared.seat_view.Part.{Part}
use Rattle.own_lock.specs.declared.seat_view.SeatView.{SeatView}
use Rattle.own_lock.specs.Entries.{Every, tagged}

-- How many words the table has, and as many slots.
abbrev pub room : ℕ
room = 15

-- The word and the slot that are used: those in the middle. The others are there so that no other value lies on a cache line with it.
abbrev pub place : ℕ
place = 7

-- a list of that room with y at the place that is used, and x at each other
abbrev pub amid : {A : Type 0} → A → A → List A
amid x y = x ∷ x ∷ x ∷ x ∷ x ∷ x ∷ x ∷ y ∷ x ∷ x ∷ x ∷ x ∷ x ∷ x ∷ x ∷ []

-- What the word says: nobody holds the state,
abbrev pub free_word : ℕ
free_word = 0

-- a pass holds it,
abbrev pub taken_word : ℕ
taken_word = 1

-- or a pass holds it, and others may wait.
abbrev pub awaited_word : ℕ
awaited_word = 2

-- the words of a state that a pass holds
abbrev pub IsHeldWord : ℕ → Type 0
IsHeldWord word = (word ≡ taken_word) ⊎ (word ≡ awaited_word)

-- no tag stands twice
abbrev pub DistinctTags : {E : Type 0} → List (Part E) → Type 0
DistinctTags [] = Unit {0}
DistinctTags (p ∷ ps) = Every (λ q. q.tag ≢ p.tag) ps × DistinctTags ps

module _ {E : Type 0} (tag_of : E → ℕ) (passes : ℕ) (history : List E) (seat_of : ℕ → ℕ) (seat : ℕ) where
  -- What a pass at this seat knows is true: what it has seen begins the history, and what it has for its own are all entries of its tag, in the history and in what it has seen.
  pub record PartAgrees (p : Part E) : Type 0 where
    pub at : seat_of p.tag ≡ seat
    pub below : p.tag < passes
    pub seen : IsPrefix p.seen history
    pub mine : p.mine ≡ tagged tag_of p.tag history
    pub own : tagged tag_of p.tag p.seen ≡ p.mine

module _ {K E : Type 0} (tag_of : E → ℕ) (k : K) (passes : ℕ) (history : List E) (seat_of : ℕ → ℕ) (word holder : ℕ) where
  -- the view of this seat is true; if it holds the state, it is the one seat that does, with one pass, which has seen the whole history
  pub record SeatAgrees (seat : ℕ) (v : SeatView K E) : Type 0 where
    pub distinct : DistinctTags v.parts
    pub parts : Every (PartAgrees tag_of passes history seat_of seat) v.parts
    pub key : 0 < length v.parts → v.key ≡ Some k
    pub holding : v.holds ≡ true → (word ≢ 0) × (seat ≡ holder) × ((p : Part E) × (v.parts ≡ p ∷ []) × (p.seen ≡ history))

-- a state of this key with this history
pub record IsStateOf {S K E : Type 0} (key : S → K) (entries : S → List E) (fits : S → Type 0) (k : K) (history : List E) (x : S) : Type 0 where
  pub fit : fits x
  pub key_is : key x ≡ k
  pub entries_are : entries x ≡ history

module _ {S K E : Type 0} where
  abbrev pub word_of : State (Option S) (SeatView K E) → ℕ
  word_of s = slice_index s.words place

module _ {K E : Type 0} where
  abbrev pub HoldsAt : List (SeatView K E) → ℕ → Type 0
  HoldsAt views seat = (v : SeatView K E) × (get_elem? views seat ≡ some v) × (v.holds ≡ true)

-- At word 0 the state lies in the slot, fits, has the lock's key, and its entries are the history. At any other word
-- one seat holds it, with one pass, which has seen the whole history. Each tag has one seat, so no two passes have one
-- tag. What each pass has seen begins the history, and its own entries are all of its tag.
pub record LockRule {S K E : Type 0} (tag_of : E → ℕ) (key : S → K) (entries : S → List E) (fits : S → Type 0) (k : K) (passes : ℕ) (s : State (Option S) (SeatView K E)) : Type 0 where
  pub history : List E
  pub seat_of : ℕ → ℕ
  pub holder : ℕ
  pub word_room : length s.words ≡ room
  pub slot_room : length s.homes ≡ room
  pub free : word_of s ≡ 0 → (x : S) × (get_elem? s.homes place ≡ some (some (Some x))) × IsStateOf key entries fits k history x
  pub taken : word_of s ≢ 0 → HoldsAt s.views holder
  pub views : (seat : ℕ) (v : SeatView K E) → get_elem? s.views seat ≡ some v → SeatAgrees tag_of k passes history seat_of (word_of s) holder seat v
