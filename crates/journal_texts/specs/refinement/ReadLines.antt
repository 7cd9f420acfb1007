-- What the reader holds of a line, and of the lines so far.
use Rattle.std.specs.Prelude.{◌≡◌, ◌≤◌, ℕ, List, [], ◌∷◌, ◌++◌, length, Bool, true, false, Option, Some, None}
use Rattle.office_map.specs.PlanValue.{PlanValue}
use Rattle.office_journal.specs.declared.event.Entry.{Entry}
use Rattle.journal_texts.specs.declared.fault.JournalFault.{JournalFault}
use Rattle.journal_texts.specs.declared.fault.JournalFault.TheVariants.{Refused, Memory}
use Rattle.journal_texts.specs.Lines.{Said, IsEntry, HasNoFrame}
use Rattle.journal_texts.specs.JournalText.{HaveEntries, RefusesLine}

-- what is told of a line: its entry; or that there is none, since the digits of its frame spell none
pub data Told : Type 0 where
  AnEntry : (x : Entry) → Told
  NoFrame : Told

-- an entry is what is said; or that there is none is
abbrev pub Means : Said → Told → Type 0
Means s (AnEntry x) = IsEntry s x
Means s NoFrame = HasNoFrame s

-- what was read of a line that says this, or says nothing
abbrev pub Reads : Option Said → Option Told → Type 0
Reads None None = Unit {0}
Reads None (Some t) = ⊥
Reads (Some s) None = ⊥
Reads (Some s) (Some t) = Means s t

-- the entries, and whether they still go on, with one line more
abbrev pub Adds : Bool → List Entry → Told → Bool → List Entry → Type 0
Adds true xs (AnEntry x) more ys = (more ≡ true) × (ys ≡ xs ++ x ∷ [])
Adds false xs (AnEntry x) more ys = (more ≡ false) × (ys ≡ xs)
Adds true xs NoFrame more ys = (more ≡ false) × (ys ≡ xs)
Adds false xs NoFrame more ys = (more ≡ false) × (ys ≡ xs)

-- with one line more the entries, and whether they still go on, are such that this holds
abbrev pub GoOn : Bool → List Entry → Told → Bool → (List Entry → Bool → Type 0) → Type 0
GoOn ends xs t more holds = (ys : List Entry) × Adds ends xs t more ys × holds ys more

-- A line that says this was told to who holds the first before, and the second after: the entries, with whether they go on. Whether they
-- do after it, or that it says nothing.
abbrev pub Tells : Option Said → Bool → (PlanValue → ℕ → List Entry → Bool → Type 0) → (PlanValue → ℕ → List Entry → Bool → Type 0) → Option Bool → Type 0
Tells said goes_on before after None = Reads said None
Tells said goes_on before after (Some more) = (t : Told) × Reads said (Some t) × ((p : PlanValue) (office : ℕ) (entries : List Entry) → before p office entries goes_on → GoOn goes_on entries t more (after p office))

-- these lines have entries, no more than so many, of which this holds, and of whether the journal ends with them
pub record AreTold (p : PlanValue) (lines : List (ℕ × List ℕ)) (most : ℕ) (holds : List Entry → Bool → Type 0) : Type 0 where
  pub entries : List Entry
  pub ends : Bool
  pub have : HaveEntries p lines entries ends
  pub few : length entries ≤ most
  pub held : holds entries ends

-- a fault of these lines
abbrev pub IsLineFault : PlanValue → List (ℕ × List ℕ) → JournalFault → Type 0
IsLineFault p lines (Refused r) = RefusesLine p lines r
IsLineFault p lines Memory = Unit {0}
