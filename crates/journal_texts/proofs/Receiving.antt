-- What is told of a journal, line by line.
use Rattle.std.proofs.Common.{◌≡◌, ◌≤◌, ◌<◌, ◌+◌, ℕ, List, [], ◌∷◌, length, Bool, true, false, Option, Some, None, Result, Ok, Err, refl, sym, ap, subst, ◌∙◌, arith, length-append, inr}
use Rattle.std.specs.Prelude.{IfOk, IfErr}
use Rattle.office_map.specs.PlanValue.{PlanValue}
use Rattle.office_map.specs.PlanText.{and_then}
use Rattle.text_lines.specs.Text.{statements, plain_words}
use Rattle.office_journal.specs.declared.event.Entry.{Entry}
use Rattle.journal_texts.specs.declared.fault.JournalRule.{JournalRule}
use Rattle.journal_texts.specs.declared.fault.JournalFault.{JournalFault}
use Rattle.journal_texts.specs.declared.fault.JournalFault.TheVariants as fault
use Rattle.journal_texts.specs.declared.journal_text.JournalText.{JournalText}
use Rattle.journal_texts.specs.refinement.ReadLines as told
use Rattle.journal_texts.specs.Lines.{said_by}
use Rattle.journal_texts.specs.JournalText.{header_of, IsJournal, IsFirstFault, RefusesLines, IsFaultOf}
use Rattle.journal_texts.specs.Receiving.{IsReadAs}
use Rattle.journal_texts.specs.refinement.ReadLines.{Reads, Adds, GoOn, AreTold, IsLineFault, Told}
use Rattle.journal_texts.proofs.ReadLines.{said_is}
use Rattle.journal_texts.proofs.Journals.{Walked, none_read, further, all_read, is_faulty, is_journal}

-- what was told of the lines before the rest: no more entries than the bytes that went
pub record ToldSoFar (p : PlanValue) (all rest : List (ℕ × List ℕ)) (whole left : ℕ) (goes_on : Bool) (holds : List Entry → Bool → Type 0) : Type 0 where
  pub entries : List Entry
  pub walked : Walked p all rest entries goes_on
  pub few : length entries + left ≤ whole
  pub held : holds entries goes_on

pub told_none : (p : PlanValue) (all : List (ℕ × List ℕ)) (whole : ℕ) (holds : List Entry → Bool → Type 0) → holds [] true → ToldSoFar p all all whole whole true holds
told_none p all whole holds h = record { entries = []; walked = none_read p all; few = omega arith; held = h }

adds_one : (ends : Bool) (xs : List Entry) (t : Told) (more : Bool) (ys : List Entry) → Adds ends xs t more ys → length ys ≤ length xs + 1
adds_one true xs (told.AnEntry x) more ys a = omega (arith, ap length a.1, length-append xs (x ∷ []))
adds_one false xs (told.AnEntry x) more ys a = omega (arith, ap length a.1)
adds_one true xs told.NoFrame more ys a = omega (arith, ap length a.1)
adds_one false xs told.NoFrame more ys a = omega (arith, ap length a.1)

pub told_more : (p : PlanValue) (all rest after : List (ℕ × List ℕ)) (number : ℕ) (line : List ℕ) (words : Option (List (List ℕ))) (t : Told) (whole left left' : ℕ) (ends more : Bool) (holds holds' : List Entry → Bool → Type 0) → rest ≡ (number, line) ∷ after
    → words ≡ plain_words line → Reads (and_then words (said_by p)) (Some t) → ((xs : List Entry) → holds xs ends → GoOn ends xs t more holds') → left' < left → ToldSoFar p all rest whole left ends holds → ToldSoFar p all after whole left' more holds'
told_more p all rest after number line words t whole left left' ends more holds holds' first split reads goes less so =
    let g = goes so.entries so.held in
    record {
      entries = g.0;
      walked = further p all rest after number line t so.entries g.0 ends more first (subst (λ s. Reads s (Some t)) (said_is p line words split) reads) g.1 so.walked;
      few = omega (arith, adds_one ends so.entries t more g.0 g.1, so.few, less);
      held = g.2;
    }

pub told_all : (p : PlanValue) (all rest : List (ℕ × List ℕ)) (whole left : ℕ) (goes_on : Bool) (holds : List Entry → Bool → Type 0) → rest ≡ [] → ToldSoFar p all rest whole left goes_on holds → AreTold p all whole holds
told_all p all rest whole left goes_on holds none so = record { entries = so.entries; ends = goes_on; have = all_read p all rest so.entries goes_on none so.walked; few = omega (arith, so.few); held = so.held }

-- the next line says nothing
pub told_fault : (p : PlanValue) (all rest after : List (ℕ × List ℕ)) (number : ℕ) (line : List ℕ) (words : Option (List (List ℕ))) (whole left : ℕ) (goes_on : Bool) (holds : List Entry → Bool → Type 0) → rest ≡ (number, line) ∷ after
    → words ≡ plain_words line → Reads (and_then words (said_by p)) None → ToldSoFar p all rest whole left goes_on holds → IsFirstFault p all number
told_fault p all rest after number line words whole left goes_on holds first split reads so = is_faulty p all rest after number line so.entries goes_on first (subst (λ s. Reads s None) (said_is p line words split) reads) so.walked

-- ---- the whole text

pub read_as : (p : PlanValue) (text : List ℕ) (number office : ℕ) (line : List ℕ) (rest : List (ℕ × List ℕ)) (most : ℕ) (h : Result ℕ JournalRule) (holds : ℕ → List Entry → Bool → Type 0) → statements text ≡ (number, line) ∷ rest → h ≡ header_of p line → h ≡ Ok office
    → most ≤ length text → AreTold p rest most (holds office) → IsReadAs p text holds
read_as p text number office line rest most h holds first header is le told = record {
  office = office;
  entries = told.entries;
  ends = told.ends;
  journal = is_journal p text number office office line rest told.entries told.ends first (sym header ∙ is) refl told.have;
  few = omega (arith, told.few, le);
  held = told.held;
}

-- so it is of whoever was told, where a first line begins it, and the others are fewer bytes
pub all_told : {A : Type 0} (p : PlanValue) (text : List ℕ) (number office : ℕ) (line : List ℕ) (rest : List (ℕ × List ℕ)) (most : ℕ) (h : Result ℕ JournalRule) (r : Result A JournalFault) (holds : A → ℕ → List Entry → Bool → Type 0) → statements text ≡ (number, line) ∷ rest
    → h ≡ header_of p line → h ≡ Ok office → most ≤ length text → IfOk r (λ e. AreTold p rest most (holds e office)) → IfOk r (λ e. IsReadAs p text (holds e))
all_told p text number office line rest most h (Ok e) holds first header is le told = read_as p text number office line rest most h (holds e) first header is le told
all_told p text number office line rest most h (Err e) holds first header is le told = tt

pub fault_of : {A : Type 0} (p : PlanValue) (text : List ℕ) (number : ℕ) (line : List ℕ) (rest : List (ℕ × List ℕ)) (office : ℕ) (h : Result ℕ JournalRule) (r : Result A JournalFault) → statements text ≡ (number, line) ∷ rest → h ≡ header_of p line → h ≡ Ok office
    → IfErr r (IsLineFault p rest) → IfErr r (IsFaultOf p text)
fault_of p text number line rest office h (Ok j) first header is fault = tt
fault_of p text number line rest office h (Err fault.Memory) first header is bad = tt
fault_of p text number line rest office h (Err (fault.Refused r)) first header is bad = subst (λ ls. RefusesLines p ls r) (sym first) (inr (office, sym header ∙ is, bad))

-- ---- a journal as it is told to a list

abbrev Listed : JournalText → ℕ → List Entry → Bool → Type 0
Listed j office entries ends = (j.office ≡ office) × (j.entries.items ≡ entries) × (j.ends ≡ ends)

pub as_text : (p : PlanValue) (text : List ℕ) (r : Result JournalText JournalFault) → IfOk r (λ j. IsReadAs p text (Listed j)) → IfOk r (λ j. IsJournal p text j.office j.entries.items j.ends)
as_text p text (Err e) h = tt
as_text p text (Ok j) h =
    subst (λ o. IsJournal p text o j.entries.items j.ends) (sym h.held.0)
    (subst (λ xs. IsJournal p text h.office xs j.ends) (sym h.held.1)
    (subst (λ e. IsJournal p text h.office h.entries e) (sym h.held.2) h.journal))
