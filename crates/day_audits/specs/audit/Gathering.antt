-- Which texts are the journals of a plan's offices, and which of them is refused.
use Rattle.std.specs.Prelude.{◌≡◌, ◌<◌, ℕ, Bool, List, ◌∷◌, ◌++◌, length, map, get_or, Option, None, Some, Contains, IsPermutation, filter_map}
use Rattle.office_map.specs.PlanValue.{PlanValue}
use Rattle.office_journal.specs.declared.event.Entry.{Entry}
use Rattle.journal_texts.specs.JournalText.{IsJournal, IsFaultOf}
use Rattle.journal_weave.specs.declared.given.GivenJournal.{GivenJournal}
use Rattle.day_audits.specs.declared.audit.fault.GatherFault.{GatherFault}
use Rattle.day_audits.specs.declared.audit.fault.GatherFault.TheVariants.{Unread, Twice}

-- the text is a journal of that office
pub record IsOf (p : PlanValue) (text : List ℕ) (office : ℕ) : Type 0 where
  pub entries : List Entry
  pub ends : Bool
  pub journal : IsJournal p text office entries ends

-- of an office nothing is there; or a text, and the journal that it is
abbrev pub IsGiven : PlanValue → ℕ → Option (List ℕ) → Option GivenJournal → Type 0
IsGiven p office None None = Unit {0}
IsGiven p office None (Some j) = ⊥
IsGiven p office (Some text) None = ⊥
IsGiven p office (Some text) (Some j) = IsJournal p text office j.entries.items j.ends

-- those that are there
abbrev pub present : List (Option (List ℕ)) → List (List ℕ)
present texts = filter_map (λ text. text) texts

-- Of each office one of these texts is there at most, with the journal that it is, and all of them are, whatever their order.
pub record AreGathered (p : PlanValue) (texts : List (List ℕ)) (journals : List (Option GivenJournal)) : Type 0 where
  pub by_office : List (Option (List ℕ))
  pub same : IsPermutation (present by_office) texts
  pub texts_for : length by_office ≡ length p.offices
  pub journals_for : length journals ≡ length p.offices
  pub given : (office : ℕ) → IsGiven p office (get_or by_office office None) (get_or journals office None)

-- the texts, in some order, are the journals of all offices, which are these in order of number
abbrev pub AreJournals : PlanValue → List (List ℕ) → List GivenJournal → Type 0
AreJournals p texts journals = AreGathered p texts (map Some journals)

-- ---- refusals

-- one of the texts is a journal of the office
abbrev pub HaveOne : PlanValue → List (List ℕ) → ℕ → Type 0
HaveOne p texts office = (text : List ℕ) × Contains texts text × IsOf p text office

-- the text that comes after these is refused: for what it says; or since one of them is of its office too
abbrev pub IsRefused : PlanValue → List (List ℕ) → List ℕ → GatherFault → Type 0
IsRefused p before text (Unread fault) = IsFaultOf p text fault
IsRefused p before text (Twice office) = IsOf p text office × HaveOne p before office

-- the text at this place, from 0, is the first that is refused: those before it are gathered
pub record IsRefusedAt (p : PlanValue) (texts : List (List ℕ)) (place : ℕ) (fault : GatherFault) : Type 0 where
  pub before : List (List ℕ)
  pub text : List ℕ
  pub after : List (List ℕ)
  pub split : texts ≡ before ++ text ∷ after
  pub at : place ≡ length before
  pub journals : List (Option GivenJournal)
  pub gathered : AreGathered p before journals
  pub refused : IsRefused p before text fault

-- all are gathered, and the office is the least of which there is none
pub record Lacks (p : PlanValue) (texts : List (List ℕ)) (office : ℕ) : Type 0 where
  pub journals : List (Option GivenJournal)
  pub gathered : AreGathered p texts journals
  pub of_plan : office < length p.offices
  pub lacking : HaveOne p texts office → ⊥
  pub before : (a : ℕ) → a < office → HaveOne p texts a
