-- Which journal a text is under a plan, and which line is its first fault.
use Rattle.std.specs.Prelude.{◌≡◌, ℕ, List, [], ◌∷◌, ◌++◌, map, Bool, true, false, ◌&&◌, ◌==◌, Option, Some, None, Result, Ok, Err, if◌then◌else◌, codes, ◌⊎◌}
use Rattle.std.specs.Option.{ok_or}
use Rattle.std.specs.Str.{bytes_eq}
use Rattle.office_map.specs.PlanValue.{PlanValue, office_named}
use Rattle.text_lines.specs.Text.{name_of, number_of, statements, plain_words}
use Rattle.office_map.specs.PlanText.{and_then}
use Rattle.office_journal.specs.declared.event.Entry.{Entry}
use Rattle.journal_texts.specs.declared.fault.JournalRule.{JournalRule}
use Rattle.journal_texts.specs.declared.fault.JournalRule.TheVariants.{Journal, JournalHeader}
use Rattle.journal_texts.specs.declared.fault.JournalRefusal.{JournalRefusal}
use Rattle.journal_texts.specs.declared.fault.JournalFault.{JournalFault}
use Rattle.journal_texts.specs.declared.fault.JournalFault.TheVariants.{Refused, Memory}
use Rattle.journal_texts.specs.Lines.{Said, said_of, IsEntry, HasNoFrame}

-- ---- the first line

-- a run and an office's name
abbrev pub run_and_name : Option ℕ → Option (List ℕ) → Option (ℕ × List ℕ)
run_and_name None name = None
run_and_name (Some run) None = None
run_and_name (Some run) (Some name) = Some (run, name)

-- journal 1 run N office NAME
abbrev pub header_said : List (List ℕ) → Option (ℕ × List ℕ)
header_said (journal ∷ one ∷ run ∷ number ∷ office ∷ name ∷ []) =
    if (bytes_eq journal (codes "journal") && bytes_eq one (codes "1")) && (bytes_eq run (codes "run") && bytes_eq office (codes "office")) then run_and_name (number_of number) (name_of name) else None
header_said words = None

-- the office of that name, where the run is the plan's
abbrev pub office_of_header : PlanValue → Option (ℕ × List ℕ) → Result ℕ JournalRule
office_of_header p None = Err Journal
office_of_header p (Some h) = if h.0 == p.run then ok_or (office_named p h.1) JournalHeader else Err JournalHeader

-- whose journal it is, by its first line
abbrev pub header_of : PlanValue → List ℕ → Result ℕ JournalRule
header_of p line = office_of_header p (and_then (plain_words line) header_said)

-- ---- the lines after it

-- each line says something, and this is it, in order
abbrev pub AreSaid : PlanValue → List (ℕ × List ℕ) → List Said → Type 0
AreSaid p lines said = map (λ l. said_of p l.1) lines ≡ map Some said

-- These are the entries that are said, up to the first of which the bytes spell no frame; and whether there is no such one, so
-- that the journal ends with them.
abbrev pub AreEntries : List Said → List Entry → Bool → Type 0
AreEntries [] [] ends = ends ≡ true
AreEntries [] (x ∷ xs) ends = ⊥
AreEntries (s ∷ more) [] ends = HasNoFrame s × (ends ≡ false)
AreEntries (s ∷ more) (x ∷ xs) ends = IsEntry s x × AreEntries more xs ends

-- the entries of these lines, up to the first of which the bytes spell no frame
pub record HaveEntries (p : PlanValue) (lines : List (ℕ × List ℕ)) (entries : List Entry) (ends : Bool) : Type 0 where
  pub said : List Said
  pub each : AreSaid p lines said
  pub entered : AreEntries said entries ends

-- the text is the journal of that office with these entries, and ends with them or not
pub record IsJournal (p : PlanValue) (text : List ℕ) (office : ℕ) (entries : List Entry) (ends : Bool) : Type 0 where
  pub first : ℕ × List ℕ
  pub rest : List (ℕ × List ℕ)
  pub lines : statements text ≡ first ∷ rest
  pub header : header_of p first.1 ≡ Ok office
  pub entered : HaveEntries p rest entries ends

-- ---- faults

-- the line with this number says nothing, and each line before it something
pub record IsFirstFault (p : PlanValue) (lines : List (ℕ × List ℕ)) (number : ℕ) : Type 0 where
  pub before : List (ℕ × List ℕ)
  pub line : List ℕ
  pub after : List (ℕ × List ℕ)
  pub said : List Said
  pub split : lines ≡ before ++ (number, line) ∷ after
  pub good : AreSaid p before said
  pub faulty : said_of p line ≡ None

-- a line is faulty
abbrev pub RefusesLine : PlanValue → List (ℕ × List ℕ) → JournalRefusal → Type 0
RefusesLine p lines r = (r.rule ≡ Journal) × IsFirstFault p lines r.line

-- there is no first line; or it is at fault; or it is a header, and a line after it is faulty
abbrev pub RefusesLines : PlanValue → List (ℕ × List ℕ) → JournalRefusal → Type 0
RefusesLines p [] r = r ≡ record { rule = Journal; line = 0 }
RefusesLines p (first ∷ rest) r = ((header_of p first.1 ≡ Err r.rule) × (r.line ≡ first.0)) ⊎ ((office : ℕ) × (header_of p first.1 ≡ Ok office) × RefusesLine p rest r)

-- so it is of a text's lines that say something
abbrev pub RefusesJournal : PlanValue → List ℕ → JournalRefusal → Type 0
RefusesJournal p text r = RefusesLines p (statements text) r

-- the text is refused so; where memory ran out, nothing is said
abbrev pub IsFaultOf : PlanValue → List ℕ → JournalFault → Type 0
IsFaultOf p text (Refused r) = RefusesJournal p text r
IsFaultOf p text Memory = Unit {0}

-- ---- laws

-- a text is the journal of one office at most, with one list of entries
pub record IsSame (office office' : ℕ) (entries entries' : List Entry) (ends ends' : Bool) : Type 0 where
  pub offices : office ≡ office'
  pub lists : entries ≡ entries'
  pub ways : ends ≡ ends'

-- so it is of every text
abbrev pub ATextIsOneJournal : Type 0
ATextIsOneJournal =
    (p : PlanValue) (text : List ℕ) (office office' : ℕ) (entries entries' : List Entry) (ends ends' : Bool) → IsJournal p text office entries ends → IsJournal p text office' entries' ends'
    → IsSame office office' entries entries' ends ends'

-- and one with a fault is none
abbrev pub AFaultyTextIsNoJournal : Type 0
AFaultyTextIsNoJournal = (p : PlanValue) (text : List ℕ) (r : JournalRefusal) (office : ℕ) (entries : List Entry) (ends : Bool) → RefusesJournal p text r → IsJournal p text office entries ends → ⊥
