-- Journals whose texts are read and gathered one after another.
use Rattle.std.specs.Prelude.{◌≡◌, ◌+◌, ℕ, List, [], ◌∷◌, ◌++◌, length, take, Option, None, Some, is_some, if◌then◌else◌}
use Rattle.std.specs.String.{string_bytes}
use Rattle.std.specs.Io.KnownBytes.{Appends}
use Rattle.host_files.specs.inputs.Words.{HasText, HaveTexts, Unread}
use Rattle.office_map.specs.PlanValue.{PlanValue}
use Rattle.journal_texts.specs.wording.Words.{office_name}
use Rattle.session_reports.specs.declared.form.forms.Form.{Form}
use Rattle.frame_world.specs.Worlds.{World}
use Rattle.host_files.specs.outputs.Written.{KeepsFiles}
use Rattle.command_outputs.specs.Days.{WritesEnd}
use Rattle.command_outputs.specs.Journals.{File}
use Rattle.day_audits.specs.audit.Gathered.{Gathered}
use Rattle.day_audits.specs.audit.Following.{Gathers}
use Rattle.drink_commands.specs.Audit.{Audits, JudgesAudit, JudgesJournals, RefusesJournal}
use Rattle.command_outputs.specs.Fault.{IsFaultAt}
use Rattle.serial_command.specs.declared.reading.input.Input.TheVariants as inputs
use Rattle.command_outputs.specs.declared.fault.Fault.{Fault}
use Rattle.command_outputs.specs.declared.fault.Fault.TheVariants.{Memory, NoJournal}

-- it tells that no journal is of this office, or memory ran out
abbrev pub IsNamed : PlanValue → ℕ → Fault → Type 0
IsNamed p a Memory = Unit {0}
IsNamed p a (NoJournal name) = string_bytes name ≡ office_name p a
IsNamed p a _ = ⊥

module _ (files : List ℕ → Option (List ℕ)) (p : PlanValue) where
  -- the text of a word comes to those that are gathered
  abbrev pub TakesOne : Unread → List ℕ → Gathered → Unread → Gathered → Type 0
  TakesOne u word slots v filled = (text : List ℕ) (after : Unread) → HasText files u word text after
      → (v ≡ after) × ((before : List (List ℕ)) → Gathers p before slots → Gathers p (before ++ text ∷ []) filled)

  -- so do those of all these words
  abbrev pub TakesAll : Unread → List (List ℕ) → Gathered → Unread → Gathered → Type 0
  TakesAll u [] slots v filled = (v ≡ u) × (filled ≡ slots)
  TakesAll u (word ∷ words) slots v filled = (mid : Unread) × (more : Gathered) × TakesOne u word slots mid more × TakesAll mid words more v filled

  -- the text of a word is refused as the one at that place, after those that are gathered
  abbrev pub RefusesOne : Unread → List ℕ → ℕ → Gathered → Fault → Type 0
  RefusesOne u word place slots why = (text : List ℕ) (after : Unread) → HasText files u word text after
      → (before rest : List (List ℕ)) → Gathers p before slots → length before ≡ place → RefusesJournal p (before ++ text ∷ rest) place why

  -- a fault says what is so of the text of a word, as the one at that place
  abbrev pub SaysOne : Unread → List ℕ → ℕ → Gathered → Fault → Type 0
  SaysOne u word place slots = IsFaultAt (inputs.Journal place) (RefusesOne u word place slots)

  -- it says what is so of the texts of these words, whichever are known, of which the first is the one at that place
  abbrev pub SaysJournals : Unread → List (List ℕ) → ℕ → Gathered → Fault → Type 0
  SaysJournals u words place slots f = (before : List (List ℕ)) → Gathers p before slots → length before ≡ place
      → (texts : List (List ℕ)) (n : ℕ) → HaveTexts files u (take n words) (take n texts) → JudgesJournals p (place + length words) (before ++ take n texts) f

  -- the same of all journals
  abbrev pub SaysFrom : Unread → List (List ℕ) → Fault → Type 0
  SaysFrom u words f = (texts : List (List ℕ)) (n : ℕ) → HaveTexts files u (take n words) (take n texts) → JudgesJournals p (length words) (take n texts) f

  -- the texts of the first of these words, whichever are known, are gathered
  abbrev pub GathersFirst : Unread → List (List ℕ) → Type 0
  GathersFirst u words = (texts : List (List ℕ)) (n : ℕ) → HaveTexts files u (take n words) (take n texts) → (slots : Gathered) × Gathers p (take n texts) slots

-- what a world leaves for the next day was written, where there is one; and otherwise nothing
abbrev pub WritesFound : (next unfinished : Option (List ℕ)) → Option World → (kept left : Option (List File)) → Type 0
WritesFound next unfinished None kept left = KeepsFiles kept left
WritesFound next unfinished (Some w) kept left = WritesEnd next unfinished w kept left

module _ (files : List ℕ → Option (List ℕ)) where
  -- a fault says what is so of the texts of these words, a plan's and journals', whichever are known
  abbrev pub SaysAudit : Unread → List ℕ → List (List ℕ) → Fault → Type 0
  SaysAudit u plan words f = (texts : List (List ℕ)) (n : ℕ) → HaveTexts files u (take n (plan ∷ words)) (take n texts) → JudgesAudit (length words) (take n texts) f

  -- who writes these bytes, with the status of journals that are woven or not, and then what their world leaves, if there is one, writes
  -- what the texts of these words tell
  abbrev pub TellsAudit : Form → Unread → List ℕ → List (List ℕ) → Option World → List ℕ → Type 0
  TellsAudit form u plan words found printed = (text : List ℕ) (texts : List (List ℕ)) → HaveTexts files u (plan ∷ words) (text ∷ texts)
      → (next unfinished : Option (List ℕ)) (status : ℕ) (old new : Option (List ℕ)) (kept left : Option (List File))
      → status ≡ (if is_some found then 0 else 1) → Appends old new printed → WritesFound next unfinished found kept left → Audits form text texts next unfinished status old new kept left
