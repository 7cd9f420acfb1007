-- What the command `audit` writes, and what its faults say.
use Rattle.std.specs.Prelude.{◌≡◌, ◌⊎◌, ◌-◌, ◌<◌, ℕ, zero, suc, List, [], ◌∷◌, length, take, Option}
use Rattle.std.specs.String.{string_bytes}
use Rattle.std.specs.Io.KnownBytes.{Appends}
use Rattle.host_files.specs.inputs.Words.{HaveFirstTexts}
use Rattle.office_map.specs.PlanValue.{PlanValue}
use Rattle.journal_texts.specs.wording.Words.{office_name}
use Rattle.session_reports.specs.declared.form.forms.Form.{Form}
use Rattle.journal_texts.specs.declared.fault.JournalFault.TheVariants as journal
use Rattle.frame_world.specs.Worlds.{World}
use Rattle.host_files.specs.outputs.Written.{KeepsFiles}
use Rattle.command_outputs.specs.Days.{WritesEnd}
use Rattle.command_outputs.specs.Journals.{File}
use Rattle.journal_weave.specs.declared.given.GivenJournal.{GivenJournal}
use Rattle.day_audits.specs.audit.Gathering.{AreGathered, AreJournals, IsRefusedAt, Lacks}
use Rattle.day_audits.specs.audit.Findings.{TellsWoven, TellsUnwoven}
use Rattle.day_audits.specs.declared.audit.fault.GatherFault.{GatherFault}
use Rattle.day_audits.specs.declared.audit.fault.GatherFault.TheVariants as gather
use Rattle.serial_command.specs.reading.Plans.{IsAcceptedAs}
use Rattle.command_outputs.specs.Fault.{IsAmong, IsFaultAt, IsNoJournal}
use Rattle.drink_commands.specs.Texts.{Refuses, nothing}
use Rattle.serial_command.specs.declared.reading.input.Input.{Input}
use Rattle.serial_command.specs.declared.reading.input.Input.TheVariants as inputs
use Rattle.command_outputs.specs.declared.fault.Why.TheVariants.{Journal, Twice}
use Rattle.command_outputs.specs.declared.fault.Fault.{Fault}
use Rattle.command_outputs.specs.declared.fault.Fault.TheVariants.{NoJournal, Refused}

-- so many journals, from the one at that place on
abbrev pub journal_inputs : ℕ → ℕ → List Input
journal_inputs place zero = []
journal_inputs place (suc n) = inputs.Journal place ∷ journal_inputs (suc place) n

-- ---- what is written

-- The report of the world whose record the journals are, and what that leaves for the next day was written, where words name files for it;
-- the exit status is 0. Or the line of an entry that no schedule has, and no file; and it is 1.
abbrev pub Tells : Form → (next unfinished : Option (List ℕ)) → PlanValue → List GivenJournal → List ℕ → ℕ → (kept left : Option (List File)) → Type 0
Tells form next unfinished p journals printed status kept left =
    ((w : World) × TellsWoven form w p journals printed × (status ≡ 0) × WritesEnd next unfinished w kept left)
    ⊎ (TellsUnwoven form p journals printed × (status ≡ 1) × KeepsFiles kept left)

-- The texts mean a plan and a journal of each of its offices, in any order, and what these tell together was written, in that form,
-- after what the writer held.
pub record Audits (form : Form) (plan : List ℕ) (texts : List (List ℕ)) (next unfinished : Option (List ℕ)) (status : ℕ) (old new : Option (List ℕ)) (kept left : Option (List File)) : Type 0 where
  pub p : PlanValue
  pub journals : List GivenJournal
  pub printed : List ℕ
  pub is_plan : IsAcceptedAs plan p
  pub are_journals : AreJournals p texts journals
  pub told : Tells form next unfinished p journals printed status kept left
  pub written : Appends old new printed

-- ---- what a fault says

-- a text that isn't gathered is refused so
abbrev pub IsToldAs : GatherFault → Fault → Type 0
IsToldAs (gather.Unread (journal.Refused refusal)) (Refused (Journal place told) said) = told ≡ refusal
IsToldAs (gather.Twice office) (Refused (Twice place) said) = Unit {0}
IsToldAs fault f = ⊥

-- of these texts the one at that place is the first that isn't gathered, and it is refused so
abbrev pub RefusesJournal : PlanValue → List (List ℕ) → ℕ → Fault → Type 0
RefusesJournal p texts place f = (fault : GatherFault) × IsRefusedAt p texts place fault × IsToldAs fault f

-- all are gathered, and it tells the name of an office of which there is none
abbrev pub IsLacking : PlanValue → List (List ℕ) → Fault → Type 0
IsLacking p texts (NoJournal name) = (a : ℕ) × Lacks p texts a × (string_bytes name ≡ office_name p a)
IsLacking p texts f = ⊥

-- what it says where these texts are gathered, and those inputs come after them
abbrev pub SaysAfter : PlanValue → List (List ℕ) → List Input → Fault → Type 0
SaysAfter p texts [] f = IsAmong [] f ⊎ IsLacking p texts f
SaysAfter p texts (input ∷ asked) f = IsAmong (input ∷ asked) f ⊎ IsNoJournal f

-- What it says of so many journals, of which the texts of the first are given: one of these is refused, and those before it are
-- gathered; or they are all gathered, and it comes later.
abbrev pub JudgesJournals : PlanValue → ℕ → List (List ℕ) → Fault → Type 0
JudgesJournals p count texts f =
    ((place : ℕ) × (place < length texts) × IsFaultAt (inputs.Journal place) (RefusesJournal p texts place) f)
    ⊎ ((journals : List (Option GivenJournal)) × AreGathered p texts journals × SaysAfter p texts (journal_inputs (length texts) (count - length texts)) f)

-- the same of the plan and so many journals: the plan is judged first
abbrev pub JudgesAudit : ℕ → List (List ℕ) → Fault → Type 0
JudgesAudit count [] f = IsAmong (inputs.Plan ∷ journal_inputs 0 count) f ⊎ IsNoJournal f
JudgesAudit count (text ∷ texts) f =
    IsFaultAt inputs.Plan (Refuses nothing text) f ⊎ ((p : PlanValue) × IsAcceptedAs text p × JudgesJournals p count texts f)

-- of the words of the command, whichever of their texts are known
abbrev pub IsJudgedAudit : (List ℕ → Option (List ℕ)) → Option (List ℕ) → List ℕ → List (List ℕ) → Fault → Type 0
IsJudgedAudit files standard plan words f = (texts : List (List ℕ)) (n : ℕ) → HaveFirstTexts files standard (plan ∷ words) texts n
    → JudgesAudit (length words) (take n texts) f
