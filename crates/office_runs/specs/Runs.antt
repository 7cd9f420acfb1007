-- What is told of offices that ran.
use Rattle.std.specs.Prelude.{◌≡◌, ◌-◌, ℕ, Bool, true, false, None, List, [], ◌∷◌, ◌++◌, length, map, All}
use Rattle.std.specs.List.{flat_map}
use Rattle.std.specs.String.{string_bytes}
use Rattle.office_map.specs.PlanValue.{PlanValue}
use Rattle.session_meaning.specs.ProgramValue.{ProgramValue}
use Rattle.session_meaning.specs.declared.ending.Outcome.{Outcome}
use Rattle.site_core.specs.Journals.{Site, IsLegal}
use Rattle.locked_office.specs.Calls.{Key, DeskPass, Looks, office_with}
use Rattle.session_reports.specs.form.Forms.{outcome_as, unfinished_as}
use Rattle.session_reports.specs.declared.form.forms.Form.{Form}
use Rattle.journal_texts.specs.JournalText.{IsJournal}
use Rattle.journal_texts.specs.Written.{journal_text}
use Rattle.socket_pump.specs.Wires.{Account}
use Rattle.office_stations.specs.declared.turning.Turning.TheVariants.{Plain}
use Rattle.office_stations.specs.Rounds.{Standing, Goes, of_office}
use Rattle.office_stations.specs.Sessions.{count_of, finished_of}
use Rattle.office_runs.specs.declared.report.Ran.{Ran}

-- the finished sessions of several offices, one office after the other
abbrev pub all_finished : List Site → List Outcome
all_finished = flat_map finished_of

-- the lines of the sessions that finished, and how many haven't
abbrev pub runs_report : Form → PlanValue → List Site → ℕ → List ℕ
runs_report form p sites n = flat_map (outcome_as form p) (all_finished sites) ++ unfinished_as form n

abbrev pub key_of : Site → Key
key_of s = (s.plan, s.me)

-- nothing is said for people where all sessions finished and no fault ended the run
abbrev pub IsQuiet : Ran → Type 0
IsQuiet ran = ran.unfinished ≡ 0 → ran.fault ≡ None → string_bytes ran.remarks ≡ []

-- the text of an office's journal
abbrev pub text_of : Site → List ℕ
text_of s = journal_text s.plan s.me s.entries

-- which is read as that journal
abbrev pub IsReadBack : Site → Type 0
IsReadBack s = IsJournal s.plan (text_of s) s.me s.entries true

-- Where they are wanted, the texts are those of the journals of these offices, in this order, and each is read as its journal; else there is none.
abbrev pub HasJournals : Bool → List Site → List (List ℕ) → Type 0
HasJournals true sites texts = (texts ≡ map text_of sites) × All IsReadBack sites
HasJournals false sites texts = texts ≡ []

-- What is told of offices with these keys, in this order, is what legal journals of theirs tell: which sessions finished, and how many of so many haven't; and, where they are wanted, these journals.
pub record TellsOffices (form : Form) (p : PlanValue) (keys : List Key) (sessions : ℕ) (wanted : Bool) (ran : Ran) : Type 0 where
  pub sites : List Site
  pub are : map key_of sites ≡ keys
  pub legal : All IsLegal sites
  pub left : ran.unfinished ≡ sessions - length (all_finished sites)
  pub told : string_bytes ran.text ≡ runs_report form p sites ran.unfinished
  pub journals : HasJournals wanted sites (map string_bytes ran.journals.items)

-- so it is of these offices of the plan
abbrev pub TellsJournals : Form → PlanValue → List ℕ → ℕ → Bool → Ran → Type 0
TellsJournals form p offices = TellsOffices form p (map (λ me. (p, me)) offices)

-- What is told of an office is what its journal tells, which is what came of so many rounds with its sessions of the
-- list, with nothing done and nothing sent before, of fewer only where a fault ended one; and, where it is wanted, this
-- journal. What its socket tells at the end is as Is says.
pub record TellsCourse (Is : Account → Type 0) (form : Form) (tells : Bool) (p : PlanValue) (me : ℕ) (programs : List ProgramValue) (turns : ℕ) (wanted : Bool) (ran : Ran) : Type 0 where
  pub first : Standing
  pub begins : (first.pass.tag ≡ 0) × (first.pass.seen ≡ []) × (first.pass.mine ≡ []) × ((v n : ℕ) → first.last v n ≡ None)
  pub last : Standing
  pub goes : Goes ran.fault Plain tells 0 (p, me) turns first last (of_office me programs)
  pub is : Is last.wire
  pub seen : DeskPass
  pub looked : Looks (p, me) last.pass seen
  pub left : ran.unfinished ≡ count_of programs me - length (finished_of (office_with (p, me) seen.seen))
  pub told : string_bytes ran.text ≡ runs_report form p (office_with (p, me) seen.seen ∷ []) ran.unfinished
  pub journals : HasJournals wanted (office_with (p, me) seen.seen ∷ []) (map string_bytes ran.journals.items)
