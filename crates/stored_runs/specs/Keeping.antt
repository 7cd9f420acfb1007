-- What is kept of a store: the journal that it has, and which sessions are left.
use Rattle.std.specs.Prelude.{◌≡◌, ◌≢◌, ◌⊎◌, ◌<◌, ◌≤◌, ◌-◌, ℕ, List, [], ◌∷◌, ◌++◌, false, true, length, take, drop, slice_get}
use Rattle.std.specs.List.{flat_map}
use Rattle.office_map.specs.PlanValue.{PlanValue}
use Rattle.session_meaning.specs.ProgramValue.{ProgramValue}
use Rattle.office_journal.specs.declared.event.Event.{Event}
use Rattle.office_journal.specs.declared.event.Event.TheVariants.{Submit}
use Rattle.office_journal.specs.declared.event.Entry.{Entry}
use Rattle.site_core.specs.Journals.{Site, IsLegal}
use Rattle.journal_texts.specs.JournalText.{IsJournal}
use Rattle.journal_texts.specs.Written.{journal_text}
use Rattle.journal_texts.specs.Growing.{has_end, IsCutAfterLines}
use Rattle.site_core.specs.Reopening.{site_with}
use Rattle.office_stations.specs.Rounds.{of_office}
use Rattle.stored_runs.specs.declared.fault.KeptFault.{KeptFault}
use Rattle.stored_runs.specs.declared.fault.KeptFault.TheVariants.{Memory, Faulty, OtherSessions}

-- an office as its store has it: its journal, how many bytes of the store are that, and the place in the list of a run's sessions from which on its own are left
pub record Keeping : Type 0 where
  pub site : Site
  pub bytes : ℕ
  pub next : ℕ

-- ---- the journal

-- the text of an office's journal with these entries; or there is none yet, and no entry
abbrev pub HasText : PlanValue → ℕ → List ℕ → List Entry → Type 0
HasText p me text entries = ((text ≡ []) × (entries ≡ [])) ⊎ (text ≡ journal_text p me entries)

-- Of what was found in the store of this office the first bytes are the text of its journal, which is legal, and in the rest no line ends.
pub record IsFound (p : PlanValue) (me : ℕ) (found : List ℕ) (k : Keeping) : Type 0 where
  pub plan : k.site.plan ≡ p
  pub office : k.site.me ≡ me
  pub legal : IsLegal k.site
  pub within : k.bytes ≤ length found
  pub text : HasText p me (take k.bytes found) k.site.entries
  pub torn : has_end (drop k.bytes found) ≡ false

-- ---- the sessions

-- the session that an event submits
abbrev pub submitted_by : Event → List ProgramValue
submitted_by (Submit p) = p ∷ []
submitted_by e = []

-- the sessions that were submitted by these entries, in order
abbrev pub submitted : List Entry → List ProgramValue
submitted = flat_map (λ (e : Entry). submitted_by e.event)

-- Those that were submitted begin the office's of a list, and the others are those from this place of the list on.
abbrev pub LeavesFrom : ℕ → List ProgramValue → List Entry → ℕ → Type 0
LeavesFrom me programs entries next = submitted entries ++ of_office me (drop next programs) ≡ of_office me programs

-- ---- faults

-- no legal journal of this office is written as this text
abbrev pub IsNoText : PlanValue → ℕ → List ℕ → Type 0
IsNoText p me text = (entries : List Entry) → IsLegal (site_with p me entries) → IsJournal p text me entries true → text ≡ journal_text p me entries → ⊥

-- the t-th of the first list, from 1, isn't that of the second, and those before it are
pub record IsFirstOther (xs ys : List ProgramValue) (t : ℕ) : Type 0 where
  pub number : 0 < t
  pub within : t ≤ length xs
  pub before : take (t - 1) xs ≡ take (t - 1) ys
  pub other : slice_get xs (t - 1) ≢ slice_get ys (t - 1)

-- Why no office is found: the whole lines of what was found are the text of none of its journals.
abbrev pub IsNotFound : PlanValue → ℕ → List ℕ → KeptFault → Type 0
IsNotFound p me found Memory = Unit {0}
IsNotFound p me found (Faulty line why) = (whole rest : List ℕ) × IsCutAfterLines found whole rest × IsNoText p me whole
IsNotFound p me found (OtherSessions ticket) = ⊥

-- Why an office isn't gone on with from what was found: its whole lines are the text of none of its journals; or they are, and the sessions that it submitted are others than those of the list.
abbrev pub IsNotKept : PlanValue → ℕ → List ProgramValue → List ℕ → KeptFault → Type 0
IsNotKept p me programs found Memory = Unit {0}
IsNotKept p me programs found (Faulty line why) = (whole rest : List ℕ) × IsCutAfterLines found whole rest × IsNoText p me whole
IsNotKept p me programs found (OtherSessions ticket) = (k : Keeping) × IsFound p me found k × IsFirstOther (submitted k.site.entries) (of_office me programs) ticket
