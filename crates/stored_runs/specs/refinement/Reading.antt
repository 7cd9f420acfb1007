-- What reading a store says of its parts.
use Rattle.std.specs.Prelude.{◌≡◌, ◌≢◌, ℕ, List}
use Rattle.office_journal.specs.declared.event.Entry.{Entry}
use Rattle.office_map.specs.PlanValue.{PlanValue}
use Rattle.site_core.specs.Journals.{Site, IsLegal}
use Rattle.stored_runs.specs.declared.fault.KeptFault.{KeptFault}
use Rattle.stored_runs.specs.declared.fault.KeptFault.TheVariants.{Memory, Faulty, OtherSessions}
use Rattle.journal_texts.specs.Written.{journal_text}
use Rattle.stored_runs.specs.Keeping.{HasText, IsNoText}

-- an office with a legal journal, of which this is the text
pub record IsOffice (p : PlanValue) (me : ℕ) (text : List ℕ) (s : Site) : Type 0 where
  pub plan : s.plan ≡ p
  pub office : s.me ≡ me
  pub legal : IsLegal s
  pub has : HasText p me text s.entries

-- this is the text of none, or memory ran out
abbrev pub IsNoOffice : PlanValue → ℕ → List ℕ → KeptFault → Type 0
IsNoOffice p me text Memory = Unit {0}
IsNoOffice p me text (Faulty line why) = IsNoText p me text
IsNoOffice p me text (OtherSessions ticket) = ⊥

-- it isn't the text of these entries, or memory ran out
abbrev pub IsOtherText : PlanValue → ℕ → List ℕ → List Entry → KeptFault → Type 0
IsOtherText p me text entries Memory = Unit {0}
IsOtherText p me text entries (Faulty line why) = text ≢ journal_text p me entries
IsOtherText p me text entries (OtherSessions ticket) = ⊥
