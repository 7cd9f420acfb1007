-- Which entries are the journal of an office, and which are not.
use Rattle.std.specs.Prelude.{◌≡◌, ℕ, ◌+◌, ◌<◌, List, length, take, Ok}
use Rattle.office_map.specs.PlanValue.{PlanValue}
use Rattle.office_journal.specs.declared.event.Entry.{Entry}
use Rattle.site_core.specs.Journals.{Site, noted, step, IsLegal}
use Rattle.site_core.specs.declared.fault.ReopenFault.{ReopenFault}
use Rattle.site_core.specs.declared.fault.ReopenFault.TheVariants as fault

-- the office of that number, with this journal
abbrev pub site_with : PlanValue → ℕ → List Entry → Site
site_with plan me entries = record { plan = plan; me = me; entries = entries }

-- the office accepts the event of an entry under this tag, with the entry's reply
abbrev pub GivesAs : ℕ → Site → Entry → Type 0
GivesAs tag s x = step s tag x.event ≡ (Ok x.reply, noted s tag x.event x.reply)

-- the first n entries are its journal, and no journal begins with one more of them
pub record IsCutAt (plan : PlanValue) (me : ℕ) (entries : List Entry) (n : ℕ) : Type 0 where
  pub within : n < length entries
  pub before : IsLegal (site_with plan me (take n entries))
  pub next : IsLegal (site_with plan me (take (n + 1) entries)) → ⊥
  pub whole : IsLegal (site_with plan me entries) → ⊥

-- why an office isn't opened again: the entries are the journal of none, or memory ran out
abbrev pub IsNoJournal : PlanValue → ℕ → List Entry → ReopenFault → Type 0
IsNoJournal plan me entries (fault.NotGiven n) = IsCutAt plan me entries n
IsNoJournal plan me entries fault.Memory = Unit {0}
