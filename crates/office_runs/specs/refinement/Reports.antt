-- What is told of offices, one after the other.
use Rattle.std.specs.Prelude.{◌≡◌, ◌<◌, ℕ, Bool, true, false, List, [], ◌∷◌, ◌++◌, length, All}
use Rattle.std.specs.List.{flat_map}
use mathlib.Core.List.{IsPrefix}
use Rattle.office_map.specs.PlanValue.{PlanValue}
use Rattle.office_journal.specs.declared.event.Entry.{Entry}
use Rattle.site_core.specs.Journals.{Site, IsLegal}
use Rattle.own_lock.specs.Entries.{tagged}
use Rattle.locked_office.specs.Calls.{Key, tag_of}
use Rattle.session_reports.specs.form.Forms.{outcome_as}
use Rattle.session_reports.specs.declared.form.forms.Form.{Form}
use Rattle.office_stations.specs.Sessions.{finished_of}
use Rattle.office_runs.specs.Runs.{text_of, key_of, IsReadBack}

-- the lines so far, whether journals are wanted, and their texts so far
pub record Told : Type 0 where
  pub lines : List ℕ
  pub wanted : Bool
  pub texts : List (List ℕ)

-- nothing yet
abbrev pub none_told : Bool → Told
none_told wanted = record { lines = []; wanted = wanted; texts = [] }

-- the text of one more journal, where it is wanted
abbrev pub AddsJournal : Bool → Site → List (List ℕ) → List (List ℕ) → Type 0
AddsJournal true s before after = (after ≡ before ++ text_of s ∷ []) × IsReadBack s
AddsJournal false s before after = after ≡ before

-- One more office is told by a legal journal of it, and so many of its sessions have finished. Each entry there has the tag 0 or 1; those with 0 are all that the pass of who turned it added, and those with 1 a beginning of what the other one did.
pub record AddsOffice (form : Form) (p : PlanValue) (k : Key) (worker client : List Entry) (before after : Told) (n : ℕ) : Type 0 where
  pub site : Site
  pub key : key_of site ≡ k
  pub legal : IsLegal site
  pub count : n ≡ length (finished_of site)
  pub lines : after.lines ≡ before.lines ++ flat_map (outcome_as form p) (finished_of site)
  pub journal : AddsJournal before.wanted site before.texts after.texts
  pub tags : All (λ (e : Entry). e.tag < 2) site.entries
  pub turns : tagged tag_of 0 site.entries ≡ worker
  pub submits : IsPrefix (tagged tag_of 1 site.entries) client
