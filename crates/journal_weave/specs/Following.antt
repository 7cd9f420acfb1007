-- How far an office follows a journal by itself.
use Rattle.std.specs.Prelude.{◌≡◌, ℕ, ◌<◌, ◌≤◌, List, length, map, take, slice_get, Some, Ok}
use Rattle.office_map.specs.PlanValue.{PlanValue}
use Rattle.office_journal.specs.declared.event.Entry.{Entry}
use Rattle.site_core.specs.Journals.{Site}
use Rattle.site_core.specs.Reopening.{GivesAs}
use Rattle.journal_weave.specs.Weaving.{untagged}

-- the office that accepted these entries
abbrev pub site_of : PlanValue → ℕ → List Entry → Site
site_of plan a entries = record { plan = plan; me = a; entries = map untagged entries }

-- the office accepts the event of an entry under the tag of a world's events, with the entry's reply
abbrev pub Gives : Site → Entry → Type 0
Gives s x = GivesAs 0 s x

-- it gives each of the first n entries where that stands
abbrev pub Follows : PlanValue → ℕ → List Entry → ℕ → Type 0
Follows plan a entries n = (i : ℕ) (x : Entry) → i < n → slice_get entries i ≡ Some x → Gives (site_of plan a (take i entries)) x

-- and doesn't give the next
abbrev pub GivesNoMore : PlanValue → ℕ → List Entry → ℕ → Type 0
GivesNoMore plan a entries n = (x : Entry) → slice_get entries n ≡ Some x → Gives (site_of plan a (take n entries)) x → ⊥

-- an office follows its journal up to this limit
pub record IsLimit (plan : PlanValue) (a : ℕ) (entries : List Entry) (n : ℕ) : Type 0 where
  pub within : n ≤ length entries
  pub follows : Follows plan a entries n
  pub no_more : GivesNoMore plan a entries n
