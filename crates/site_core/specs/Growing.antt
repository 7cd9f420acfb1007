-- What an office knows of its links only grows along its journal.
use Rattle.std.specs.Prelude.{ℕ, ◌≤◌, List, ◌++◌}
use Rattle.office_map.specs.PlanValue.{PlanValue}
use Rattle.window_link.specs.Windows.{used}
use Rattle.window_link.specs.Links.{LinkState}
use Rattle.office_journal.specs.declared.event.Entry.{Entry}
use Rattle.site_core.specs.Journals.{Site, office_of}

-- an office's link to v, at the end of its journal
abbrev pub link_to : Site → ℕ → LinkState
link_to s v = (office_of s).pairs.link v

-- the same link, of an office with these entries
abbrev pub link_at : PlanValue → ℕ → List Entry → ℕ → LinkState
link_at plan me es v = link_to (record { plan = plan; me = me; entries = es }) v

-- of two states of a link the second knows no less: what the neighbour took, the numbers that were used, and what was
-- taken
pub record Grows (l l' : LinkState) : Type 0 where
  pub acked : l.sending.acked ≤ l'.sending.acked
  pub used : used l.sending ≤ used l'.sending
  pub taken : l.receiving.taken ≤ l'.receiving.taken

-- a journal that goes on knows no less of any link
abbrev pub LinksOnlyGrow : Type 0
LinksOnlyGrow = (plan : PlanValue) (me : ℕ) (es more : List Entry) (v : ℕ) → Grows (link_at plan me es v) (link_at plan me (es ++ more) v)
