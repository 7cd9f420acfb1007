-- The office that the code keeps beside its journal.
use Rattle.std.specs.Prelude.{◌≡◌, true, List, All}
use Rattle.office_journal.specs.declared.event.Entry.{Entry}
use Rattle.site_core.specs.Journals.{Site, office_of, IsLegal}
use Rattle.site_core.specs.declared.agendas.session.Session.{Session}
use Rattle.site_core.specs.agendas.Agenda.{Agenda}
use Rattle.site_core.specs.Offices.{Office, is_ours}
use Rattle.site_core.specs.neighbours.refinement.PairsOfCode.{PairsValue, pairs_of}
use Rattle.site_core.specs.refinement.OfficeValues.{OfficeFits}
use Rattle.site_core.specs.agendas.refinement.AgendaOfCode.{AgendaValue, Means}

abbrev pub office_at : PairsValue → Agenda → Office
office_at p a = record { pairs = pairs_of p; agenda = a }

-- pairs and sessions of the code mean this office
abbrev pub Stands : PairsValue → AgendaValue → Office → Type 0
Stands p v o = (pairs_of p ≡ o.pairs) × Means v o.agenda

-- the sessions that wait are of the office
abbrev pub AreOurs : PairsValue → AgendaValue → Type 0
AreOurs p v = All (λ (s : Session). is_ours p.plan p.me s.program ≡ true) v.queue

-- an office as its journal tells it
abbrev pub site_of : PairsValue → List Entry → Site
site_of p entries = record { plan = p.plan; me = p.me; entries = entries }

-- what is kept beside the journal is the office at its end, which has values of its plan's version alone
pub record IsAtEnd (p : PairsValue) (v : AgendaValue) (entries : List Entry) : Type 0 where
  pub stands : Stands p v (office_of (site_of p entries))
  pub legal : IsLegal (site_of p entries)
  pub fits : OfficeFits p.plan.version (office_of (site_of p entries))
