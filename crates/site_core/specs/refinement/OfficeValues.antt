-- What an office has are values of its plan's version: what its bottles hold and its links keep, and what the session that it
-- works on read.
use Rattle.std.specs.Prelude.{◌≡◌, ℕ, true, All, get_or, None, Some, IsTrue}
use Rattle.bottle_values.specs.declared.Value.{Value}
use Rattle.bottle_values.specs.Versions.{admits}
use Rattle.bottle_values.specs.declared.version.Version.{Version}
use Rattle.frame_codec.specs.declared.message.Msg.{Msg}
use Rattle.frame_codec.specs.Frame.{carries}
use Rattle.window_link.specs.Links.{LinkState}
use Rattle.session_meaning.specs.Fitting.{block_fits, RecordsFit}
use Rattle.site_core.specs.neighbours.Pairs.{Pairs}
use Rattle.office_journal.specs.declared.event.Event.{Event}
use Rattle.office_map.specs.PlanValue.{PlanValue}
use Rattle.site_core.specs.declared.agendas.session.Session.{Session}
use Rattle.site_core.specs.agendas.Agenda.{Current, Idle, Gathering, Working}
use Rattle.site_core.specs.Offices.{Office, is_ours}
use Rattle.site_core.specs.Journals.{after}

-- the link is of the version, and so is what it keeps
pub record LinkFits (version : Version) (l : LinkState) : Type 0 where
  pub same : l.version ≡ version
  pub kept : (k : ℕ) (m : Msg) → get_or l.receiving.kept k None ≡ Some m → IsTrue (carries version m)

-- each link is, and each bottle's value
pub record PairsFit (version : Version) (p : Pairs) : Type 0 where
  pub links : (v : ℕ) → LinkFits version (p.link v)
  pub bottles : (r : ℕ) (x : Value) → p.drinker.bottle r ≡ Some x → IsTrue (admits version x)

-- the current session has no value but of the version, and read no other
abbrev pub CurrentFits : Version → Current → Type 0
CurrentFits version Idle = Unit {0}
CurrentFits version (Gathering s) = IsTrue (block_fits version s.program.body)
CurrentFits version (Working s reads done) = IsTrue (block_fits version s.program.body) × RecordsFit version reads

pub record OfficeFits (version : Version) (o : Office) : Type 0 where
  pub pairs : PairsFit version o.pairs
  pub current : CurrentFits version o.agenda.current

-- whatever else is there, the event leaves an office with values of its plan's version, where the sessions that wait are its own
abbrev pub Keeps : PlanValue → ℕ → Event → Type 0
Keeps plan me e = (o : Office) → OfficeFits plan.version o → All (λ (s : Session). is_ours plan me s.program ≡ true) o.agenda.queue → OfficeFits plan.version (after plan me o e)
