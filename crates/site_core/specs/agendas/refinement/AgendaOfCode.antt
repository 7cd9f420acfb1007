-- The sessions that the code keeps, and what they mean.
use Rattle.std.specs.Prelude.{◌≡◌, ℕ, List}
use Rattle.bottle_values.specs.declared.Value.{Value}
use Rattle.session_meaning.specs.declared.ending.Outcome.{Outcome}
use Rattle.session_programs.specs.Room.{HasRoom}
use Rattle.session_programs.specs.refinement.Listing.{CodeValue, code_of}
use Rattle.session_machine.specs.refinement.Work.{WorkValue, work_of}
use Rattle.site_core.specs.declared.agendas.session.Session.{Session}
use Rattle.site_core.specs.declared.agendas.agenda.Phase.{Phase}
use Rattle.site_core.specs.declared.agendas.agenda.Phase.TheVariants as phase
use Rattle.site_core.specs.agendas.Agenda.{Agenda, Current, Idle, Gathering, Working}

-- with how many outcomes more there is room for
pub record AgendaValue : Type 0 where
  pub queue : List Session
  pub tickets : ℕ
  pub current : Phase
  pub outcomes : List Outcome
  pub room : ℕ

-- the code is the session's, and the work is that on these values after so many instructions
pub record AreAtWork (s : Session) (c : CodeValue) (w : WorkValue) (reads : List (ℕ × Value)) (done : ℕ) : Type 0 where
  pub room : HasRoom s.program
  pub code : c ≡ code_of s.program
  pub work : w ≡ work_of s.program reads done

abbrev pub IsPhase : Phase → Current → Type 0
IsPhase phase.Idle c = c ≡ Idle
IsPhase (phase.Gathering s) c = c ≡ Gathering s
IsPhase (phase.Working s code work) c = (reads : List (ℕ × Value)) × (done : ℕ) × (c ≡ Working s reads done) × AreAtWork s code work reads done

-- what a contract sees of the code's sessions means these
pub record Means (v : AgendaValue) (a : Agenda) : Type 0 where
  pub queue : v.queue ≡ a.queue
  pub tickets : v.tickets ≡ a.tickets
  pub current : IsPhase v.current a.current
  pub outcomes : v.outcomes ≡ a.outcomes
