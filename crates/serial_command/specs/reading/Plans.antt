-- Which text is accepted as which plan, and what it means with a text of sessions.
use Rattle.std.specs.Prelude.{◌≡◌, ℕ, List, Ok}
use Rattle.office_map.specs.PlanValue.{PlanValue}
use Rattle.office_map.specs.PlanText.{plan_of}
use Rattle.office_map.specs.Precedence.{HasOrder}
use Rattle.session_meaning.specs.ProgramValue.{ProgramValue}
use Rattle.session_language.specs.Reading.{sessions_of}

-- the lines of a text mean this plan, and it has no ring
abbrev pub IsAcceptedAs : List ℕ → PlanValue → Type 0
IsAcceptedAs text p = (plan_of text ≡ Ok p) × HasOrder p

-- what two texts mean: a plan, and sessions under it
pub record PlanAndSessions (plan sessions : List ℕ) : Type 0 where
  pub p : PlanValue
  pub programs : List ProgramValue
  pub is_plan : IsAcceptedAs plan p
  pub are_sessions : sessions_of p sessions ≡ Ok programs
