-- When no office may go on by itself, and for whom those that are thirsty wait then.
use Rattle.std.specs.Prelude.{◌≡◌, ℕ, ◌<◌, Bool, true, false, ◌&&◌, List, length}
use Rattle.office_map.specs.PlanValue.{PlanValue, are_neighbours}
use Rattle.office_map.specs.Consistency.{IsConsistent, IsAccepted}
use Rattle.dining_core.specs.Diners.{Diner, BecomeHungry, AskFork, GiveFork, Eat, Leave, is_hungry, is_eating, may}
use Rattle.dining_core.specs.Worlds.{World, Event, opening, run}

-- an office, thirsty or not, may do no rule of forks
pub record IsAtRest (plan : PlanValue) (a : ℕ) (d : Diner) (thirsty : Bool) : Type 0 where
  pub hungers : may d (BecomeHungry thirsty) ≡ false
  pub asks : (v : ℕ) → are_neighbours plan a v ≡ true → may d (AskFork v) ≡ false
  pub gives : (v : ℕ) → are_neighbours plan a v ≡ true → may d (GiveFork v) ≡ false
  pub eats : may d Eat ≡ false
  pub leaves : may d (Leave thirsty) ≡ false

-- each office of the plan is at rest, and nothing is on the way between neighbours
pub record StandsStill (plan : PlanValue) (w : World) (thirsty : ℕ → Bool) : Type 0 where
  pub rests : (a : ℕ) → a < length plan.offices → IsAtRest plan a (w.diner a) (thirsty a)
  pub forks : (u v : ℕ) → are_neighbours plan u v ≡ true → w.forks_on_way u v ≡ 0
  pub tokens : (u v : ℕ) → are_neighbours plan u v ≡ true → w.tokens_on_way u v ≡ 0

-- an office of the plan eats and is thirsty
pub record HasThirstyEater (plan : PlanValue) (w : World) (thirsty : ℕ → Bool) : Type 0 where
  pub office : ℕ
  pub of_plan : office < length plan.offices
  pub eats : is_eating (w.diner office).phase ≡ true
  pub thirsts : thirsty office ≡ true

-- ---- laws

-- after every list of events an office that has a clean fork is hungry
abbrev pub CleanForksAreForTheHungry : Type 0
CleanForksAreForTheHungry = (plan : PlanValue) (events : List Event) (a v : ℕ) → IsConsistent plan →
    (((run plan (opening plan) events).diner a).held v && ((run plan (opening plan) events).diner a).clean v) ≡ true → is_hungry ((run plan (opening plan) events).diner a).phase ≡ true

-- whichever offices are thirsty: after every list of events from an accepted plan, where all stand still and one of them
-- is thirsty, one that is thirsty eats
abbrev pub TheThirstyWaitForAnEater : Type 0
TheThirstyWaitForAnEater = (plan : PlanValue) (events : List Event) (thirsty : ℕ → Bool) (a : ℕ) → IsAccepted plan →
    StandsStill plan (run plan (opening plan) events) thirsty → a < length plan.offices → thirsty a ≡ true → HasThirstyEater plan (run plan (opening plan) events) thirsty
