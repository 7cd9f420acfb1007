-- When no office may go on by itself, and what a thirsty one lacks then.
use Rattle.std.specs.Prelude.{◌≡◌, ℕ, ◌<◌, Bool, true, false, List, [], length}
use Rattle.office_map.specs.PlanValue.{PlanValue, are_neighbours, is_end, has_ends}
use Rattle.office_map.specs.Consistency.{IsConsistent}
use Rattle.drinking_core.specs.Drinkers.{Drinker, AskBottle, GiveBottle, Drink, is_thirsty, is_drinking, may}
use Rattle.drinking_core.specs.Worlds.{World, Event, opening, run}

-- an office that holds these neighbours' forks doesn't drink, and may neither ask for a bottle, nor give one, nor begin to
-- drink
pub record IsAtRest (plan : PlanValue) (a : ℕ) (d : Drinker) (forks : ℕ → Bool) : Type 0 where
  pub rests : is_drinking d.phase ≡ false
  pub asks : (r : ℕ) → is_end plan r a ≡ true → may d (AskBottle r) ≡ false
  pub gives : (r : ℕ) → is_end plan r a ≡ true → may d (GiveBottle r forks) ≡ false
  pub drinks : may d Drink ≡ false

-- each office of the plan is at rest, and nothing is on the way between the ends of a record
pub record StandsStill (plan : PlanValue) (w : World) (forks : ℕ → ℕ → Bool) : Type 0 where
  pub rests : (a : ℕ) → a < length plan.offices → IsAtRest plan a (w.drinker a) (forks a)
  pub bottles : (r u v : ℕ) → has_ends plan r u v ≡ true → w.bottles_on_way r u v ≡ []
  pub tokens : (r u v : ℕ) → has_ends plan r u v ≡ true → w.tokens_on_way r u v ≡ 0

-- a neighbour holds the fork that the office shares with it
pub record LacksAFork (plan : PlanValue) (a : ℕ) (forks : ℕ → ℕ → Bool) : Type 0 where
  pub neighbour : ℕ
  pub near : are_neighbours plan a neighbour ≡ true
  pub there : forks neighbour a ≡ true

-- ---- laws

-- whoever holds which forks: after every list of events, where all stand still, a thirsty office lacks a fork
abbrev pub TheThirstyLackAFork : Type 0
TheThirstyLackAFork = (plan : PlanValue) (events : List Event) (forks : ℕ → ℕ → Bool) (a : ℕ) → IsConsistent plan →
    StandsStill plan (run plan (opening plan) events) forks → a < length plan.offices → is_thirsty ((run plan (opening plan) events).drinker a).phase ≡ true → LacksAFork plan a forks
