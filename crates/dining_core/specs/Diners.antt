-- An office that shares a fork with each neighbour, and the guard and effect of each rule of the forks.
use Rattle.std.specs.Prelude.{ℕ, Bool, true, false, not, ◌&&◌, List}
use Rattle.std.specs.List.{list_all}
use Rattle.office_map.specs.PlanValue.{PlanValue, are_neighbours, neighbours_of, fork_starts_at}
use Rattle.dining_core.specs.declared.phase.Phase.{Phase}
use Rattle.dining_core.specs.declared.phase.Phase.TheVariants.{Thinking, Hungry, Eating}
use Rattle.bottle_values.specs.Maps.{put}

-- An office among its neighbours: its phase, and of each neighbour's fork whether it is held here and whether it is
-- clean, and whether its request token is held.
pub record Diner : Type 0 where
  pub neighbours : List ℕ
  pub phase : Phase
  pub held : ℕ → Bool
  pub clean : ℕ → Bool
  pub token : ℕ → Bool

-- the rules: to be hungry, to ask for a fork, to give one, to eat, to leave; two of them with whether the office is
-- thirsty
pub data ForkRule : Type 0 where
  BecomeHungry : (thirsty : Bool) → ForkRule
  AskFork : (v : ℕ) → ForkRule
  GiveFork : (v : ℕ) → ForkRule
  Eat : ForkRule
  Leave : (thirsty : Bool) → ForkRule

abbrev pub is_thinking : Phase → Bool
is_thinking Thinking = true
is_thinking Hungry = false
is_thinking Eating = false

abbrev pub is_hungry : Phase → Bool
is_hungry Thinking = false
is_hungry Hungry = true
is_hungry Eating = false

abbrev pub is_eating : Phase → Bool
is_eating Thinking = false
is_eating Hungry = false
is_eating Eating = true

-- whether the rule may be done now
abbrev pub may : Diner → ForkRule → Bool
may d (BecomeHungry thirsty) = is_thinking d.phase && thirsty
may d (AskFork v) = is_hungry d.phase && (not (d.held v) && d.token v)
may d (GiveFork v) = not (is_eating d.phase) && (d.token v && (d.held v && not (d.clean v)))
may d Eat = is_hungry d.phase && list_all d.held d.neighbours
may d (Leave thirsty) = is_eating d.phase && not thirsty

-- what it does then
abbrev pub act : Diner → ForkRule → Diner
act d (BecomeHungry thirsty) = record d { phase = Hungry }
act d (AskFork v) = record d { token = put d.token v false }
act d (GiveFork v) = record d { held = put d.held v false }
act d Eat = record d { phase = Eating; clean = λ v. false }
act d (Leave thirsty) = record d { phase = Thinking }

-- a request token that comes is held
abbrev pub with_token : Diner → ℕ → Diner
with_token d v = record d { token = put d.token v true }

-- a fork that comes is held clean
abbrev pub with_fork : Diner → ℕ → Diner
with_fork d v = record d { held = put d.held v true; clean = put d.clean v true }

-- at the start every fork is dirty, at the end that the plan names; its request token is at the other
abbrev pub diner_at_start : PlanValue → ℕ → Diner
diner_at_start plan a = record {
  neighbours = neighbours_of plan a;
  phase = Thinking;
  held = λ v. are_neighbours plan a v && fork_starts_at plan a v a;
  clean = λ v. false;
  token = λ v. are_neighbours plan a v && not (fork_starts_at plan a v a);
}
