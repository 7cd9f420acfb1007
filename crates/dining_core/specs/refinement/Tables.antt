-- The table that the code keeps, and the office that it means.
use Rattle.std.specs.Prelude.{◌≡◌, ℕ, Bool, true, false, List, get_or, ◌&&◌, not, ◌↔◌, Result, IsErr, OnOk, OnErr}
use Rattle.office_map.specs.PlanValue.{PlanValue, are_neighbours, fork_starts_at}
use Rattle.dining_core.specs.declared.phase.Phase.{Phase}
use Rattle.dining_core.specs.declared.shared_fork.Fork.{Fork}
use Rattle.dining_core.specs.declared.shared_fork.Fork.TheVariants.{Away, Dirty, Clean}
use Rattle.dining_core.specs.declared.shared_fork.SharedFork.{SharedFork}
use Rattle.dining_core.specs.Diners.{Diner, ForkRule, may, act}

-- what a contract sees of a table: a place for each office
pub record TableValue : Type 0 where
  pub neighbours : List ℕ
  pub phase : Phase
  pub places : List SharedFork

abbrev pub is_held : Fork → Bool
is_held Away = false
is_held Dirty = true
is_held Clean = true

abbrev pub is_clean : Fork → Bool
is_clean Away = false
is_clean Dirty = false
is_clean Clean = true

-- with an office that is no neighbour nothing is shared
abbrev pub nothing : SharedFork
nothing = record { fork = Away; token = false }

abbrev pub place_at : List SharedFork → ℕ → SharedFork
place_at ps v = get_or ps v nothing

abbrev pub holds : List SharedFork → ℕ → Bool
holds ps v = is_held (place_at ps v).fork

abbrev pub has_clean : List SharedFork → ℕ → Bool
has_clean ps v = is_clean (place_at ps v).fork

abbrev pub has_token : List SharedFork → ℕ → Bool
has_token ps v = (place_at ps v).token

-- the office that a table means
abbrev pub diner_of : TableValue → Diner
diner_of t = record { neighbours = t.neighbours; phase = t.phase; held = holds t.places; clean = has_clean t.places; token = has_token t.places }

-- what a call answers that does a rule: it is refused just where the rule may not be done, and then nothing changed
pub record DoesRule {T E : Type 0} (rule : ForkRule) (result : Result T E) (old new : TableValue) : Type 0 where
  pub not_now : IsErr result ↔ (may (diner_of old) rule ≡ false)
  pub done : OnOk result (diner_of new ≡ act (diner_of old) rule)
  pub unchanged : OnErr result (new ≡ old)

-- a fork that was used
abbrev pub used : Fork → Fork
used Away = Away
used Dirty = Dirty
used Clean = Dirty

abbrev pub used_shared : SharedFork → SharedFork
used_shared p = record { fork = used p.fork; token = p.token }

-- what starts at an office of its pair with another
abbrev pub start_fork : Bool → Fork
start_fork true = Dirty
start_fork false = Away

abbrev pub start_place : PlanValue → ℕ → ℕ → SharedFork
start_place plan a v = record {
  fork = start_fork (are_neighbours plan a v && fork_starts_at plan a v a);
  token = are_neighbours plan a v && not (fork_starts_at plan a v a);
}
