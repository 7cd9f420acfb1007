-- What is seen of journals that are gathered.
use Rattle.std.specs.Prelude.{List, Option}
use Rattle.office_map.specs.PlanValue.{PlanValue}
use Rattle.journal_weave.specs.ReplayValue.{ReplayValue}

-- a plan; and of each of its offices, in order of number, the one that follows its journal, if that is there
pub record Gathered : Type 0 where
  pub plan : PlanValue
  pub slots : List (Option ReplayValue)
