-- Which rule an office does next, left to itself.
use Rattle.std.specs.Prelude.{◌≡◌, ℕ, false, List, [], ◌∷◌, ◌++◌, map, find, Option, None}
use Rattle.office_map.specs.PlanValue.{PlanValue, neighbours_of, records_of}
use Rattle.office_map.specs.Consistency.{IsConsistent}
use Rattle.office_journal.specs.declared.rule.Rule.{Rule}
use Rattle.office_journal.specs.declared.rule.Rule.TheVariants.{Start, Hungry, AskFork, GiveFork, Eat, Leave, AskBottle, GiveBottle, Drink, Work, Finish}
use Rattle.site_core.specs.Limits.{usual_piece}
use Rattle.site_core.specs.Offices.{Office, may}

-- All rules that an office may come to, in the order in which it looks at them: bottles and forks that are given,
-- `finish`, work, `drink`, `eat`, `leave`, `start`, `hungry`, bottles and forks that are asked for, each with the least
-- number first.
abbrev pub rules_in_order : PlanValue → ℕ → List Rule
rules_in_order plan me =
    map GiveBottle (records_of plan me)
    ++ (map GiveFork (neighbours_of plan me)
    ++ ((Finish ∷ Work usual_piece ∷ Drink ∷ Eat ∷ Leave ∷ Start ∷ Hungry ∷ [])
    ++ (map AskBottle (records_of plan me)
    ++ map AskFork (neighbours_of plan me))))

-- the first rule that may be done, in that order
abbrev pub next_rule : PlanValue → ℕ → Office → Option Rule
next_rule plan me o = find (may plan me o) (rules_in_order plan me)

-- no rule may be done: none of any kind, of whatever neighbour or record, and with a piece of whatever size
abbrev pub IsAtRest : PlanValue → ℕ → Office → Type 0
IsAtRest plan me o = (rule : Rule) → may plan me o rule ≡ false

-- So it is under a consistent plan wherever no rule comes next, though `rules_in_order` has work by one size alone.
abbrev pub NoneNextIsAtRest : Type 0
NoneNextIsAtRest = (plan : PlanValue) (me : ℕ) (o : Office) → IsConsistent plan → next_rule plan me o ≡ None → IsAtRest plan me o
