-- The plan of the next day, as a text.
use Rattle.std.specs.Prelude.{◌≡◌, ℕ, ◌<◌, ◌≤◌, List, length, IsTrue, true, Ok}
use Rattle.bottle_values.specs.declared.Value.{Value}
use Rattle.bottle_values.specs.Operations.{is_value}
use Rattle.bottle_values.specs.Versions.{admits}
use Rattle.office_map.specs.Consistency.{IsAccepted}
use Rattle.office_map.specs.Limits.{most_text}
use Rattle.office_map.specs.PlanValue.{PlanValue}
use Rattle.office_map.specs.PlanText.{plan_of}
use Rattle.office_map.specs.Precedence.{HasOrder}
use Rattle.serial_replay.specs.Serial.{start_map}
use Rattle.day_audits.specs.carried.Days.{carried}
use Rattle.day_audits.specs.carried.RunNumbers.{run_after}
use Rattle.day_audits.specs.plans.WrittenPlans.{plan_text}

-- the plan of the next day: the same offices, pairs and records, with these values, and the next run number
abbrev pub next_plan : PlanValue → (ℕ → Value) → PlanValue
next_plan p m = carried p (run_after p.run 1) m

-- the values of the plan's records can be those of a run of its version
abbrev pub AreAdmitted : PlanValue → (ℕ → Value) → Type 0
AreAdmitted p m = (r : ℕ) → r < length p.records → IsTrue (admits p.version (m r))

-- What a text of the next day's plan means: that plan, which has no ring, and which starts with these values.
pub record IsNextPlan (p : PlanValue) (m : ℕ → Value) (text : List ℕ) : Type 0 where
  pub written : text ≡ plan_text (next_plan p m)
  pub read : AreAdmitted p m → length text ≤ most_text → plan_of text ≡ Ok (next_plan p m)
  pub ordered : HasOrder (next_plan p m)
  pub starts : (r : ℕ) → r < length p.records → start_map (next_plan p m) r ≡ m r

-- so it is of the text of each, whatever values are carried on
abbrev pub NextPlansAreRead : Type 0
NextPlansAreRead = (p : PlanValue) (m : ℕ → Value) → IsAccepted p → ((r : ℕ) → r < length p.records → is_value (m r) ≡ true) → IsNextPlan p m (plan_text (next_plan p m))
