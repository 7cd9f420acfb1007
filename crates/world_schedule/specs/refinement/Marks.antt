-- What is looked for at an office, and the marks that tell who has none.
use Rattle.std.specs.Prelude.{ℕ, Bool, true, List, set, Option}
use Rattle.frame_world.specs.declared.next_step.NextStep.{NextStep}
use Rattle.frame_world.specs.Worlds.{World}
use Rattle.frame_world.specs.Standstill.{rule_at, message_from}
use Rattle.world_schedule.specs.Resting.{Resting}
use Rattle.world_schedule.specs.declared.sought.Sought.{Sought}
use Rattle.world_schedule.specs.declared.sought.Sought.TheVariants as sought

-- the next rule of an office, or its next message
abbrev pub step_at : Sought → World → ℕ → Option NextStep
step_at sought.Rule w = rule_at w
step_at sought.Message w = message_from w

-- a mark for each office: that it has none
abbrev pub marks_of : Sought → Resting → List Bool
marks_of sought.Rule r = r.rules
marks_of sought.Message r = r.messages

-- the same marks, and that of this office
abbrev pub marked : Sought → Resting → ℕ → Resting
marked sought.Rule r a = record { rules = set r.rules a true; messages = r.messages }
marked sought.Message r a = record { rules = r.rules; messages = set r.messages a true }
