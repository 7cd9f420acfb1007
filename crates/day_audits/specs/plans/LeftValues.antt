-- The values that a serial run leaves.
use Rattle.std.specs.Prelude.{List, All, IsTrue}
use Rattle.office_map.specs.Consistency.{IsConsistent}
use Rattle.office_map.specs.PlanValue.{PlanValue}
use Rattle.session_meaning.specs.ProgramValue.{ProgramValue}
use Rattle.session_programs.specs.Program.{fits}
use Rattle.serial_replay.specs.Serial.{map_of, start_map}
use Rattle.day_audits.specs.plans.NextPlans.{AreAdmitted}

-- Sessions that fit a plan leave values of its version, so that the text of the plan which carries them on is read.
abbrev pub LeftValuesAreAdmitted : Type 0
LeftValuesAreAdmitted = (p : PlanValue) (ps : List ProgramValue) → IsConsistent p → All (λ (x : ProgramValue). IsTrue (fits p x)) ps → AreAdmitted p (map_of (start_map p) ps)
