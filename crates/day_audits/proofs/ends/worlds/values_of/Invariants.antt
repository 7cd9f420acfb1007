use Rattle.serial_replay.specs.Serial.{ListsValues}
use Rattle.day_audits.specs.ends.DayEnds.{end_map}
use Rattle.day_audits.proofs.ends.worlds.values_of.Given as goal

abbrev pub invariant-loop-i : goal.invariant-loop-i
invariant-loop-i l = ListsValues l.values.items l.i (end_map l.world)
