use Rattle.serial_replay.specs.Serial.{start_map, ListsValues}
use Rattle.serial_replay.proofs.replay.start_values.Given as goal

abbrev pub invariant-loop-r : goal.invariant-loop-r
invariant-loop-r l = ListsValues l.values.items l.r (start_map l.plan)
