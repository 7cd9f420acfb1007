use Rattle.std.proofs.Common.{◌≡◌, length, take}
use Rattle.serial_replay.specs.Serial.{outcomes_of, map_of, start_map, ListsValues}
use Rattle.serial_replay.proofs.ValueTables.{IsCounts}
use Rattle.serial_replay.proofs.replay.serial.Given as goal

abbrev pub invariant-loop-program : goal.invariant-loop-program
invariant-loop-program l =
    ListsValues l.values.items (length l.plan.records) (map_of (start_map l.plan) (take l.program-index l.programs))
    × (length l.counts.items ≡ length l.plan.offices)
    × IsCounts l.counts.items (take l.program-index l.programs)
    × (l.outcomes.items ≡ outcomes_of (start_map l.plan) (take l.program-index l.programs))
