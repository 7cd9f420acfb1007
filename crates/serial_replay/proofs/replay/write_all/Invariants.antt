use Rattle.std.proofs.Common.{ℕ, take}
use Rattle.bottle_values.specs.declared.Value.{Value}
use Rattle.bottle_values.specs.Maps.{write_all}
use Rattle.serial_replay.specs.Serial.{ListsValues}
use Rattle.serial_replay.proofs.replay.write_all.Given as goal

abbrev pub invariant-loop-id : goal.invariant-loop-id
invariant-loop-id l = (n : ℕ) (m : ℕ → Value) → ListsValues l.fn.values.items n m → ListsValues l.values.items n (write_all (take l.id-index l.writes) m)
