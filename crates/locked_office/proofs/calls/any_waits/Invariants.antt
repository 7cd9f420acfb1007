use Rattle.std.proofs.Common.{ℕ, ◌<◌}
use Rattle.locked_office.specs.Sends.{WaitsFor}
use Rattle.locked_office.proofs.calls.any_waits.Given as goal

abbrev pub invariant-loop-k : goal.invariant-loop-k
invariant-loop-k l = (v n : ℕ) → v < l.k → WaitsFor l.office v n → ⊥
