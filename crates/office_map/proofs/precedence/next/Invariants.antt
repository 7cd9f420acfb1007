use Rattle.std.proofs.Common.{ℕ, ◌<◌}
use Rattle.office_map.specs.Precedence.{MayCome}
use Rattle.office_map.proofs.precedence.next.Given as goal

abbrev pub invariant-loop-number : goal.invariant-loop-number
invariant-loop-number l = (v : ℕ) → v < l.number → MayCome l.tables l.placed v → ⊥
