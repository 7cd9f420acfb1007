use Rattle.std.proofs.Common.{◌≡◌, ◌≤◌, ◌+◌, length}
use Rattle.std.specs.Fmt.{decimal}
use Rattle.session_programs.proofs.sizes.sizes.digits.Given as goal

-- the digits that were counted, and those that are left, are all of them
abbrev pub invariant-loop-rest : goal.invariant-loop-rest
invariant-loop-rest l = (l.rest ≤ l.n) × (l.count + length (decimal l.rest) ≡ 1 + length (decimal l.n))

abbrev pub decreases-loop-rest : goal.decreases-loop-rest
decreases-loop-rest l = l.rest
