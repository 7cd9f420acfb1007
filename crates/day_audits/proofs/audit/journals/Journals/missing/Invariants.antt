use Rattle.std.proofs.Common.{ℕ, ◌<◌, None, get_or}
use Rattle.std.specs.Prelude.{IsSome}
use Rattle.day_audits.proofs.audit.journals.Journals.missing.Given as goal

-- the journals before are there
abbrev pub invariant-loop-a : goal.invariant-loop-a
invariant-loop-a l = (b : ℕ) → b < l.a → IsSome (get_or l.self.slots b None)
