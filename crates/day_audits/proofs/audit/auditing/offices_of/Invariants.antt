use Rattle.std.proofs.Common.{◌≡◌, map}
use Rattle.journal_weave.specs.ReplayValue.{ReplayValue}
use Rattle.day_audits.proofs.audit.auditing.offices_of.Given as goal

abbrev pub invariant-loop-replay : goal.invariant-loop-replay
invariant-loop-replay l = l.offices.items ≡ map (λ (r : ReplayValue). r.site) l.yielded
