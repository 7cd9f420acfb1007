use Rattle.stored_runs.proofs.Submitting.{Looked}
use Rattle.stored_runs.proofs.submits.next_after.Given as goal

abbrev pub invariant-loop-place : goal.invariant-loop-place
invariant-loop-place l = Looked l.me l.programs l.journal.entries l.place l.next l.ticket
