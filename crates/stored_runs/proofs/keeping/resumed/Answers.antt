use Rattle.std.proofs.Common.{List, subst}
use Rattle.office_journal.specs.declared.event.Entry.{Entry}
use Rattle.office_stations.specs.Rounds.{of_office}
use Rattle.stored_runs.specs.Keeping.{submitted}
use Rattle.stored_runs.specs.refinement.Submits.{IsOtherOf}
use Rattle.stored_runs.proofs.Reading.{other_sessions}
use Rattle.stored_runs.proofs.keeping.resumed.Goals as goal

pub returns-in-Err-next_after-clause-fault : goal.returns-in-Err-next_after-clause-fault
returns-in-Err-next_after-clause-fault c =
    other_sessions c.args.plan.now c.args.me c.args.programs.now c.args.found.now c.whole_lines.result.0.now c.whole_lines.result.1.now c.in-Ok.office c.in-Err-next_after.fault c.whole_lines.ensures c.in-Ok.ensures.office
    (subst (λ (l : List Entry). IsOtherOf (submitted l) (of_office c.args.me c.args.programs.now) c.in-Err-next_after.fault) c.journal.ensures.entries c.in-Err-next_after.ensures.other)
