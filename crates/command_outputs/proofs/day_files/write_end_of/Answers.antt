use Rattle.command_outputs.proofs.DayFiles.{on_ok_more}
use Rattle.command_outputs.proofs.day_files.write_end_of.Goals as goal

pub returns-clause-written : goal.returns-clause-written
returns-clause-written g c =
    on_ok_more c.write_left_of.result _ _ (λ h. record { between = g.T.Targets.written c.write_plan.new.targets; plan = c.in_ok-write_plan.ensures.written; sessions = h }) c.write_left_of.ensures.written
