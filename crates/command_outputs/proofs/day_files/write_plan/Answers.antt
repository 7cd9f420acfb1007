use Rattle.std.specs.String.{string_bytes}
use Rattle.command_outputs.proofs.DayFiles.{made}
use Rattle.command_outputs.proofs.day_files.write_plan.Goals as goal

pub returns-in-Some-clause-written : goal.returns-in-Some-clause-written
returns-in-Some-clause-written g c =
    rw c.in-Some.is (made c.write_made.result c.next_plan_of.result _ _ _ (λ text next added. (string_bytes text, next, added)) c.next_plan_of.ensures c.write_made.ensures.written)
