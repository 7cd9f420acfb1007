use Rattle.std.specs.String.{string_bytes}
use Rattle.command_outputs.proofs.DayFiles.{made}
use Rattle.command_outputs.proofs.day_files.write_next_plan.Goals as goal

pub returns-in-Some-clause-written : goal.returns-in-Some-clause-written
returns-in-Some-clause-written g c =
    rw c.in-Some.is
    (made c.write_made.result c.next_plan_with.result _ _ _ (λ text next added m listed. (string_bytes text, next m listed, added)) c.next_plan_with.ensures c.write_made.ensures.written)
