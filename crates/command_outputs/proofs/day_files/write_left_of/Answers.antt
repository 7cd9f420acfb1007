use Rattle.std.specs.String.{string_bytes}
use Rattle.command_outputs.proofs.DayFiles.{made}
use Rattle.command_outputs.proofs.day_files.write_left_of.Goals as goal

pub returns-in-Some-clause-written : goal.returns-in-Some-clause-written
returns-in-Some-clause-written g c =
    rw c.in-Some.is (made c.write_made.result c.left_of_file.result _ _ _ (λ text left added. (string_bytes text, left, added)) c.left_of_file.ensures c.write_made.ensures.written)
