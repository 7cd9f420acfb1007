use Rattle.std.proofs.Common.{map}
use Rattle.std.specs.String.{string_bytes}
use Rattle.day_audits.specs.audit.Findings.{IsRecordedBy}
use Rattle.command_outputs.proofs.DayFiles.{fit_there, on_ok_more, there}
use Rattle.command_outputs.proofs.day_files.write_recorded.Goals as goal

pub write_end_of-requires-clause-fit : goal.write_end_of-requires-clause-fit
write_end_of-requires-clause-fit g c =
    let p = c.args.plan.now in
    let texts = map string_bytes c.args.journals.now in
    fit_there p texts c.in-Ok-Some.world c.args.programs.now (there c.in-Ok-Some.field-0 (IsRecordedBy p texts) c.in-Ok-Some.world c.in-Ok-Some.field-0-is c.in-Ok-Some.ensures.found) c.requires.fit

pub returns-in-Ok-Some-clause-written : goal.returns-in-Ok-Some-clause-written
returns-in-Ok-Some-clause-written g c =
    let p = c.args.plan.now in
    let texts = map string_bytes c.args.journals.now in
    on_ok_more c.write_end_of.result _ _ (λ h. (c.in-Ok-Some.world, there c.in-Ok-Some.field-0 (IsRecordedBy p texts) c.in-Ok-Some.world c.in-Ok-Some.field-0-is c.in-Ok-Some.ensures.found, h)) c.write_end_of.ensures.written
