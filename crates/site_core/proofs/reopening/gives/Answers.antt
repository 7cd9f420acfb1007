use Rattle.site_core.proofs.LegalBeginnings.{kept_step}
use Rattle.site_core.proofs.reopening.gives.Goals as goal

pub returns-in-Ok-clause-kept : goal.returns-in-Ok-clause-kept
returns-in-Ok-clause-kept c = kept_step c.args.tag c.args.office.now c.step.new.self c.args.entry.now.event c.step.result c.step.ensures

pub returns-in-Err-clause-kept : goal.returns-in-Err-clause-kept
returns-in-Err-clause-kept c = kept_step c.args.tag c.args.office.now c.step.new.self c.args.entry.now.event c.step.result c.step.ensures
