use Rattle.day_audits.proofs.plans_lemmas.TextsRead.{texts_are_read}
use Rattle.day_audits.proofs.plans.laws.plan_texts_are_read.Goals as goal

pub returns : goal.returns
returns c = texts_are_read
