use Rattle.day_audits.proofs.plans_lemmas.NextPlansRead.{next_plans_read}
use Rattle.day_audits.proofs.plans.laws.next_plans_are_read.Goals as goal

pub returns : goal.returns
returns c = next_plans_read c.carried_starts_with.ensures
