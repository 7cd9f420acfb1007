use Rattle.day_audits.proofs.carried_lemmas.Days.{days_are_one_run}
use Rattle.day_audits.proofs.carried.laws.days_are_one_run.Goals as goal

pub returns : goal.returns
returns c = days_are_one_run
