use Rattle.day_audits.proofs.days_lemmas.TwoDays.{two_days}
use Rattle.day_audits.proofs.days.laws.worlds_of_two_days_are_one_run.Goals as goal

pub returns : goal.returns
returns c = two_days c.days_are_one_run.ensures
