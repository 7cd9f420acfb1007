use Rattle.day_audits.proofs.plans_lemmas.LeftValues.{left_values}
use Rattle.day_audits.proofs.plans.laws.left_values_are_admitted.Goals as goal

pub returns : goal.returns
returns c = left_values c.values_fit.ensures
