use Rattle.day_audits.proofs.carried_lemmas.Days.{carried_starts_with}
use Rattle.day_audits.proofs.carried.laws.carried_starts_with.Goals as goal

pub returns : goal.returns
returns c = carried_starts_with
