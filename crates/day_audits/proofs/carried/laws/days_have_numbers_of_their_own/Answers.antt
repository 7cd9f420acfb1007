use Rattle.day_audits.proofs.carried_lemmas.Numbers.{numbers}
use Rattle.day_audits.proofs.carried.laws.days_have_numbers_of_their_own.Goals as goal

pub returns : goal.returns
returns c = numbers
