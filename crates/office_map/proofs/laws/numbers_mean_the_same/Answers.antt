use Rattle.office_map.proofs.NumberPlans.{numbers_mean_the_same}
use Rattle.office_map.proofs.laws.numbers_mean_the_same.Goals as goal

pub returns : goal.returns
returns c = numbers_mean_the_same
