use Rattle.session_language.proofs.NumberLines.{same_line}
use Rattle.session_language.proofs.laws.numbers_mean_the_same.Goals as goal

pub returns : goal.returns
returns c = same_line
