use Rattle.session_meaning.proofs.ValuesFit.{values_fit}
use Rattle.session_meaning.proofs.laws.values_fit.Goals as goal

pub returns : goal.returns
returns c = values_fit
