use Rattle.session_meaning.proofs.EndingLaws.{what_it_has}
use Rattle.session_meaning.proofs.laws.writes_what_it_has.Goals as goal

pub returns : goal.returns
returns c = what_it_has
