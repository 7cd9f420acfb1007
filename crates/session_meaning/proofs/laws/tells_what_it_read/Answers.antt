use Rattle.session_meaning.proofs.EndingLaws.{what_it_read}
use Rattle.session_meaning.proofs.laws.tells_what_it_read.Goals as goal

pub returns : goal.returns
returns c = what_it_read
