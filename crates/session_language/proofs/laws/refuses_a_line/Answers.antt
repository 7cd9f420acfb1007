use Rattle.session_language.proofs.LawProofs.{a_line}
use Rattle.session_language.proofs.laws.refuses_a_line.Goals as goal

pub returns : goal.returns
returns c = a_line
