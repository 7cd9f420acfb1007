use Rattle.session_language.proofs.LawProofs.{in_order}
use Rattle.session_language.proofs.laws.reads_in_order.Goals as goal

pub returns : goal.returns
returns c = in_order
