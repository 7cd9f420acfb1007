use Rattle.session_meaning.proofs.PostfixSplit.{operands_are}
use Rattle.session_meaning.proofs.operands.operands.Goals as goal

pub returns-clause-apart : goal.returns-clause-apart
returns-clause-apart c = λ a b is. operands_are c.args.nodes.now c.start_of_last.result c.split_at.result.0 c.split_at.result.1 a b is c.start_of_last.ensures.at c.split_at.ensures.front c.split_at.ensures.back
