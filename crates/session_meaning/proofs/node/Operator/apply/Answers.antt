use Rattle.session_meaning.proofs.node.Operator.apply.Goals as goal

pub returns-in-Minus : goal.returns-in-Minus
returns-in-Minus c = cc
