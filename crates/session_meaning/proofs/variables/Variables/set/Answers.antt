use Rattle.session_meaning.proofs.variables.Variables.set.Goals as goal

pub returns-then-place-len : goal.returns-then-place-len
returns-then-place-len c = cc
