use Rattle.session_meaning.proofs.working_copy.WorkingCopy.into_writes.Goals as goal

pub returns : goal.returns
returns c = cc
