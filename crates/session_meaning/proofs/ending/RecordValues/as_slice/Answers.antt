use Rattle.session_meaning.proofs.ending.RecordValues.as_slice.Goals as goal

pub returns : goal.returns
returns c = cc
