use Rattle.frame_codec.proofs.frame.Frame.run.Goals as goal

pub returns : goal.returns
returns c = cc
