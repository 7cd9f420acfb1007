use Rattle.frame_codec.proofs.frame.Frame.to.Goals as goal

pub returns : goal.returns
returns c = cc
