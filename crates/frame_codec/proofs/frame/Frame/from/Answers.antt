use Rattle.frame_codec.proofs.frame.Frame.from.Goals as goal

pub returns : goal.returns
returns c = cc
