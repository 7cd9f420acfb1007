use Rattle.window_link.proofs.laws.two.Two.frames.Goals as goal

pub returns : goal.returns
returns c = cc
