use Rattle.window_link.proofs.link.Link.open.Goals as goal

pub returns : goal.returns
returns c = cc
