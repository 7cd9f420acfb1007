use Rattle.window_link.proofs.link.Link.resume.Goals as goal

pub returns : goal.returns
returns c = cc
