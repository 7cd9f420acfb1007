use Rattle.window_link.proofs.laws.two.Two.link.Goals as goal

pub returns-in-Left-clause-link : goal.returns-in-Left-clause-link
returns-in-Left-clause-link c = cc

pub returns-in-Right-clause-link : goal.returns-in-Right-clause-link
returns-in-Right-clause-link c = cc
