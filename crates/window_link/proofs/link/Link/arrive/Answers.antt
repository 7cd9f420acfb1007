use Rattle.std.proofs.Common.{rules}
use Rattle.window_link.proofs.link.Link.arrive.Goals as goal

pub returns-clause-link : goal.returns-clause-link
returns-clause-link c = cc

pub returns-clause-fault : goal.returns-clause-fault
returns-clause-fault c = search rules

pub returns-clause-arrival : goal.returns-clause-arrival
returns-clause-arrival c = cc
