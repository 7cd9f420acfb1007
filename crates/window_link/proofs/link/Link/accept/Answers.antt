use Rattle.std.proofs.Common.{◌-◌, rules}
use Rattle.window_link.specs.WindowLaws.{carried_after}
use Rattle.window_link.proofs.link.Link.accept.Goals as goal

pub returns-in-Some-clause-link : goal.returns-in-Some-clause-link
returns-in-Some-clause-link c = search rules

pub invariant_of-self : goal.invariant_of-self
invariant_of-self c = rw c.acknowledge.ensures (carried_after c.self.inside.version (c.count.result - c.self.inside.sending.acked) c.self.inside.sending.waiting c.self.invariant)

pub invariant_of-self-in-Some : goal.invariant_of-self-in-Some
invariant_of-self-in-Some c = rw c.acknowledge.ensures (carried_after c.self.inside.version (c.count.result - c.self.inside.sending.acked) c.self.inside.sending.waiting c.self.invariant)
