use Rattle.std.proofs.Common.{◌-◌, IsTrue, sym, ap, subst, rules}
use Rattle.frame_codec.specs.Frame.{carries}
use Rattle.window_link.specs.WindowLaws.{carried_each}
use Rattle.window_link.proofs.link.Link.frame.Goals as goal

pub data-requires-clause-positive : goal.data-requires-clause-positive
data-requires-clause-positive c = search rules

pub data-requires-clause-carried : goal.data-requires-clause-carried
data-requires-clause-carried c =
    subst (λ v. IsTrue (carries v c.message-msg.result)) (sym (ap (λ l. l.version) c.self.view_is)) (carried_each c.args.self.now.version c.waiting.result.now (c.args.i - 1) c.message-msg.result c.waiting.ensures.carried c.message-msg.ensures)
