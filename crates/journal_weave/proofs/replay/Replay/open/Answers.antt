use Rattle.journal_weave.proofs.Replaying.{begins}
use Rattle.journal_weave.proofs.replay.Replay.open.Goals as goal

pub returns : goal.returns
returns c = begins c.args.plan.now c.args.me c.in_ok-office.office c.in_ok-office.ensures.plan c.in_ok-office.ensures.number c.in_ok-office.ensures.empty
