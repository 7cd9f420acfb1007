use Rattle.locked_office.proofs.Giving.{nothing_added, looked}
use Rattle.locked_office.proofs.calls.some_waits.Goals as goal

pub give_back-requires-clause-adds : goal.give_back-requires-clause-adds
give_back-requires-clause-adds c =
    nothing_added c.args.lock.now c.args.pass.now c.args.held c.requires

pub returns-clause-looked : goal.returns-clause-looked
returns-clause-looked c = looked c.args.lock.now c.args.pass.now c.give_back.new.pass c.args.held c.requires c.give_back.ensures.seen c.give_back.ensures.legal c.give_back.ensures.back
