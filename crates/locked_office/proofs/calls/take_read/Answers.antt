use Rattle.locked_office.proofs.Giving.{read_adds, read_key, read_did}
use Rattle.locked_office.proofs.calls.take_read.Goals as goal

pub give_back-requires-clause-adds : goal.give_back-requires-clause-adds
give_back-requires-clause-adds c =
    read_adds c.steps_add_their_entry.ensures c.args.lock.now c.args.pass.now c.tag.result c.args.read.now c.take_read-reply.result c.args.held c.state.result.now c.take_read-reply.new.self c.requires c.state.ensures.value c.tag.ensures.value c.take_read-reply.ensures

pub give_back-requires-clause-key : goal.give_back-requires-clause-key
give_back-requires-clause-key c =
    read_key c.steps_add_their_entry.ensures c.args.lock.now c.args.pass.now c.tag.result c.args.read.now c.take_read-reply.result c.args.held c.state.result.now c.take_read-reply.new.self c.requires c.state.ensures.value c.tag.ensures.value c.take_read-reply.ensures

pub returns-clause-did : goal.returns-clause-did
returns-clause-did c =
    read_did c.steps_add_their_entry.ensures c.args.lock.now c.args.pass.now c.give_back.new.pass c.tag.result c.args.read.now c.take_read-reply.result c.args.held c.state.result.now c.take_read-reply.new.self c.requires c.state.ensures.value c.tag.ensures.value
    c.take_read-reply.ensures c.give_back.ensures.seen c.give_back.ensures.legal c.give_back.ensures.back
