use Rattle.office_journal.specs.declared.event.Event.TheVariants as event
use Rattle.locked_office.proofs.Giving.{event_adds, event_did}
use Rattle.locked_office.proofs.calls.submit.Goals as goal

pub give_back-requires-clause-adds : goal.give_back-requires-clause-adds
give_back-requires-clause-adds c =
    event_adds c.steps_add_their_entry.ensures c.args.lock.now c.args.pass.now c.tag.result (event.Submit c.args.program.now) c.submit-reply.result c.args.held c.state.result.now c.submit-reply.new.self c.requires c.state.ensures.value c.tag.ensures.value c.submit-reply.ensures

pub returns-clause-did : goal.returns-clause-did
returns-clause-did c =
    event_did c.steps_add_their_entry.ensures c.args.lock.now c.args.pass.now c.give_back.new.pass c.tag.result (event.Submit c.args.program.now) c.submit-reply.result c.args.held c.state.result.now c.submit-reply.new.self c.requires c.state.ensures.value c.tag.ensures.value
    c.submit-reply.ensures c.give_back.ensures.seen c.give_back.ensures.legal c.give_back.ensures.back
