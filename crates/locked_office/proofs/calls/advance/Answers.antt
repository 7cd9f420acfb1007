use Rattle.locked_office.proofs.Giving.{rules_add, rules_did}
use Rattle.locked_office.proofs.calls.advance.Goals as goal

pub give_back-requires-clause-adds : goal.give_back-requires-clause-adds
give_back-requires-clause-adds c =
    rules_add c.args.lock.now c.args.pass.now c.tag.result c.args.most c.do_rules-done.result c.args.held c.state.result.now c.do_rules-done.new.office c.requires c.state.ensures.value c.tag.ensures.value c.do_rules-done.ensures

pub returns-clause-did : goal.returns-clause-did
returns-clause-did c =
    rules_did c.args.lock.now c.args.pass.now c.give_back.new.pass c.tag.result c.args.most c.do_rules-done.result c.args.held c.state.result.now c.do_rules-done.new.office c.requires c.state.ensures.value c.tag.ensures.value
    c.do_rules-done.ensures c.give_back.ensures.seen c.give_back.ensures.legal c.give_back.ensures.back
