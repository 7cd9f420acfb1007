use Rattle.std.proofs.Common.{sym, Ok, Err, rules}
use Rattle.office_journal.specs.declared.event.Event.TheVariants.{Do}
use Rattle.locked_office.proofs.Walk.{one_more, stops}
use Rattle.locked_office.proofs.advance.do_rules.Goals as goal

pub returns-in-Err : goal.returns-in-Err
returns-in-Err c =
    let s = c.loop-done.office in
    let added = c.steps_add_their_entry.ensures s c.args.tag (Do c.in-Some.rule) (Err c.in-Err.refusal) c.act.new.self c.in-Err.ensures in
    stops c.args.tag c.loop-done.done c.args.most c.args.office.now s c.act.new.self c.in-Some.rule c.in-Err.refusal c.loop-done.invariant c.loop-done-test.true (sym c.in-Some.ensures.first) c.in-Err.ensures
    (c.next_is_done_where_there_is_room.ensures s c.args.tag c.in-Some.rule c.in-Err.refusal c.act.new.self (sym c.in-Some.ensures.first) c.in-Err.ensures) added

pub loop-done-preserved : goal.loop-done-preserved
loop-done-preserved c =
    let s = c.loop-done.office in
    let added = c.steps_add_their_entry.ensures s c.args.tag (Do c.in-Some.rule) (Ok c.in-Ok.field-0) c.act.new.self c.in-Ok.ensures in
    one_more c.args.tag c.loop-done.done c.args.office.now s c.act.new.self c.in-Some.rule c.in-Ok.field-0 c.loop-done.invariant (sym c.in-Some.ensures.first) added

pub returns-in_default : goal.returns-in_default
returns-in_default c = search rules
