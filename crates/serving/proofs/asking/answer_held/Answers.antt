use Rattle.std.specs.String.{string_bytes}
use Rattle.serving.proofs.Answering.{asks_adds, asks_did, asks_key, asks_of}
use Rattle.serving.proofs.asking.answer_held.Goals as goal

pub give_back-requires-clause-adds : goal.give_back-requires-clause-adds
give_back-requires-clause-adds c =
    let s = c.state.result.now in
    let t = c.tag.result in
    asks_adds c.steps_add_their_entry.ensures c.args.form c.args.lock.now c.args.pass.now t c.args.asked.now c.answer-answer.result c.args.held s c.answer-answer.new.office (string_bytes c.args.line.now) (string_bytes c.answer-answer.new.text) c.requires c.state.ensures.value c.tag.ensures.value
    (asks_of c.args.form t s c.args.asked.now c.answer-answer.result c.answer-answer.new.office (string_bytes c.args.line.now) (string_bytes c.answer-answer.new.text) c.answer-answer.ensures.answered c.answer-answer.ensures.lacks)

pub give_back-requires-clause-key : goal.give_back-requires-clause-key
give_back-requires-clause-key c =
    let s = c.state.result.now in
    let t = c.tag.result in
    asks_key c.steps_add_their_entry.ensures c.args.form c.args.lock.now c.args.pass.now t c.args.asked.now c.answer-answer.result c.args.held s c.answer-answer.new.office (string_bytes c.args.line.now) (string_bytes c.answer-answer.new.text) c.requires c.state.ensures.value c.tag.ensures.value
    (asks_of c.args.form t s c.args.asked.now c.answer-answer.result c.answer-answer.new.office (string_bytes c.args.line.now) (string_bytes c.answer-answer.new.text) c.answer-answer.ensures.answered c.answer-answer.ensures.lacks)

pub returns-clause-asks : goal.returns-clause-asks
returns-clause-asks c =
    let s = c.state.result.now in
    let t = c.tag.result in
    asks_did c.steps_add_their_entry.ensures c.args.form c.args.lock.now c.args.pass.now t c.args.asked.now c.answer-answer.result c.args.held s c.answer-answer.new.office (string_bytes c.args.line.now) (string_bytes c.answer-answer.new.text) c.requires c.state.ensures.value c.tag.ensures.value
    (asks_of c.args.form t s c.args.asked.now c.answer-answer.result c.answer-answer.new.office (string_bytes c.args.line.now) (string_bytes c.answer-answer.new.text) c.answer-answer.ensures.answered c.answer-answer.ensures.lacks)
    c.give_back.new.pass c.give_back.ensures.seen c.give_back.ensures.legal c.give_back.ensures.back
