use Rattle.std.specs.String.{string_bytes}
use Rattle.frame_world.specs.declared.event.WorldEvent.TheVariants as happening
use Rattle.simulation.proofs.scripts_lemmas.ToldActs.{answer_line_added, answer_world}
use Rattle.simulation.proofs.scripts.transcript.add_do.Goals as goal

pub returns-clause-line : goal.returns-clause-line
returns-clause-line c =
    answer_line_added c.args.form c.add_answer.result c.args.world.now c.act-answer.new.self (happening.Do c.args.office c.args.rule) c.act-answer.result c.frames.result (string_bytes c.args.text.now) (string_bytes c.add_answer.new.text) c.act-answer.ensures c.frames.ensures c.add_answer.ensures.line c.add_answer.ensures.memory

pub returns-clause-world : goal.returns-clause-world
returns-clause-world c = answer_world c.add_answer.result c.args.world.now c.act-answer.new.self (happening.Do c.args.office c.args.rule) c.act-answer.result c.act-answer.ensures c.add_answer.ensures.memory
