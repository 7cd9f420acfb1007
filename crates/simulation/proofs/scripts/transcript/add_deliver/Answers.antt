use Rattle.std.specs.String.{string_bytes}
use Rattle.frame_world.specs.declared.event.WorldEvent.TheVariants as happening
use Rattle.simulation.proofs.scripts_lemmas.ToldActs.{answer_line_added, answer_world}
use Rattle.simulation.proofs.scripts.transcript.add_deliver.Goals as goal

pub returns-clause-line : goal.returns-clause-line
returns-clause-line c =
    answer_line_added c.args.form c.add_answer.result c.args.world.now c.deliver-answer.new.self (happening.Deliver c.args.k) c.deliver-answer.result c.frames.result (string_bytes c.args.text.now) (string_bytes c.add_answer.new.text) c.deliver-answer.ensures c.frames.ensures c.add_answer.ensures.line c.add_answer.ensures.memory

pub returns-clause-world : goal.returns-clause-world
returns-clause-world c = answer_world c.add_answer.result c.args.world.now c.deliver-answer.new.self (happening.Deliver c.args.k) c.deliver-answer.result c.deliver-answer.ensures c.add_answer.ensures.memory
