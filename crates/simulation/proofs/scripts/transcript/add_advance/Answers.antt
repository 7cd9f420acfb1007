use Rattle.std.specs.String.{string_bytes}
use Rattle.simulation.specs.scripts.Script.{Advances}
use Rattle.simulation.proofs.scripts_lemmas.ToldActs.{said_line_added, said_world}
use Rattle.simulation.proofs.scripts.transcript.add_advance.Goals as goal

pub returns-clause-line : goal.returns-clause-line
returns-clause-line c =
    said_line_added c.args.form c.add_said.result c.args.world.now c.advance-said.new.world (Advances c.args.office c.args.n) c.advance-said.result c.frames.result (string_bytes c.args.text.now) (string_bytes c.add_said.new.text) c.advance-said.ensures c.frames.ensures c.add_said.ensures.line c.add_said.ensures.memory

pub returns-clause-world : goal.returns-clause-world
returns-clause-world c = said_world c.add_said.result c.args.world.now c.advance-said.new.world (Advances c.args.office c.args.n) c.advance-said.result c.advance-said.ensures c.add_said.ensures.memory
