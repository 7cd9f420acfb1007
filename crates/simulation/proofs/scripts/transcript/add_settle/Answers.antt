use Rattle.std.specs.String.{string_bytes}
use Rattle.simulation.specs.scripts.Script.{Settles}
use Rattle.simulation.proofs.scripts_lemmas.ToldActs.{said_line_added, said_world}
use Rattle.simulation.proofs.scripts.transcript.add_settle.Goals as goal

pub returns-clause-line : goal.returns-clause-line
returns-clause-line c =
    said_line_added c.args.form c.add_said.result c.args.world.now c.settle-said.new.world (Settles c.args.n) c.settle-said.result c.frames.result (string_bytes c.args.text.now) (string_bytes c.add_said.new.text) c.settle-said.ensures c.frames.ensures c.add_said.ensures.line c.add_said.ensures.memory

pub returns-clause-world : goal.returns-clause-world
returns-clause-world c = said_world c.add_said.result c.args.world.now c.settle-said.new.world (Settles c.args.n) c.settle-said.result c.settle-said.ensures c.add_said.ensures.memory
