use Rattle.command_outputs.specs.Places.{AreFree}
use Rattle.command_outputs.proofs.places.look_at_folder.Given as goal

abbrev pub invariant-loop-a : goal.invariant-loop-a
invariant-loop-a g l = AreFree (g.S.Sources.file_text l.fn.sources) l.fn.one l.fn.other l.fn.plan l.a l.folder
