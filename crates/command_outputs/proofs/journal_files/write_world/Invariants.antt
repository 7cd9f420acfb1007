use Rattle.host_files.specs.outputs.Written.{AddsFiles}
use Rattle.command_outputs.specs.Journals.{files_of, text_at}
use Rattle.command_outputs.proofs.journal_files.write_world.Given as goal

abbrev pub invariant-loop-a : goal.invariant-loop-a
invariant-loop-a g l = AddsFiles (g.T.Targets.written l.fn.targets) (g.T.Targets.written l.targets) (files_of l.folder l.fn.world.plan (text_at l.fn.world) l.a)
