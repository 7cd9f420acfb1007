use Rattle.std.proofs.Common.{[], get_or, map}
use Rattle.std.specs.String.{string_bytes}
use Rattle.host_files.specs.outputs.Written.{AddsFiles}
use Rattle.command_outputs.specs.Journals.{files_of}
use Rattle.command_outputs.proofs.journal_files.write_texts.Given as goal

abbrev pub invariant-loop-a : goal.invariant-loop-a
invariant-loop-a g l = AddsFiles (g.T.Targets.written l.fn.targets) (g.T.Targets.written l.targets) (files_of l.folder l.fn.plan (λ a. get_or (map string_bytes l.fn.texts) a []) l.a)
