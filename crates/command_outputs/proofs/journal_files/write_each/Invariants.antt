use Rattle.std.proofs.Common.{map, take}
use Rattle.std.specs.String.{string_bytes}
use Rattle.host_files.specs.outputs.Written.{AddsFiles}
use Rattle.command_outputs.proofs.journal_files.write_each.Given as goal

abbrev pub invariant-loop-text : goal.invariant-loop-text
invariant-loop-text g l = AddsFiles (g.T.Targets.written l.fn.targets) (g.T.Targets.written l.targets) (map (λ text. (l.name, string_bytes text)) (take l.text-index l.fn.texts))
