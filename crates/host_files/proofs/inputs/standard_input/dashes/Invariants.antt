use Rattle.std.proofs.Common.{◌≡◌, ◌≤◌, take}
use Rattle.std.specs.List.{count_by}
use Rattle.host_files.specs.inputs.Words.{is_dash}
use Rattle.host_files.proofs.inputs.standard_input.dashes.Given as goal

abbrev pub invariant-loop-word : goal.invariant-loop-word
invariant-loop-word l = (l.count ≡ count_by (λ w. is_dash w.now) (take l.word-index l.words)) × (l.count ≤ l.word-index)
