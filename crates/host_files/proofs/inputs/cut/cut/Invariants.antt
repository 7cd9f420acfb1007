use Rattle.std.proofs.Common.{◌≡◌, ◌++◌, ℕ, List, All, length}
use Rattle.host_files.specs.inputs.Cut.{IsOther, ended}
use Rattle.host_files.proofs.inputs.cut.cut.Given as goal

-- other lines stand before the rest
abbrev pub invariant-loop-line : goal.invariant-loop-line
invariant-loop-line l = (others : List (List ℕ)) × All IsOther others × (l.text ≡ ended others ++ l.rest)

abbrev pub decreases-loop-line : goal.decreases-loop-line
decreases-loop-line l = length l.rest
