use Rattle.std.proofs.Common.{◌≤◌, ◌≡◌, ◌++◌, List, ℕ, length, max}
use Rattle.std.specs.Io.KnownBytes.{Consumes}
use Rattle.host_files.proofs.inputs.reading.fill.Given as goal

-- what was lost was kept
abbrev pub invariant-loop : goal.invariant-loop
invariant-loop g l =
    ((got : List ℕ) × (l.bytes.items ≡ l.fn.bytes.items ++ got) × Consumes (g.R.Read.remaining l.fn.reader) (g.R.Read.remaining l.reader) got)
    × (length l.bytes.items ≤ max l.most (length l.fn.bytes.items))
