use Rattle.std.proofs.Common.{◌≡◌, ◌≤◌, ◌+◌, min, drop}
use Rattle.session_meaning.specs.refinement.TextBytes.{nodes_bytes}
use Rattle.session_programs.proofs.measures.measures.bytes_of_all.Given as goal

-- the bytes so far, and those of the nodes that are left, make all
abbrev pub invariant-loop-i : goal.invariant-loop-i
invariant-loop-i l = (l.bytes ≤ 10001) × (min 10001 (l.bytes + nodes_bytes (drop l.i l.nodes)) ≡ min 10001 (nodes_bytes l.nodes))
