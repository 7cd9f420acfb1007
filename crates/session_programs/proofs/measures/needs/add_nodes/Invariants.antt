use Rattle.std.proofs.Common.{◌≡◌, drop}
use Rattle.session_programs.specs.measures.Needs.{nodes_needs}
use Rattle.session_programs.proofs.measures.needs.add_nodes.Given as goal

-- the nodes that are left, on what is needed so far, need what all of them do
abbrev pub invariant-loop-i : goal.invariant-loop-i
invariant-loop-i l = nodes_needs (drop l.i l.nodes) l.needs.items ≡ nodes_needs l.nodes l.fn.needs.items
