use Rattle.std.proofs.Common.{◌≡◌, drop}
use Rattle.std.specs.List.{list_all}
use Rattle.session_programs.specs.measures.refinement.NodeFitting.{node_fits}
use Rattle.session_programs.proofs.measures.fitting.are_numbers.Given as goal

-- all are, if those are that are left
abbrev pub invariant-loop-i : goal.invariant-loop-i
invariant-loop-i l = list_all node_fits (drop l.i l.nodes) ≡ list_all node_fits l.nodes
