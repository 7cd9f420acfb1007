use Rattle.std.proofs.Common.{◌≡◌, ◌≤◌, [], min, take}
use Rattle.session_meaning.specs.refinement.Postfix.{push_nodes}
use Rattle.session_programs.specs.Text.{wide_words}
use Rattle.session_programs.specs.sizes.refinement.TextSizes.{ranks_of, bytes_of}
use Rattle.session_programs.proofs.sizes.sizes.nodes_size.Given as goal

-- what the nodes so far leave
abbrev pub invariant-loop-i : goal.invariant-loop-i
invariant-loop-i l =
    (l.size ≤ 16385)
    × ((l.ranks.items ≡ ranks_of (push_nodes (take l.i l.nodes) []))
    × (l.size ≡ min 16385 (bytes_of (wide_words l.variables) (push_nodes (take l.i l.nodes) []))))
