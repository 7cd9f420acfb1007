use Rattle.std.proofs.Common.{◌≡◌, ◌≤◌, ◌+◌, length, reverse, take}
use Rattle.std.proofs.Common.{ℕ, List}
use Rattle.session_meaning.specs.declared.node.Node.{Node}
use Rattle.session_meaning.specs.refinement.PostfixSplit.{after_back}
use Rattle.session_meaning.proofs.operands.start_of_last.Given as goal

-- going on from here leaves what going back from the end does
pub record Scan (wanted at len : ℕ) (here all : List Node) : Type 0 where
  pub so_far : here ≡ all
  pub within : at ≤ len
  pub counted : wanted + at ≤ len + 1

abbrev pub invariant-loop-wanted : goal.invariant-loop-wanted
invariant-loop-wanted l = Scan l.wanted l.at (length l.nodes) (after_back l.wanted (reverse (take l.at l.nodes))) (after_back 1 (reverse l.nodes))

abbrev pub decreases-loop-wanted : goal.decreases-loop-wanted
decreases-loop-wanted l = l.at
