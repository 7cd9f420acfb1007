use Rattle.std.proofs.Common.{take}
use Rattle.journal_weave.specs.Given.{HasMade}
use Rattle.journal_weave.proofs.standing.has_made.Given as goal

-- none so far made one
abbrev pub invariant-loop-i : goal.invariant-loop-i
invariant-loop-i l = HasMade (take l.i l.replay.site.entries) l.to l.number → ⊥
