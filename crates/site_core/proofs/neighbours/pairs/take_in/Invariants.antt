use Rattle.std.proofs.Common.{◌≡◌, drop}
use Rattle.dining_core.specs.refinement.Tables.{diner_of}
use Rattle.drinking_core.specs.refinement.Bars.{drinker_of}
use Rattle.site_core.specs.neighbours.refinement.PairsOfCode.{MayAllBring, forks_came, bottles_came}
use Rattle.site_core.proofs.neighbours.pairs.take_in.Given as goal

-- what is left may come, and leads to the same
abbrev pub invariant-loop-msg : goal.invariant-loop-msg
invariant-loop-msg l =
    (forks_came (diner_of l.table) l.v (drop l.msg-index l.messages) ≡ forks_came (diner_of l.initial.table) l.v l.messages)
    × (bottles_came (drinker_of l.bar) (drop l.msg-index l.messages) ≡ bottles_came (drinker_of l.initial.bar) l.messages)
    × MayAllBring (diner_of l.table) (drinker_of l.bar) l.v (drop l.msg-index l.messages)
