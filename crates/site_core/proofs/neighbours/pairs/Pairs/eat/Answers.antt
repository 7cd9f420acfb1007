use Rattle.std.proofs.Common.{refl}
use Rattle.dining_core.specs.Diners as forks
use Rattle.dining_core.specs.refinement.Tables.{diner_of}
use Rattle.drinking_core.specs.refinement.Bars.{drinker_of}
use Rattle.site_core.specs.neighbours.Pairs.{held_by}
use Rattle.site_core.specs.neighbours.HeldLaws.{like_diner}
use Rattle.site_core.proofs.neighbours_lemmas.PairUpdates.{pairs_value, still_pairs}
use Rattle.site_core.proofs.neighbours.pairs.Pairs.eat.Goals as goal

pub invariant_of-self-2 : goal.invariant_of-self-2
invariant_of-self-2 c =
    let s = c.self.inside in
    let d = diner_of s.table in
    let k = drinker_of s.bar in
    still_pairs (pairs_value s.plan s.me s.table s.bar s.channels) c.eat.new.self s.bar s.channels (forks.act d forks.Eat) k (held_by d k) c.self.invariant
    c.in_ok-eat.ensures.done refl refl refl refl (like_diner d (forks.act d forks.Eat) k refl refl) c.self.invariant.channels
