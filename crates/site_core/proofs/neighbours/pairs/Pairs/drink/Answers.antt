use Rattle.std.proofs.Common.{refl}
use Rattle.dining_core.specs.refinement.Tables.{diner_of}
use Rattle.drinking_core.specs.Drinkers as bottles
use Rattle.drinking_core.specs.refinement.Bars.{drinker_of}
use Rattle.site_core.specs.neighbours.Pairs.{held_by}
use Rattle.site_core.specs.neighbours.HeldLaws.{like_drinking}
use Rattle.site_core.proofs.neighbours_lemmas.PairUpdates.{pairs_value, still_pairs}
use Rattle.site_core.proofs.neighbours.pairs.Pairs.drink.Goals as goal

pub invariant_of-self-2 : goal.invariant_of-self-2
invariant_of-self-2 c =
    let s = c.self.inside in
    let d = diner_of s.table in
    let k = drinker_of s.bar in
    let like = like_drinking k in
    still_pairs (pairs_value s.plan s.me s.table s.bar s.channels) s.table c.drink.new.self s.channels d (bottles.act k bottles.Drink) (held_by d k) c.self.invariant
    refl c.in_ok-drink.ensures.done refl like.records like.peer (like.held d) c.self.invariant.channels
