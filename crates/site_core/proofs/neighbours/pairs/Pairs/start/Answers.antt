use Rattle.std.proofs.Common.{refl, ap, ◌∙◌, get_or}
use Rattle.dining_core.specs.refinement.Tables.{diner_of}
use Rattle.office_map.specs.PlanValue.{is_end}
use Rattle.drinking_core.specs.Drinkers as bottles
use Rattle.drinking_core.specs.refinement.Bars.{drinker_of}
use Rattle.site_core.specs.neighbours.refinement.PairsOfCode.{PairsValue}
use Rattle.site_core.specs.neighbours.Pairs.{held_by}
use Rattle.site_core.specs.neighbours.HeldLaws.{like_started}
use Rattle.site_core.proofs.neighbours_lemmas.PairUpdates.{pairs_value, still_pairs}
use Rattle.office_map.specs.NeighbourLaws.{all_among}
use Rattle.site_core.proofs.neighbours.pairs.Pairs.start.Goals as goal

pub invariant_of-self-2 : goal.invariant_of-self-2
invariant_of-self-2 c =
    let s = c.self.inside in
    let d = diner_of s.table in
    let k = drinker_of s.bar in
    let like = like_started k _ in
    still_pairs (pairs_value s.plan s.me s.table s.bar s.channels) s.table c.start.new.self s.channels d (bottles.act k (bottles.Start _)) (held_by d k) c.self.invariant
    refl c.in_ok-start.ensures.done refl like.records like.peer (like.held d) c.self.invariant.channels

pub start-requires : goal.start-requires
start-requires c =
    let s = c.self.inside in
    λ x e. all_among s.plan s.me s.bar.records x.now c.self.invariant.records
    (λ k d lt. ap (λ (q : PairsValue). is_end q.plan (get_or x.now k d) q.me) c.self.view_is ∙ c.requires x e k d lt)
