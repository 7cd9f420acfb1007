use Rattle.std.proofs.Common.{rules, ◌≡◌, length, sym, ◌∙◌}
use Rattle.std.proofs.lemmas.Bool.{eqb-false}
use Rattle.office_map.proofs.ConsistencyKept.{pair_added}
use Rattle.office_map.proofs.RecordCountsKept.{marked_more}
use Rattle.office_map.proofs.plan_entries.PlanEntries.add_pair.Goals as goal

pub invariant_of-self-2 : goal.invariant_of-self-2
invariant_of-self-2 c =
    let added = pair_added _ c.args.self.now _ c.are_neighbours.result c.args.pair.now.a c.args.pair.now.b c.self.invariant.0 c.self.view_is (sym c.office_named.ensures ∙ c.in-Some.is) (sym c.office_named-2.ensures ∙ c.in-Some-office_named.is) (eqb-false _ _ (sym c.eq.ensures ∙ c.if-eq.false)) c.are_neighbours.ensures c.if-are_neighbours.false in
    let long : length c.self.inside.joined ≡ 256 = search rules in
    rw c.in_ok-push.ensures.items (
      added.0,
      c.self.invariant.1,
      marked_more c.self.inside.pairs.items c.self.inside.joined _ c.pair_index.result long c.self.invariant.2 added.1 added.2 c.pair_index.ensures.place c.pair_index.ensures.within,
    )
