use Rattle.std.proofs.Common.{rules, ◌≡◌, ◌≤◌, ◌+◌, ◌∙◌, length, get_or, true, refl, arith, sym, subst}
use Rattle.office_map.specs.PlanValue.{are_neighbours}
use Rattle.office_map.specs.Consistency.{IsConsistent}
use Rattle.office_map.proofs.ConsistencyKept.{record_added, few_records, neighbours_are_offices}
use Rattle.office_map.proofs.RecordCountsKept.{counted_more}
use Rattle.office_map.proofs.plan_entries.PlanEntries.add_record.Goals as goal

pub push-requires : goal.push-requires
push-requires c = omega (arith, few_records _ c.self.invariant.0)

pub invariant_of-self-2 : goal.invariant_of-self-2
invariant_of-self-2 c =
    let near : are_neighbours c.args.self.now c.in-Some.first c.in-Some-office_named.second ≡ true = sym c.are_neighbours.ensures ∙ c.if-not-are_neighbours.false in
    let ends = neighbours_are_offices c.args.self.now c.in-Some.first c.in-Some-office_named.second (subst IsConsistent c.self.view_is c.self.invariant.0) near in
    let fit : length c.args.self.now.offices ≤ 16 = (subst IsConsistent c.self.view_is c.self.invariant.0).offices_fit in
    let long : length c.self.inside.counts ≡ 256 = search rules in
    rw c.in_ok-push.ensures.ok (
      (record_added _ c.args.self.now _ c.record_named.result c.are_neighbours.result c.records_between.result c.args.declared.now.name c.args.declared.now.value c.self.invariant.0 c.args.declared.now.named c.requires c.self.view_is c.are_neighbours.ensures c.if-not-are_neighbours.false c.record_named.ensures (sym c.is_some.ensures ∙ c.if-is_some.false) c.records_between.ensures (omega arith) refl refl),
      counted_more c.self.inside.records c.self.inside.counts _ c.pair_index.result (get_or c.self.inside.counts c.pair_index.result 0 + 1) long c.self.invariant.1 (omega (arith, ends.first, fit)) (omega (arith, ends.second, fit)) c.pair_index.ensures.place c.pair_index.ensures.within refl,
      c.self.invariant.2,
    )

pub returns : goal.returns
returns c = search rules

pub overflow_add-self : goal.overflow_add-self
overflow_add-self c = search rules
