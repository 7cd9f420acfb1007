use Rattle.std.proofs.Common.{rules, ◌≡◌, ◌⊎◌, false, Option, None, Some, IfNone, IfSome, length, refl, sym, subst, ◌∙◌}
use Rattle.std.proofs.lemmas.List.{nil_from_length}
use Rattle.std.specs.Vec.Iter.{into_iter_items}
use Rattle.office_stations.specs.declared.fault.RunFault.{RunFault}
use Rattle.office_runs.proofs.live_lemmas.Courses.{ToldSoFar, none_so_far, one_more_told, all_told}
use Rattle.office_runs.proofs.live_lemmas.Lists.{one_taken}
use Rattle.office_runs.proofs.live.closing.tell_all.Goals as goal

pub loop-end-init : goal.loop-end-init
loop-end-init g c = (
  subst (λ rest. ToldSoFar c.args.form g.S.Wire.tells c.args.plan.now c.args.programs.now c.args.journals c.args.ended.items rest (length c.args.programs.now) c.no_thread-fault.result false c.new-report.result) (sym c.into_iter-end-iterator.ensures.into_iter_gives.0)
      (none_so_far c.args.form g.S.Wire.tells c.args.plan.now c.args.programs.now c.args.journals c.args.ended.items (length c.args.programs.now) c.no_thread-fault.result false c.new-report.result c.requires.sessions refl c.no_thread-fault.ensures c.new-report.ensures),
  search rules,
)

pub loop-end-preserved : goal.loop-end-preserved
loop-end-preserved g c =
    let fault = c.loop-end.fault in
    let found = c.earlier-fault.result in
    let none = subst (λ (x : Option RunFault). IfNone found ((fault ≡ None) × (c.in-Some.end.broke ≡ None) × (x ≡ None))) c.stopped.ensures (subst (λ (x : Option RunFault). IfNone found ((fault ≡ None) × (x ≡ None) × (c.stopped.result ≡ None))) c.broke.ensures c.earlier-fault.ensures.none) in
    let some = subst (λ (x : Option RunFault). IfSome found (λ why. (fault ≡ Some why) ⊎ (c.in-Some.end.broke ≡ Some why) ⊎ (x ≡ Some why))) c.stopped.ensures (subst (λ (x : Option RunFault). IfSome found (λ why. (fault ≡ Some why) ⊎ (x ≡ Some why) ⊎ (c.stopped.result ≡ Some why))) c.broke.ensures c.earlier-fault.ensures.some) in (
      one_more_told c.args.form g.S.Wire.tells c.args.plan.now c.args.programs.now c.args.journals c.args.ended.items (into_iter_items c.loop-end.end-iterator) _ c.in-Some.end c.loop-end.left c.saturating_sub-left.result c.in_ok-count.count c.loop-end.fault c.earlier-fault.result c.loop-end.over c.either-over.result
          c.loop-end.report c.remark_end.new.report c.in-Some.ensures.steps.0 c.loop-end.invariant.0 c.in_ok-count.ensures.told c.remark_end.ensures.wanted c.saturating_sub-left.ensures none some (λ is. ((c.either-over.ensures is).0, sym c.over.ensures ∙ (c.either-over.ensures is).1)),
      one_taken c.in-Some.end (into_iter_items c.loop-end.end-iterator) (into_iter_items c.next.new.self) _ _ c.in-Some.ensures.steps.0 c.in-Some.ensures.steps.1 c.loop-end.invariant.1,
    )

pub returns-clause-told : goal.returns-clause-told
returns-clause-told g c offices =
    let none = nil_from_length (into_iter_items c.loop-end.end-iterator) (sym c.loop-end.invariant.1 ∙ c.in-None.ensures.steps.0) in
    let it = c.in_ok-with_unfinished.ensures in
    all_told c.sessions_go_in_order.ensures c.args.form g.S.Wire.tells c.args.plan.now c.args.programs.now c.args.journals c.args.ended.items (into_iter_items c.loop-end.end-iterator) c.loop-end.left c.loop-end.fault c.loop-end.over c.loop-end.report c.in_ok-with_unfinished.field-0 offices none (c.is_unaccounted.ensures c.if-is_unaccounted.false)
    c.loop-end.invariant.0 it.text it.unfinished it.fault it.journals
