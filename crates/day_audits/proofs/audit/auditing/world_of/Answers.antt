use Rattle.std.proofs.Common.{ap, ◌∙◌}
use Rattle.std.proofs.lemmas.Result.{IfOk-weaker}
use Rattle.office_map.specs.PlanValue.{PlanValue}
use Rattle.frame_world.specs.Worlds.{opening, run_of}
use Rattle.day_audits.proofs.audit_lemmas.Telling.{left_of_copies}
use Rattle.day_audits.proofs.audit.auditing.world_of.Goals as goal

pub of_record-requires : goal.of_record-requires
of_record-requires c =
    let es = c.requires.0 in
    let copied = left_of_copies c.args.plan.now c.in_ok-plan.plan es _ c.in_ok-offices.offices.items c.args.left.sent.items c.args.left.finished.items c.deref.result.now c.in_ok-plan.ensures c.in_ok-offices.ensures c.deref.ensures.value c.requires.1 in
    (es, copied)

pub returns : goal.returns
returns c =
    IfOk-weaker c.of_record.result _ _
    (λ w leads es left.
    let copied = left_of_copies c.args.plan.now c.in_ok-plan.plan es _ c.in_ok-offices.offices.items c.args.left.sent.items c.args.left.finished.items c.deref.result.now c.in_ok-plan.ensures c.in_ok-offices.ensures c.deref.ensures.value left in
    leads es copied ∙ ap (λ (p : PlanValue). run_of (opening p) es) c.in_ok-plan.ensures)
    c.of_record.ensures
