use Rattle.std.proofs.Common.{IfOk, subst}
use Rattle.std.specs.Arc.{arc_value}
use Rattle.session_reports.specs.form.Forms.{outcome_as}
use Rattle.office_runs.specs.live.refinement.Ends.{TellsEnd}
use Rattle.office_runs.proofs.live_lemmas.Courses.{ends_told}
use Rattle.office_runs.proofs.live.closing.add_end.Goals as goal

pub returns-clause-told : goal.returns-clause-told
returns-clause-told g c =
    let o = c.end.inside in
    subst (λ e. IfOk c.add_office.result (λ n. TellsEnd g.S.Wire.tells (outcome_as c.args.form c.args.plan.now) e n c.args.report.now c.add_office.new.report)) c.end.view_is
    (ends_told c.steps_add_their_entry.ensures c.args.form g.S.Wire.tells c.args.plan.now (arc_value o.office.desk) o.programs.now o.worker.fault o.client.fault o.worker.over o.worker.pass o.client.pass c.args.report.now c.add_office.new.report c.add_office.result c.end.invariant.0 c.end.invariant.1 c.add_office.ensures.told)
