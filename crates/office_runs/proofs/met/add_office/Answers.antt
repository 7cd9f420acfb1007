use Rattle.std.proofs.Common.{◌≡◌, ap}
use Rattle.std.specs.Arc.{arc_value}
use Rattle.own_lock.specs.Passes.{LockView}
use Rattle.locked_office.specs.Calls.{Key, office_with}
use Rattle.office_runs.proofs.Telling.{adds_office}
use Rattle.office_runs.proofs.Writers.{all_met, own_kept}
use Rattle.office_runs.proofs.met.add_office.Goals as goal

pub returns-clause-told : goal.returns-clause-told
returns-clause-told g c =
    let same : c.deref-desk.result.now ≡ arc_value c.args.office.desk = c.deref-desk.ensures in
    let k : Key = c.deref-desk.result.now.key in
    let looked = c.add_sessions-added.new.pass in
    let told = c.add_sessions-added.ensures in
    let met = all_met (arc_value c.args.office.desk) k c.args.office.own c.args.worker looked c.meet.new.second c.meet_all.new.own c.meet-2.new.second c.args.client c.args.office.rest.items
    c.args.office.last c.args.office.others c.requires.worker.1 told.looked told.stays.1 c.tag.ensures.mine (own_kept c.args.office.own c.meet.new.second looked c.meet.ensures.seen) c.meet.ensures.first
    c.meet_all.ensures.stays.1 c.meet_all.ensures.mine c.meet_all.ensures.seen c.meet_all.ensures.none c.meet-2.ensures.second c.meet-2.ensures.mine c.requires.client.1 c.meet-2.ensures.first_mine in
    adds_office c.args.form c.args.plan.now (arc_value c.args.office.desk).key c.args.worker.mine c.args.client.mine c.args.report.now c.add_sessions-added.new.report (office_with k looked.seen) c.add_sessions-added.result
    (ap (λ (d : LockView Key). d.key) same) told.looked.1.legal told.lines told.count told.journal met.0 met.1 met.2
