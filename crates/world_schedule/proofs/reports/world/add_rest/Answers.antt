use Rattle.std.specs.String.{string_bytes}
use Rattle.session_reports.specs.form.Forms.{unfinished_as, values_as}
use Rattle.world_schedule.specs.reports.WorldReport.{bottle_value}
use Rattle.world_schedule.proofs.reports_lemmas.Rows.{both_added}
use Rattle.world_schedule.proofs.reports.world.add_rest.Goals as goal

pub returns : goal.returns
returns c =
    let w = c.args.world.now in
    both_added (string_bytes c.args.text.now) (unfinished_as c.args.form c.args.unfinished) (values_as c.args.form w.plan (bottle_value w)) _ _ c.in_ok-add_unfinished.ensures c.in_ok-add_bottles.ensures
