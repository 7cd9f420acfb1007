use Rattle.std.proofs.Common.{◌++◌}
use Rattle.std.specs.List.{flat_map}
use Rattle.std.specs.String.{string_bytes}
use Rattle.frame_world.specs.Headline.{outcomes}
use Rattle.session_reports.specs.form.Forms.{outcome_as, unfinished_as, values_as}
use Rattle.world_schedule.specs.reports.WorldReport.{bottle_value}
use Rattle.world_schedule.proofs.reports_lemmas.Rows.{both_added}
use Rattle.world_schedule.proofs.reports.world.add_world.Goals as goal

pub returns : goal.returns
returns c =
    let w = c.args.world.now in
    both_added (string_bytes c.args.text.now) (flat_map (outcome_as c.args.form w.plan) (outcomes w)) (unfinished_as c.args.form c.args.unfinished ++ values_as c.args.form w.plan (bottle_value w)) _ _
    c.in_ok-add_finished.ensures c.in_ok-add_rest.ensures
