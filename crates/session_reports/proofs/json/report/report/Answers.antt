use Rattle.std.specs.String.{string_bytes}
use Rattle.session_reports.specs.json.Json.{json_outcome}
use Rattle.session_reports.proofs.json_lemmas.Added.{row_added}
use Rattle.session_reports.proofs.json.report.report.Goals as goal

pub loop-outcome-preserved : goal.loop-outcome-preserved
loop-outcome-preserved c =
    row_added (json_outcome c.args.plan.now) c.args.outcomes.now c.loop-outcome.outcome-index c.outcome-item.result (string_bytes c.loop-outcome.text) (string_bytes c.add_outcome.new.text) c.loop-outcome-test.true c.outcome-item.is c.loop-outcome.invariant c.in_ok-add_outcome.ensures
