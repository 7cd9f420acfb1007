use Rattle.session_reports.proofs.Rows.{rows_more}
use Rattle.session_reports.proofs.laws.rows_are_added.Goals as goal

pub returns : goal.returns
returns c = rows_more
