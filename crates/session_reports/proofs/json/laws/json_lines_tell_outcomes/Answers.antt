use Rattle.session_reports.proofs.json_lemmas.Lines.{lines_tell}
use Rattle.session_reports.proofs.json.laws.json_lines_tell_outcomes.Goals as goal

pub returns : goal.returns
returns c = lines_tell
