use Rattle.session_streams.proofs.LinesClose.{lines_close_one}
use Rattle.session_streams.proofs.laws.lines_close_one.Goals as goal

pub returns : goal.returns
returns c = lines_close_one
