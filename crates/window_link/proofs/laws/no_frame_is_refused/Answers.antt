use Rattle.window_link.proofs.RunsExtended.{none_refused}
use Rattle.window_link.proofs.laws.no_frame_is_refused.Goals as goal

pub returns : goal.returns
returns c = none_refused
