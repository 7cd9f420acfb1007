use Rattle.window_link.proofs.Invariant.{streams_kept}
use Rattle.window_link.proofs.laws.streams_stay_lawful.Goals as goal

pub returns : goal.returns
returns c = streams_kept
