use Rattle.session_streams.proofs.TextsHeard.{texts_are_heard}
use Rattle.session_streams.proofs.laws.texts_are_heard.Goals as goal

pub returns : goal.returns
returns c = texts_are_heard
