use Rattle.session_streams.proofs.requests_lemmas.Texts.{texts_are_asked}
use Rattle.session_streams.proofs.requests.laws.texts_are_asked.Goals as goal

pub returns : goal.returns
returns c = texts_are_asked
