use Rattle.session_streams.proofs.requests_lemmas.Parts.{parts_are_one}
use Rattle.session_streams.proofs.requests.laws.parts_are_one.Goals as goal

pub returns : goal.returns
returns c = parts_are_one
