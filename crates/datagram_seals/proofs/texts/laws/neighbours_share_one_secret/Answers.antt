use Rattle.datagram_seals.proofs.texts_lemmas.SharedSecrets as shared
use Rattle.datagram_seals.proofs.texts.laws.neighbours_share_one_secret.Goals as goal

pub returns : goal.returns
returns c = shared.neighbours_share_one_secret
