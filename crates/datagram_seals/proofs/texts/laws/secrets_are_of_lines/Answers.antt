use Rattle.datagram_seals.proofs.texts_lemmas.SharedSecrets as shared
use Rattle.datagram_seals.proofs.texts.laws.secrets_are_of_lines.Goals as goal

pub returns : goal.returns
returns c = shared.secrets_are_of_lines
