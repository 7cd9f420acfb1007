use Rattle.datagram_seals.proofs.frames_lemmas.SealsOpened as seals
use Rattle.datagram_seals.proofs.frames.laws.sealed_or_forged.Goals as goal

pub returns : goal.returns
returns c = seals.sealed_or_forged
