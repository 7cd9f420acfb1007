use Rattle.datagram_seals.proofs.wires_lemmas.Opened as opened
use Rattle.datagram_seals.proofs.wires.laws.each_is_opened.Goals as goal

pub returns : goal.returns
returns c = opened.each_is_opened
