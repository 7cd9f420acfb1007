use Rattle.datagram_seals.proofs.frames_lemmas.SealsOpened.{one_frame}
use Rattle.datagram_seals.proofs.frames.laws.one_frame_is_sealed_so.Goals as goal

pub returns : goal.returns
returns c = one_frame
