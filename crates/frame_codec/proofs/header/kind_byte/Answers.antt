use Rattle.frame_codec.proofs.header.kind_byte.Goals as goal

pub returns-in-Some : goal.returns-in-Some
returns-in-Some c = cc

pub returns-in-None : goal.returns-in-None
returns-in-None c = cc
