use Rattle.frame_codec.proofs.header.Kind.admits.Goals as goal

pub returns-in-Ack : goal.returns-in-Ack
returns-in-Ack c = cc
