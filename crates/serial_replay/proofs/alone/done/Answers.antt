use Rattle.serial_replay.proofs.alone.done.Goals as goal

pub returns : goal.returns
returns c = cc
