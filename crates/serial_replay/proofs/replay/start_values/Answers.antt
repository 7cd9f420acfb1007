use Rattle.std.proofs.Common.{rules}
use Rattle.serial_replay.proofs.replay.start_values.Goals as goal

pub returns : goal.returns
returns c = search rules
