use Rattle.std.proofs.Common.{rules}
use Rattle.host_files.proofs.outputs.disk.write_whole.Goals as goal

pub returns : goal.returns
returns g c = search rules
