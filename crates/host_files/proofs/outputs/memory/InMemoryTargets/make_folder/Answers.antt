use Rattle.std.proofs.Common.{rules}
use Rattle.host_files.proofs.outputs.memory.InMemoryTargets.make_folder.Goals as goal

pub returns : goal.returns
returns c = search rules
