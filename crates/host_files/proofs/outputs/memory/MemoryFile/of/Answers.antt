use Rattle.std.proofs.Common.{rules}
use Rattle.host_files.proofs.outputs.memory.MemoryFile.of.Goals as goal

pub returns : goal.returns
returns c = search rules
