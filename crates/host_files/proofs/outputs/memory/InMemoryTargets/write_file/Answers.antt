use Rattle.std.proofs.Common.{rules}
use Rattle.host_files.proofs.outputs.memory.InMemoryTargets.write_file.Goals as goal

pub returns-clause-adds : goal.returns-clause-adds
returns-clause-adds c = search rules

pub returns-clause-fails : goal.returns-clause-fails
returns-clause-fails c = search rules

pub returns-then-not-has_place-clause-adds : goal.returns-then-not-has_place-clause-adds
returns-then-not-has_place-clause-adds c = search rules
