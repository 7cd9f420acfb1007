-- 2 ^ 32 times at most 2 ^ 16 - 1, and less than 2 ^ 32, is below 2 ^ 48
use Rattle.std.proofs.Common.{arith}
use Rattle.office_journal.proofs.pages.packed.joined.Goals as goal

pub returns-clause-range : goal.returns-clause-range
returns-clause-range c = omega arith
