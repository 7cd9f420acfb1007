use Rattle.std.proofs.Common.{rules}
use Rattle.office_map.proofs.address.is_number_within.Goals as goal

pub returns-then-low-n : goal.returns-then-low-n
returns-then-low-n c = search rules
