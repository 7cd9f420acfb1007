use Rattle.std.proofs.Common.{arith}
use Rattle.office_map.proofs.ring_search.place_of_least.Goals as goal

pub returns : goal.returns
returns c = omega arith
