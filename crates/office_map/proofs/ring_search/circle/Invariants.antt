use Rattle.std.proofs.Common.{◌-◌, length}
use Rattle.office_map.proofs.Rings.{IsPath}
use Rattle.office_map.proofs.ring_search.circle.Given as goal

abbrev pub invariant-loop-path : goal.invariant-loop-path
invariant-loop-path l = IsPath l.tables l.placed l.path.items l.office

abbrev pub decreases-loop-path : goal.decreases-loop-path
decreases-loop-path l = length l.tables.offices - length l.path.items
