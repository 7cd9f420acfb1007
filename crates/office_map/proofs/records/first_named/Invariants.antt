use Rattle.office_map.proofs.RecordChains.{IsWalked}
use Rattle.office_map.proofs.records.first_named.Given as goal

abbrev pub invariant-chain : goal.invariant-chain
invariant-chain l = IsWalked l.entries l.name l.at l.found

abbrev pub decreases-chain : goal.decreases-chain
decreases-chain l = l.at
