use Rattle.office_map.proofs.RecordChains.{no_chains, no_starts}
use Rattle.office_map.proofs.records.RecordTable.new.Goals as goal

pub invariant_of-result : goal.invariant_of-result
invariant_of-result c = rw (c.new.ensures.items, c.new-2.ensures.items) (no_chains, no_starts)
