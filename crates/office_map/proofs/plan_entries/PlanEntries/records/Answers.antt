use Rattle.office_map.proofs.ConsistencyKept.{few_records}
use Rattle.office_map.proofs.plan_entries.PlanEntries.records.Goals as goal

pub returns-clause-few : goal.returns-clause-few
returns-clause-few c = rw c.as_slice.ensures (few_records _ c.self.invariant.0)
