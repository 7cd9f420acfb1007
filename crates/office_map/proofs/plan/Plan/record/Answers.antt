use Rattle.std.proofs.Common.{◌<◌, length}
use Rattle.office_map.proofs.ConsistencyKept.{record_ends}
use Rattle.office_map.proofs.plan.Plan.record.Goals as goal

pub returns-clause-ends : goal.returns-clause-ends
returns-clause-ends c =
    let said = c.deref.result.now in
    let id : c.args.r < length said.tables.records = rw (c.deref.ensures, c.self.view_is) c.requires in
    rw (← c.self.view_is, ← c.deref.ensures) (record_ends said.tables c.args.r c.index-records-index.result c.records.ensures.consistent id (rw (c.records.ensures.all, c.index.ensures) at c.index-records-index.is))
