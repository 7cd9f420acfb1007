use Rattle.std.proofs.Common.{◌≡◌, ◌<◌, length, arith}
use Rattle.office_map.specs.refinement.OfficeIndex.{index_of}
use Rattle.office_map.proofs.FilteredRanges.{length-index, index_at}
use Rattle.office_map.proofs.plan.Plan.office_index.Goals as goal

pub index-requires-2 : goal.index-requires-2
index-requires-2 c =
    let said = c.deref.result.now in
    let kept : said.index.items ≡ index_of said.tables = rw c.deref.ensures c.self.invariant.0 in
    let id : c.args.id < length said.tables.offices = rw (c.deref.ensures, c.self.view_is) c.requires in
    omega (arith, length-index said.tables said.index.items kept, said.index.ok.0)

pub returns-clause-lists : goal.returns-clause-lists
returns-clause-lists c =
    let said = c.deref.result.now in
    let kept : said.index.items ≡ index_of said.tables = rw c.deref.ensures c.self.invariant.0 in
    let id : c.args.id < length said.tables.offices = rw (c.deref.ensures, c.self.view_is) c.requires in
    rw (← c.self.view_is, ← c.deref.ensures) (index_at said.tables said.index.items c.args.id c.index.result c.index-2.result.now kept id c.index.ensures c.index-2.ensures)
