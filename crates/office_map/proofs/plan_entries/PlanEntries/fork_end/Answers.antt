use Rattle.std.proofs.Common.{◌≡◌, true, sym}
use Rattle.office_map.specs.PlanValue.{joins}
use Rattle.office_map.proofs.FirstPosition.{found_if_any, found_passes}
use Rattle.office_map.proofs.ConsistencyKept.{fork_is_end}
use Rattle.office_map.proofs.plan_entries.PlanEntries.fork_end.Goals as goal

pub unreachable-requires : goal.unreachable-requires
unreachable-requires c =
    found_if_any (joins c.args.a c.args.b) c.args.self.now.pairs c.requires (sym c.in-None.ensures)

pub returns-clause-either : goal.returns-clause-either
returns-clause-either c =
    let passes : joins c.args.a c.args.b c.in-Some.pair.now ≡ true = found_passes (joins c.args.a c.args.b) c.args.self.now.pairs c.in-Some.pair.now (sym c.in-Some.ensures) in
    rw c.fork_end.ensures (fork_is_end c.args.a c.args.b c.in-Some.pair.now passes)
