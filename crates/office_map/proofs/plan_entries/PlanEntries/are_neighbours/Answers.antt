use Rattle.std.proofs.Common.{arith, sym}
use Rattle.office_map.proofs.RecordCountsKept.{no_neighbours}
use Rattle.office_map.proofs.plan_entries.PlanEntries.are_neighbours.Goals as goal
use Rattle.office_map.proofs.plan_entries.PlanEntries.are_neighbours.Goals.{then-index-offices-via-then-index-offices, then-index-offices-via-else-index-offices+then-index-offices-2}

pub returns-then-index-offices : goal.returns-then-index-offices
returns-then-index-offices c = rw (← c.self.view_is) (sym (no_neighbours _ c.args.a c.args.b c.self.invariant.0 (λ first second.
    elim c.then-index-offices.branch [
      | then-index-offices-via-then-index-offices w ↦ omega (arith, first, w.if-index-offices.true, c.index.ensures, c.len-offices.ensures)
      | then-index-offices-via-else-index-offices+then-index-offices-2 w ↦ omega (arith, second, w.if-index-offices-2.true, w.index-else-index-offices.ensures, c.len-offices.ensures)
    ])))
