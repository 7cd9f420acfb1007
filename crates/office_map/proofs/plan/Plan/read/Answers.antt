use Rattle.std.proofs.lemmas.Result.{err_from_is_err_and}
use Rattle.office_map.proofs.AcceptedPlans.{complete_plan, refused_line}
use Rattle.office_map.specs.Consistency.{IsComplete}
use Rattle.office_map.proofs.plan.Plan.read.Goals as goal

pub returns-in_err-tables-clause-line : goal.returns-in_err-tables-clause-line
returns-in_err-tables-clause-line c =
    let e = err_from_is_err_and c.from_residual.result c.from_residual.ensures.1 in
    rw (e.1, e.2) (refused_line c.args.text.now _ c.in_err-tables.ensures)

pub returns-clause-accepted : goal.returns-clause-accepted
returns-clause-accepted c =
    let complete : IsComplete c.in_ok-tables.tables = complete_plan c.args.text.now c.in_ok-tables.tables c.in_ok-tables.ensures in
    rw c.in_ok-said.ensures.ok record {
      consistent = complete.0;
      two_offices = complete.1;
      no_ring = record { order = c.in_ok-order.order.items; is = c.in_ok-order.ensures.is_order };
    }

pub invariant_of-result : goal.invariant_of-result
invariant_of-result c = rw c.in_ok-said.ensures.ok (c.in_ok-index.ensures, c.in_ok-order.ensures, complete_plan c.args.text.now c.in_ok-tables.tables c.in_ok-tables.ensures)
