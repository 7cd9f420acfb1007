use Rattle.std.proofs.Common.{rules}
use Rattle.site_core.proofs.OfficeSteps.{opens}
use Rattle.site_core.proofs.office.Office.open.Goals as goal

pub invariant_of-result : goal.invariant_of-result
invariant_of-result c = opens c.in_ok-pairs.pairs c.new.result c.new-2.result.entries c.args.plan.now c.args.me c.offices.ensures.consistent c.in_ok-pairs.ensures.office c.in_ok-pairs.ensures.opened c.new.ensures c.new-2.ensures

pub returns-clause-number : goal.returns-clause-number
returns-clause-number c = search rules
