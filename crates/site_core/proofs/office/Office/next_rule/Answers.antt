use Rattle.office_map.specs.Consistency.{IsConsistent}
use Rattle.site_core.specs.RuleOrder.{next_rule}
use Rattle.site_core.proofs.OfficeSteps.{told_of}
use Rattle.site_core.proofs.NoneNext.{rest_where_none}
use Rattle.site_core.proofs.office.Office.next_rule.Goals as goal
use Rattle.std.proofs.Common.{ap, subst, ◌∙◌}
use Rattle.site_core.specs.Journals.{Site, office_of}

pub returns-clause-first : goal.returns-clause-first
returns-clause-first c =
    let s = c.self.inside in
    told_of s.pairs s.agenda s.journal.entries (next_rule s.pairs.plan s.pairs.me) c.next_rule.result c.self.invariant c.next_rule.ensures ∙ ap (λ (x : Site). next_rule x.plan x.me (office_of x)) c.self.view_is

pub returns-clause-none : goal.returns-clause-none
returns-clause-none c =
    let o = office_of c.args.self.now in
    rest_where_none c.args.self.now.plan c.args.self.now.me o c.next_rule.result (subst IsConsistent c.plan.ensures c.offices.ensures.consistent) (returns-clause-first c)
