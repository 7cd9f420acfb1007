use Rattle.std.proofs.Common.{length, sym, ap, ◌∙◌}
use Rattle.day_audits.specs.audit.Gathered.{Gathered}
use Rattle.day_audits.proofs.audit_lemmas.Following.{gathered_as, one_each}
use Rattle.day_audits.proofs.audit.journals.Journals.offices.Goals as goal

pub returns-clause-count : goal.returns-clause-count
returns-clause-count c =
    let v : Gathered = gathered_as c.self.inside.plan c.self.inside.slots.items in
    c.offices.ensures.count ∙ sym (one_each v.plan c.self.invariant.0 v c.self.invariant.1) ∙ ap (λ (g : Gathered). length g.slots) c.self.view_is
