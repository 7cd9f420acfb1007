use Rattle.std.proofs.Common.{Some, length, sym, ap, subst, ◌∙◌}
use Rattle.std.proofs.lemmas.List.{length-map}
use Rattle.day_audits.specs.audit.Gathered.{Gathered}
use Rattle.day_audits.specs.audit.Following.{FollowSome}
use Rattle.day_audits.proofs.audit_lemmas.Following.{gathered_as, one_each, follow_journals}
use Rattle.day_audits.proofs.audit.journals.Journals.into_replays.Goals as goal

pub returns-clause-one_each : goal.returns-clause-one_each
returns-clause-one_each c =
    let v : Gathered = gathered_as c.self.inside.plan c.self.inside.slots.items in
    sym (length-map c.in_ok-replays.replays.items Some) ∙ ap length c.in_ok-replays.ensures ∙ one_each v.plan c.self.invariant.0 v c.self.invariant.1 ∙ ap (λ (g : Gathered). length g.plan.offices) c.self.view_is

pub returns-clause-journals : goal.returns-clause-journals
returns-clause-journals c plan texts g = follow_journals plan texts c.args.self c.in_ok-replays.replays.items g (c.in_ok-replays.ensures ∙ ap (λ (x : Gathered). x.slots) c.self.view_is)

pub returns-clause-some : goal.returns-clause-some
returns-clause-some c =
    let v : Gathered = gathered_as c.self.inside.plan c.self.inside.slots.items in
    let rs = c.in_ok-replays.replays.items in
    let f = follow_journals v.plan c.self.invariant.0 v rs c.self.invariant.1 c.in_ok-replays.ensures in
    subst (λ (g : Gathered). FollowSome g.plan rs) c.self.view_is (f.journals, f.follow)
