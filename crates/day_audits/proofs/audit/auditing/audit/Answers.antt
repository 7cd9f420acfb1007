use Rattle.std.proofs.Common.{length, sym, ap, subst, ◌∙◌}
use Rattle.std.specs.String.{string_bytes}
use Rattle.std.proofs.lemmas.Result.{IfOk-weaker}
use Rattle.office_map.specs.PlanValue.{PlanValue}
use Rattle.day_audits.specs.audit.Following.{FollowSome}
use Rattle.day_audits.specs.audit.Findings.{TellsWoven, TellsUnwoven}
use Rattle.day_audits.proofs.audit_lemmas.Following.{tells_of}
use Rattle.day_audits.proofs.audit_lemmas.Telling.{none_more, some_more}
use Rattle.day_audits.proofs.audit.auditing.audit.Goals as goal

pub told-requires-clause-one_each : goal.told-requires-clause-one_each
told-requires-clause-one_each c = c.in_ok-replays.ensures.one_each ∙ ap (λ (p : PlanValue). length p.offices) (sym (c.in_ok-plan.ensures ∙ c.plan.ensures))

pub told-requires-clause-follow : goal.told-requires-clause-follow
told-requires-clause-follow c = subst (λ (p : PlanValue). FollowSome p c.in_ok-replays.replays.items) (sym (c.in_ok-plan.ensures ∙ c.plan.ensures)) c.in_ok-replays.ensures.some

pub returns-clause-woven : goal.returns-clause-woven
returns-clause-woven c =
    IfOk-weaker c.told.result _ _
    (λ a h. some_more a.world _ _
    (λ w told. tells_of (TellsWoven c.args.form w) c.args.journals c.in_ok-replays.replays.items c.in_ok-plan.plan (string_bytes a.text) (c.in_ok-plan.ensures ∙ c.plan.ensures) c.in_ok-replays.ensures.journals told) h) c.told.ensures.woven

pub returns-clause-unwoven : goal.returns-clause-unwoven
returns-clause-unwoven c =
    IfOk-weaker c.told.result _ _
    (λ a h. none_more a.world _ _
    (λ told. tells_of (TellsUnwoven c.args.form) c.args.journals c.in_ok-replays.replays.items c.in_ok-plan.plan (string_bytes a.text) (c.in_ok-plan.ensures ∙ c.plan.ensures) c.in_ok-replays.ensures.journals told) h) c.told.ensures.unwoven
