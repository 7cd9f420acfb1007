use Rattle.std.specs.String.{string_bytes}
use Rattle.std.proofs.lemmas.Result.{IfOk-weaker}
use Rattle.day_audits.proofs.ends_lemmas.NextPlans.{next_of_list}
use Rattle.day_audits.proofs.ends.plans.next_plan_with.Goals as goal

pub returns : goal.returns
returns c = IfOk-weaker c.next_plan.result _ _ (λ text h m listed. next_of_list c.args.plan.now c.args.values.now m (string_bytes text) h listed) c.next_plan.ensures
