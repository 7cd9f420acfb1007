use Rattle.simulation.proofs.random_lemmas.Running.{on_ok}
use Rattle.simulation.proofs.random.steps.step.Goals as goal

pub returns-in-0 : goal.returns-in-0
returns-in-0 c = on_ok c.rule.result _ _ (λ h. h c.args.loss) c.rule.ensures

pub returns-in-1 : goal.returns-in-1
returns-in-1 c = on_ok c.send.result _ _ (λ h. h c.args.loss) c.send.ensures
