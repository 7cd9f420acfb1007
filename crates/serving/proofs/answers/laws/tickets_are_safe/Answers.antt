use Rattle.serving.proofs.answers_lemmas.Promises.{tickets_are_safe}
use Rattle.serving.proofs.answers.laws.tickets_are_safe.Goals as goal

pub returns : goal.returns
returns c = tickets_are_safe
