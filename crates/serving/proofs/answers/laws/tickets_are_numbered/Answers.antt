use Rattle.serving.proofs.answers_lemmas.Numbered.{tickets_are_numbered}
use Rattle.serving.proofs.answers.laws.tickets_are_numbered.Goals as goal

pub returns : goal.returns
returns c = tickets_are_numbered
