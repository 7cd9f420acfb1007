use Rattle.day_audits.proofs.left_lemmas.TextsRead.{read_in_turn}
use Rattle.day_audits.proofs.left.laws.texts_are_read_in_turn.Goals as goal

pub returns : goal.returns
returns c = read_in_turn
