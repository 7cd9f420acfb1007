use Rattle.own_lock.proofs.StepsKeepRule.{word_left_is_found}
use Rattle.own_lock.proofs.laws.word_left_is_found.Goals as goal

pub returns : goal.returns
returns g c k passes s step steps rule may leaves nothing = word_left_is_found _ _ _ _ k passes s step steps rule may leaves nothing
