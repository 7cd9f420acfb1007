use Rattle.day_audits.proofs.left_lemmas.EachOnce.{each_once}
use Rattle.day_audits.proofs.left.laws.nothing_is_lost_or_twice.Goals as goal

pub returns : goal.returns
returns c = each_once c.sessions_go_in_order.ensures
