use Rattle.simulation.proofs.scripts_lemmas.OneWay.{worlds_settle_in_one_way}
use Rattle.simulation.proofs.scripts.laws.worlds_settle_in_one_way.Goals as goal

pub returns : goal.returns
returns c = worlds_settle_in_one_way
