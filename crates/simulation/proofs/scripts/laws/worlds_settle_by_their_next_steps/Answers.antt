use Rattle.simulation.proofs.scripts_lemmas.Settling.{worlds_settle_by_their_next_steps}
use Rattle.simulation.proofs.scripts.laws.worlds_settle_by_their_next_steps.Goals as goal

pub returns : goal.returns
returns c = worlds_settle_by_their_next_steps c.never_stuck.ensures c.rules_are_done.ensures c.messages_are_taken.ensures
