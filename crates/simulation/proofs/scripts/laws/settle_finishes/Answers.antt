use Rattle.simulation.proofs.scripts_lemmas.Termination.{settle_finishes}
use Rattle.simulation.proofs.scripts.laws.settle_finishes.Goals as goal

pub returns : goal.returns
returns c = settle_finishes c.never_stuck.ensures c.rules_are_done.ensures c.messages_are_taken.ensures c.every_run_ends.ensures c.worlds_settle_by_their_next_steps.ensures
