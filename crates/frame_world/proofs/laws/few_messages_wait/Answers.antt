use Rattle.frame_world.proofs.FewWait.{few_messages_wait}
use Rattle.frame_world.proofs.laws.few_messages_wait.Goals as goal

pub returns : goal.returns
returns c = few_messages_wait c.opens_as_the_plan_starts.ensures
