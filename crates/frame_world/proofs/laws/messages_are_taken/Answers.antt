use Rattle.frame_world.proofs.StepsTaken.{messages_are_taken}
use Rattle.frame_world.proofs.laws.messages_are_taken.Goals as goal

pub returns : goal.returns
returns c = messages_are_taken c.sent_frames_are_taken.ensures
