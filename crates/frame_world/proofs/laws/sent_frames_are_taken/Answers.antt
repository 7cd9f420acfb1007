use Rattle.frame_world.proofs.SentFrames.{sent_frames_are_taken}
use Rattle.frame_world.proofs.laws.sent_frames_are_taken.Goals as goal

pub returns : goal.returns
returns c = sent_frames_are_taken c.each_has_one_place.ensures c.each_has_one_place-2.ensures
