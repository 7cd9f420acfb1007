use Rattle.frame_world.proofs.FrameBytes.{frames_go_by_bytes}
use Rattle.frame_world.proofs.laws.frames_go_by_bytes.Goals as goal

pub returns : goal.returns
returns c = frames_go_by_bytes c.each_spelling_is_of_one_frame.ensures
