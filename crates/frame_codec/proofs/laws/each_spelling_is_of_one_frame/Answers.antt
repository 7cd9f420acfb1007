use Rattle.frame_codec.specs.SpellingLaws.{same_frame}
use Rattle.frame_codec.proofs.laws.each_spelling_is_of_one_frame.Goals as goal

pub returns : goal.returns
returns c = same_frame
