use Rattle.frame_codec.specs.SpellingLaws.{same_spelling}
use Rattle.frame_codec.proofs.laws.no_spelling_begins_another.Goals as goal

pub returns : goal.returns
returns c = same_spelling
