use Rattle.journal_texts.proofs.wording_lemmas.LinesOfWords.{lines_are_cut}
use Rattle.journal_texts.proofs.wording.laws.lines_are_cut_into_their_words.Goals as goal

pub returns : goal.returns
returns c = lines_are_cut
