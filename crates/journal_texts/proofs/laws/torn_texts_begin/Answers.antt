use Rattle.journal_texts.proofs.TornTexts.{torn_texts_begin}
use Rattle.journal_texts.proofs.laws.torn_texts_begin.Goals as goal

pub returns : goal.returns
returns c = torn_texts_begin
