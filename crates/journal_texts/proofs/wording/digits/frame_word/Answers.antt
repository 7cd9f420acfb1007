use Rattle.std.proofs.Common.{rules}
use Rattle.journal_texts.proofs.wording_lemmas.DigitWords.{no_frame}
use Rattle.journal_texts.proofs.wording.digits.frame_word.Goals as goal

pub returns-in-Err : goal.returns-in-Err
returns-in-Err c = (c.has_bytes.new.bytes, search rules, no_frame c.has_bytes.new.bytes c.decode.result c.in-Err.field-0 c.decode.ensures.only c.in-Err.is)
