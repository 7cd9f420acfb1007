use Rattle.std.proofs.Common.{◌∙◌}
use Rattle.text_lines.proofs.short_lemmas.Words.{low_is}
use Rattle.text_lines.proofs.short.short_name.first_eight.Goals as goal

pub returns : goal.returns
returns c = c.from_le_bytes.ensures ∙ low_is c.args.bytes.now
