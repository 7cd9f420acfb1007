use Rattle.std.proofs.Common.{◌∙◌}
use Rattle.text_lines.proofs.short_lemmas.Words.{high_is}
use Rattle.text_lines.proofs.short.short_name.last_eight.Goals as goal

pub returns : goal.returns
returns c = c.from_le_bytes.ensures ∙ high_is c.args.bytes.now
