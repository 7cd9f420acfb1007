use Rattle.text_lines.proofs.short_lemmas.Packed.{is_name}
use Rattle.text_lines.proofs.short.short_name.ShortName.as_bytes.Goals as goal

pub returns-clause-short : goal.returns-clause-short
returns-clause-short c = is_name c.self.inside.bytes c.self.inside.count c.self.invariant
