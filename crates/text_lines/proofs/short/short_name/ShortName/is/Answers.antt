use Rattle.std.proofs.Common.{◌∙◌}
use Rattle.text_lines.proofs.short_lemmas.Words.{told}
use Rattle.text_lines.proofs.short.short_name.ShortName.is.Goals as goal

pub returns : goal.returns
returns c =
    rw (← c.self.view_is, ← c.other.view_is)
    (c.are_equal.ensures ∙ told c.self.inside.bytes c.other.inside.bytes c.self.inside.count c.other.inside.count _ _ _ _ c.self.invariant c.other.invariant c.first_eight.ensures c.first_eight-2.ensures c.last_eight.ensures c.last_eight-2.ensures)
