use Rattle.std.proofs.Common.{refl}
use Rattle.text_lines.specs.short.refinement.Packing.{key_of}
use Rattle.text_lines.proofs.short.short_name.ShortName.key.Goals as goal

pub returns : goal.returns
unfolding key_of
returns c =
    rw (c.first_eight.ensures, c.last_eight.ensures, ← c.self.view_is, c.self.invariant.filled)
