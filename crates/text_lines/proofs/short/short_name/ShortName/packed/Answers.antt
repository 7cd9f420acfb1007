use Rattle.std.proofs.Common.{◌∙◌, ap, take, length}
use Rattle.text_lines.proofs.short_lemmas.Packed.{few, packed, front_of_padded}
use Rattle.text_lines.specs.short.refinement.Packing.{IsPacked}
use Rattle.text_lines.proofs.short.short_name.ShortName.packed.Goals as goal

pub padded-requires : goal.padded-requires
padded-requires c = few c.args.bytes.now c.requires

pub invariant_of-result : goal.invariant_of-result
invariant_of-result c = rw c.padded.ensures (packed c.args.bytes.now c.requires)

pub returns : goal.returns
returns c = ap (take (length c.args.bytes.now)) c.padded.ensures ∙ front_of_padded c.args.bytes.now
