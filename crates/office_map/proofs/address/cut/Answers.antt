use Rattle.std.proofs.Common.{arith, ◌==◌, refl}
use Rattle.text_lines.specs.TextLaws.{cut_there, cut_nowhere}
use Rattle.office_map.proofs.address.cut.Goals as goal

pub returns-then-place-word : goal.returns-then-place-word
returns-then-place-word c =
    cut_there (λ b. b == c.args.at) c.args.word.now c.place_of-place.result _ c.split_at.result.1.now c.place_of-place.ensures c.if-place-word.true refl c.split_at.ensures.back

pub returns-else-place-word : goal.returns-else-place-word
returns-else-place-word c = cut_nowhere (λ b. b == c.args.at) c.args.word.now (omega arith)
