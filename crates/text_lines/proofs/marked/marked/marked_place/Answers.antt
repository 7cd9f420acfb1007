use Rattle.std.proofs.Common.{refl, arith}
use Rattle.text_lines.proofs.marked_lemmas.Places.{place_marked, place_at_end}
use Rattle.text_lines.proofs.marked.marked.marked_place.Goals as goal

pub returns-then-at-line : goal.returns-then-at-line
returns-then-at-line c = place_marked c.args.line.text.now c.args.line.end c.args.line.low c.args.line.seen _ c.requires.marked refl c.requires.told c.if-at-line.true

pub returns-else-at-line : goal.returns-else-at-line
returns-else-at-line c = place_at_end c.args.line.text.now c.args.line.end c.args.line.low c.args.line.seen _ c.requires.marked refl c.requires.told (omega (arith, c.if-at-line.false))
