use Rattle.std.proofs.Common.{arith}
use Rattle.text_lines.specs.TextLaws.{lines_cut}
use Rattle.text_lines.proofs.FirstLine.{lines_whole}
use Rattle.text_lines.proofs.lines.first_line.Goals as goal

pub returns-then-at-text-clause-cut : goal.returns-then-at-text-clause-cut
returns-then-at-text-clause-cut c =
    lines_cut c.args.text.now c.place_of-at.result c.without_return.result.now c.split_at.result.1.now c.place_of-at.ensures c.if-at-text.true c.without_return.ensures c.split_at.ensures.back

pub returns-else-at-text-clause-cut : goal.returns-else-at-text-clause-cut
returns-else-at-text-clause-cut c = lines_whole c.args.text.now c.requires (omega arith)
