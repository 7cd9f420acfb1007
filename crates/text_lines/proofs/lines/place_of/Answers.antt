use Rattle.std.proofs.Common.{◌∙◌, ◌==◌}
use Rattle.text_lines.proofs.FirstLine.{first_place}
use Rattle.text_lines.proofs.lines.place_of.Goals as goal

pub returns : goal.returns
returns c = c.unwrap_or.ensures ∙ first_place (λ b. b == c.args.byte) c.args.text.now c.memchr.result c.memchr.ensures
