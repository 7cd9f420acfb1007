use Rattle.std.proofs.Common.{◌∙◌}
use Rattle.text_lines.specs.Text.{is_blank}
use Rattle.text_lines.proofs.marked_lemmas.Cuts.{first_place}
use Rattle.text_lines.proofs.marked.marked.blank_place.Goals as goal

pub returns : goal.returns
returns c = c.unwrap_or.ensures ∙ first_place is_blank c.args.line.now c.memchr2.result c.memchr2.ensures
