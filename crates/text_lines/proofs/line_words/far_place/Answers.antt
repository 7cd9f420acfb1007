use Rattle.std.proofs.Common.{ap, ◌+◌, ◌∙◌}
use Rattle.std.specs.List.{position_or_len}
use Rattle.text_lines.specs.Text.{is_blank}
use Rattle.text_lines.proofs.FirstLine.{first_place}
use Rattle.text_lines.proofs.line_words.far_place.Goals as goal

pub returns : goal.returns
returns c =
    ap (λ n. c.args.near + n)
    (c.unwrap_or.ensures ∙ first_place is_blank c.split_at.result.1.now c.memchr2.result c.memchr2.ensures ∙ ap (position_or_len is_blank) c.split_at.ensures.back)
