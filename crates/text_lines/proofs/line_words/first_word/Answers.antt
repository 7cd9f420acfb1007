use Rattle.std.proofs.Common.{not, sym, ◌∙◌}
use Rattle.std.proofs.lemmas.List.Sums.{prefix_len-le-length}
use Rattle.text_lines.specs.Text.{is_blank}
use Rattle.text_lines.proofs.FirstWord.{first_word_cut}
use Rattle.text_lines.proofs.line_words.first_word.Goals as goal

pub split_at-requires : goal.split_at-requires
split_at-requires c = rw c.blank_place.ensures (prefix_len-le-length (λ b. not (is_blank b)) c.loop-first.left.now)

pub returns-then-not-is_blank : goal.returns-then-not-is_blank
returns-then-not-is_blank c =
    rw (c.split_at.ensures.front, c.split_at.ensures.back) (sym c.loop-first.invariant ∙ first_word_cut c.loop-first.left.now c.in-Some.first.now c.in-Some.next.now c.blank_place.result c.in-Some.ensures.cases.0 (sym c.is_blank.ensures ∙ c.if-not-is_blank.true) c.blank_place.ensures)
