use Rattle.std.proofs.Common.{sym, ap, ◌∙◌}
use Rattle.std.specs.List.{list_all}
use Rattle.text_lines.specs.Text.{is_plain, words_of}
use Rattle.text_lines.proofs.marked_lemmas.PlainLines.{is_plain_line, is_first, words_there}
use Rattle.text_lines.proofs.marked.statements.next_words.Goals as goal

pub of-requires-clause-plain : goal.of-requires-clause-plain
of-requires-clause-plain c = is_plain_line c.args.left.now.rest.now c.in-Some.end c.in-Some.ensures

pub returns-in-Some-clause-gives : goal.returns-in-Some-clause-gives
returns-in-Some-clause-gives c =
    is_first c.args.left.now.rest.now c.in-Some.end c.in-Some.ensures c.split_at-in-Some.result.0.now c.split_at.result.1.now c.args.left.now.number c.split_at-in-Some.ensures.front c.split_at.ensures.back

pub returns-in-Some-clause-words : goal.returns-in-Some-clause-words
returns-in-Some-clause-words c =
    let front = c.split_at-in-Some.ensures.front in
    words_there c.split_at-in-Some.result.0.now c.of.result (ap (list_all is_plain) front ∙ is_plain_line c.args.left.now.rest.now c.in-Some.end c.in-Some.ensures) (c.of.ensures ∙ ap words_of (sym front))
