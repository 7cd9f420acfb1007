use Rattle.std.proofs.Common.{◌+◌, take, drop, sym, ap, ◌∙◌, arith}
use Rattle.text_lines.specs.Text.{words_of}
use Rattle.text_lines.specs.marked.refinement.Marks.{put_before}
use Rattle.text_lines.proofs.marked_lemmas.Cuts.{blank_within, taken_of_line, words_cut}
use Rattle.text_lines.proofs.marked.marked.cut_at.Goals as goal

pub split_at-requires : goal.split_at-requires
split_at-requires c =
    let within = blank_within c.args.left.now.text.now c.args.left.now.end c.args.at c.requires.marked.within c.requires.there in
    omega (arith, within, c.requires.marked.within)

pub after-requires-clause-inside : goal.after-requires-clause-inside
after-requires-clause-inside c = blank_within c.args.left.now.text.now c.args.left.now.end c.args.at c.requires.marked.within c.requires.there

-- the line is the word before what is left
pub returns-clause-words : goal.returns-clause-words
returns-clause-words c =
    let line = take c.args.left.now.end c.args.left.now.text.now in
    let within = blank_within c.args.left.now.text.now c.args.left.now.end c.args.at c.requires.marked.within c.requires.there in
    words_cut line c.args.at c.requires.there
    ∙ ap (λ w. put_before w (words_of (drop (c.args.at + 1) line))) (taken_of_line c.args.at c.args.left.now.end c.args.left.now.text.now within ∙ sym c.split_at.ensures.front)
    ∙ ap (λ l. put_before c.split_at.result.0.now (words_of l)) (sym c.after.ensures.left)
