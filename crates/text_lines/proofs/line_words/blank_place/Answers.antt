use Rattle.std.proofs.Common.{arith, sym, ◌∙◌, ◌≤◌, length}
use Rattle.std.proofs.lemmas.List.Sums.{position_or_len_is}
use Rattle.text_lines.specs.Text.{is_blank}
use Rattle.text_lines.proofs.FirstWord.{far_place}
use Rattle.text_lines.proofs.line_words.blank_place.Goals as goal
use Rattle.text_lines.proofs.line_words.blank_place.Goals.{then-line-lt-SHORT_WORD, else-line-lt-SHORT_WORD}

pub returns-then-is_blank : goal.returns-then-is_blank
returns-then-is_blank c =
    sym (position_or_len_is is_blank c.args.line.now c.loop-place.place 0 (omega arith) c.loop-place.invariant (λ lt. sym c.is_blank.ensures ∙ c.if-is_blank.true))

pub returns : goal.returns
returns c =
    let inside : c.if-line-lt-SHORT_WORD.near ≤ length c.args.line.now = elim c.if-line-lt-SHORT_WORD.branch [
      | then-line-lt-SHORT_WORD w ↦ omega arith
      | else-line-lt-SHORT_WORD w ↦ omega arith
    ] in
    c.far_place.ensures ∙ far_place is_blank c.args.line.now c.if-line-lt-SHORT_WORD.near inside (λ k lt. c.loop-place.invariant k (omega (arith, lt)))
