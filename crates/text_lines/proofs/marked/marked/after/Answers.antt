use Rattle.std.proofs.Common.{◌+◌, ◌-◌, ◌/◌, ◌^◌, ℕ, List, sym, subst, arith}
use Rattle.text_lines.specs.marked.refinement.Marks.{IsMarked}
use Rattle.text_lines.proofs.marked_lemmas.Places.{marked_left}
use Rattle.text_lines.proofs.marked.marked.after.Goals as goal

pub returns-then-at-line-2-clause-marked : goal.returns-then-at-line-2-clause-marked
returns-then-at-line-2-clause-marked c =
    subst (λ (l : List ℕ). IsMarked l (c.args.line.end - (c.args.at + 1)) (c.args.line.low / 2 / 2 ^ c.args.at) (c.args.line.seen - (c.args.at + 1))) (sym c.split_at.ensures.back)
    (marked_left c.args.line.text.now c.args.line.end c.args.line.low c.args.line.seen c.args.at c.requires.marked (omega (arith, c.requires.inside, c.if-at-line.false)) c.if-at-line-2.true)
