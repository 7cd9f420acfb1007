use Rattle.std.proofs.Common.{arith, refl}
use Rattle.text_lines.proofs.marked_lemmas.Blocks.{printable_all, printable_first}
use Rattle.text_lines.proofs.marked.marks.printable_of_block.Goals as goal

pub returns-then-control-eq0-clause-printable : goal.returns-then-control-eq0-clause-printable
returns-then-control-eq0-clause-printable c = printable_all c.args.text.now c.requires c.if-high-ne0.false c.if-control-eq0.true

pub returns-clause-printable : goal.returns-clause-printable
returns-clause-printable c = printable_first c.args.text.now _ c.requires c.if-high-ne0.false (omega (arith, c.if-control-eq0.false)) refl
