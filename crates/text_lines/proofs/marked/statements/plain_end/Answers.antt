use Rattle.text_lines.proofs.marked_lemmas.PlainLines.{begins_plain}
use Rattle.text_lines.proofs.marked.statements.plain_end.Goals as goal

pub returns-then-text-gt35 : goal.returns-then-text-gt35
returns-then-text-gt35 c = begins_plain c.args.text.now c.printable_run-end.result c.if-end-text.true c.printable_run-end.ensures.printable c.if-text-end-eq10.true c.if-text-gt35.true
