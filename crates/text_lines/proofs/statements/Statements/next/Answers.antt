use Rattle.std.proofs.Common.{rules}
use Rattle.text_lines.proofs.statements.Statements.next.Goals as goal

pub loop-first-preserved : goal.loop-first-preserved
loop-first-preserved c = search rules
