use Rattle.std.proofs.Common.{◌≡◌, drop}
use Rattle.text_lines.specs.Text.{says_something}
use Rattle.text_lines.proofs.statements.says_something.Given as goal

abbrev pub invariant-loop-b : goal.invariant-loop-b
invariant-loop-b l = says_something (drop l.b-index l.line) ≡ says_something l.line
