use Rattle.std.proofs.Common.{◌≡◌, ◌<◌, ◌^◌, take}
use Rattle.text_lines.specs.Text.{decimal}
use Rattle.text_lines.proofs.numbers.digits.Given as goal

abbrev pub invariant-loop-b : goal.invariant-loop-b
invariant-loop-b l = (l.value ≡ decimal (take l.b-index l.word)) × (l.value < 10 ^ l.b-index)
