use Rattle.std.proofs.Common.{◌+◌, ◌<◌, ◌^◌, length}
use Rattle.text_lines.specs.Text.{lines, statements_from}
use Rattle.session_streams.specs.requests.refinement.{asking_of}
use Rattle.session_streams.proofs.requests_lemmas.AskedLines.{Asks}
use Rattle.session_streams.proofs.requests.requests.RequestReader.take_lines.Given as goal

abbrev pub invariant-loop-number : goal.invariant-loop-number
invariant-loop-number l = Asks l.plan l.me (asking_of l.initial.self) l.initial.asked.items (statements_from l.fn.said.number (lines l.fn.said.rest.now)) (asking_of l.self) l.asked.items (statements_from l.left.number (lines l.left.rest.now))
    × (l.left.number + length l.left.rest.now < 2 ^ 64)

abbrev pub decreases-loop-number : goal.decreases-loop-number
decreases-loop-number l = length l.left.rest.now
