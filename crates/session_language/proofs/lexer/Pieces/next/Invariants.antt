use Rattle.std.proofs.Common.{◌≡◌, ◌≤◌, length}
use Rattle.session_language.specs.Lexer.{pieces_of}
use Rattle.session_language.proofs.lexer.Pieces.next.Given as goal

abbrev pub invariant-loop-first : goal.invariant-loop-first
invariant-loop-first l = (pieces_of l.self.rest.now ≡ pieces_of l.fn.self.rest.now) × (length l.self.rest.now ≤ length l.fn.self.rest.now)

abbrev pub decreases-loop-first : goal.decreases-loop-first
decreases-loop-first l = length l.self.rest.now
