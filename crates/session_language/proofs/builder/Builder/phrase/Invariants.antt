use Rattle.std.proofs.Common.{◌≤◌, length}
use Rattle.session_language.specs.refinement.PostfixBuilder.{build_of, HasRoomFor}
use Rattle.session_language.specs.Lexer.{pieces_of}
use Rattle.session_language.specs.Names.{scope_of}
use Rattle.session_language.specs.Phrase.{phrase_at}
use Rattle.session_language.proofs.expressions.PhraseLoop.{Going}
use Rattle.session_language.proofs.builder.Builder.phrase.Given as goal

abbrev pub invariant-loop-token : goal.invariant-loop-token
invariant-loop-token l =
    Going (scope_of l.scope) (build_of l.self) l.knows_variables l.knows_records (pieces_of l.pieces.rest.now) (phrase_at (scope_of l.scope).plan.version (pieces_of l.fn.pieces.rest.now))
    × HasRoomFor (length l.pieces.rest.now) l.self.stage × (length l.pieces.rest.now ≤ length l.fn.pieces.rest.now)

abbrev pub decreases-loop-token : goal.decreases-loop-token
decreases-loop-token l = length l.pieces.rest.now
