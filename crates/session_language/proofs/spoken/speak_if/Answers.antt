use Rattle.std.proofs.Common.{◌∙◌, sym, ap, rules, Ok}
use Rattle.session_language.specs.Names.{scope_of}
use Rattle.session_language.specs.Lexer.{pieces_of}
use Rattle.session_language.specs.Reading.{SpeaksIf}
use Rattle.session_language.proofs.session_reading.ResolveNames.{question_spoken}
use Rattle.session_language.proofs.spoken.speak_if.Goals as goal

pub returns : goal.returns
returns c =
    let first = rw c.in-Some-default-Some-Symbol.is at c.in_ok-first.ensures.gives in
    let second = rw c.in-Some-2.is at c.in_ok-second.ensures in
    question_spoken (scope_of c.args.scope.now) (pieces_of c.args.pieces.rest.now) (pieces_of c.phrase.new.pieces.rest.now) _
    c.in-Some-default-Some-Symbol.symbol c.in-Some.comparison
    c.in-Some-default-Some-Symbol.first c.in-Some-2.second c.phrase.new.self.nodes c.alone.new.builder.nodes
    first (search rules) (search rules) second.0 second.1 second.2 (search rules)
    c.in_ok-left.left c.in_ok-right.right c.in_ok-left.ensures c.in_ok-right.ensures
    ∙ sym (ap (λ t. Ok (SpeaksIf t)) c.in_ok-condition.ensures)
