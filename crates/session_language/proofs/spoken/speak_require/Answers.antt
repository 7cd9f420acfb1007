use Rattle.std.proofs.Common.{◌∙◌, sym, ap, rules, Ok}
use Rattle.session_language.specs.Names.{scope_of}
use Rattle.session_language.specs.Lexer.{pieces_of}
use Rattle.session_language.specs.Reading.{SpeaksDemand}
use Rattle.session_language.proofs.session_reading.ResolveNames.{demand_spoken}
use Rattle.session_language.proofs.spoken.speak_require.Goals as goal

pub returns : goal.returns
returns c =
    let first = rw c.in-Some-default-Some-Symbol.is at c.in_ok-first.ensures.gives in
    let second = rw c.in-Some-default-Some-Word.is at c.in_ok-second.ensures.gives in
    demand_spoken (scope_of c.args.scope.now) (pieces_of c.args.pieces.rest.now) (pieces_of c.phrase.new.pieces.rest.now) (pieces_of c.phrase-2.new.pieces.rest.now) _ _
    c.in-Some-default-Some-Symbol.symbol c.in-Some.comparison c.in-Some-default-Some-Word.word.now c.in-Some-else_code.code
    c.in-Some-default-Some-Symbol.first c.in-Some-default-Some-Word.second c.phrase.new.self.nodes c.phrase-2.new.self.nodes
    first (search rules) (search rules) second (search rules) (search rules) (search rules)
    c.in_ok-left.left c.in_ok-right.right c.in_ok-left.ensures c.in_ok-right.ensures
    ∙ sym (ap (λ t. Ok (SpeaksDemand t c.in-Some-else_code.code)) c.in_ok-condition.ensures)
