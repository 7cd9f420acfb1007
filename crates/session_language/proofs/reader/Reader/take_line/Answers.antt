use Rattle.std.proofs.Common.{rules, ◌≡◌, ◌∷◌}
use Rattle.session_language.specs.Lexer.{pieces_of, AWord}
use Rattle.session_language.specs.refinement.ReaderRefinement.{reading_of}
use Rattle.session_language.proofs.session_reading.StatementStep.{line_taken}
use Rattle.session_language.proofs.reader.Reader.take_line.Goals as goal

pub returns : goal.returns
returns c =
    let cut : pieces_of c.args.line.now ≡ AWord c.in-Some-Word.word.now ∷ pieces_of c.next.new.self.rest.now = search rules in
    line_taken c.args.plan.now (reading_of c.args.self.now) c.args.line.now c.in-Some-Word.word.now c.keyword_of.result _ c.take_after.result _ cut c.keyword_of.ensures c.take_after.ensures
