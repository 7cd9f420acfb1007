use Rattle.std.proofs.Common.{rules, ◌≡◌, Some}
use Rattle.session_language.specs.Lexer.{pieces_of}
use Rattle.session_language.specs.refinement.ReaderRefinement.{draft_of, reading_of}
use Rattle.session_language.proofs.session_reading.StatementStep.{left_open}
use Rattle.session_language.proofs.reader.Reader.take_statement.Goals as goal

pub returns-in-Some : goal.returns-in-Some
returns-in-Some c =
    let here : (reading_of c.args.self.now).open_session ≡ Some (draft_of c.in-Some.draft) = search rules in
    left_open c.args.plan.now (reading_of c.args.self.now) (draft_of c.in-Some.draft) c.args.keyword (pieces_of c.args.pieces.rest.now) c.requires here c.take.result (draft_of c.take.new.self) c.take.ensures
