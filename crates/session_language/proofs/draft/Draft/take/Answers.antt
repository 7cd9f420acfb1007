use Rattle.std.proofs.Common.{rules, ◌≡◌, length}
use Rattle.std.specs.Prelude.{vec_len}
use Rattle.session_language.specs.Lexer.{pieces_of}
use Rattle.session_language.specs.refinement.ResolvedStatements.{seen_spoken}
use Rattle.session_language.proofs.session_reading.WellFormedness.{over_variables}
use Rattle.session_language.proofs.draft.Draft.take.Goals as goal

pub add-requires : goal.add-requires
add-requires c =
    let len : vec_len c.args.self.now.parts.variables ≡ length c.deref.result.now = search rules in
    over_variables (record { plan = c.args.plan.now; office = c.args.self.now.parts.office; variables = c.deref.result.now }) c.args.keyword (pieces_of c.args.pieces.rest.now) (seen_spoken c.in_ok-spoken.spoken) _ len c.in_ok-spoken.ensures
