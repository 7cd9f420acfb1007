use Rattle.std.proofs.Common.{◌≡◌, ◌≤◌, false, rules}
use Rattle.session_programs.specs.measures.Measures.{block_gives}
use Rattle.session_meaning.specs.refinement.TreeOfStatements.{block_of}
use Rattle.session_programs.specs.Program.{is_too_long}
use Rattle.session_language.specs.Reading.{program_of}
use Rattle.session_language.specs.refinement.PartsRefinement.{parts_of}
use Rattle.session_language.proofs.session_reading.KeptDrafts.{declared_whole, named_whole, well_formed_whole}
use Rattle.session_language.proofs.draft.Draft.close.Goals as goal

pub are_too_long-requires : goal.are_too_long-requires
are_too_long-requires c =
    let k = declared_whole (parts_of c.args.self.parts) c.args.self.kept c.requires in
    let variables : c.deref.result.now ≡ c.args.self.parts.variables.items = search rules in
    let statements : c.deref-2.result.now ≡ c.args.self.parts.statements.items = search rules in
    rw (variables, statements) k

pub of-requires-clause-needed : goal.of-requires-clause-needed
of-requires-clause-needed c = named_whole (parts_of c.args.self.parts) c.args.self.kept c.requires

pub of-requires-clause-well_formed : goal.of-requires-clause-well_formed
of-requires-clause-well_formed c =
    let d = c.args.self.parts in
    let short : is_too_long (program_of (parts_of d)) ≡ false = search rules in
    let few : block_gives (block_of d.statements.items) ≤ 64 = search rules in
    well_formed_whole (parts_of d) c.args.self.kept c.requires short few
