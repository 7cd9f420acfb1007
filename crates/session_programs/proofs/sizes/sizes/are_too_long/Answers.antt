use Rattle.std.proofs.Common.{◌≤◌, rules, sym}
use Rattle.session_programs.specs.measures.Measures.{block_statements, block_cost}
use Rattle.session_meaning.specs.refinement.TreeOfStatements.{block_of}
use Rattle.session_programs.specs.measures.refinement.Extent.{block_extent}
use Rattle.session_programs.proofs.sizes_lemmas.ExtentBoundsSize.{short_by_extent}
use Rattle.session_programs.proofs.sizes.sizes.are_too_long.Goals as goal

pub returns-then-measures-le-SHORT_EXTENT : goal.returns-then-measures-le-SHORT_EXTENT
returns-then-measures-le-SHORT_EXTENT c =
    let few : block_statements (block_of c.args.statements.now) ≤ 256 = search rules in
    let cheap : block_cost (block_of c.args.statements.now) ≤ 10000 = search rules in
    let little : block_extent (block_of c.args.statements.now) ≤ 681 = search rules in
    sym (short_by_extent c.args.variables.now (block_of c.args.statements.now) c.requires.names c.requires.statements few cheap little)
