-- What follows of a row of statements, seen as the list of its items.
use Rattle.std.proofs.Common.{◌≡◌, refl, ap}
use Rattle.session_meaning.specs.declared.tree.Statement.{Row_of-Statement, end_of-Statement, more_of-Statement, items-the_row-Statement}
use Rattle.session_meaning.specs.refinement.TreeOfStatements.{command_of, row_block, block_of}
use Rattle.session_meaning.specs.Tree.{Then}

pub row_block_is : (n : _) (row : Row_of-Statement n) → row_block row ≡ block_of (items-the_row-Statement n row)
row_block_is _ end_of-Statement = refl
row_block_is _ (more_of-Statement s rest) = ap (Then (command_of s)) (row_block_is _ rest)
