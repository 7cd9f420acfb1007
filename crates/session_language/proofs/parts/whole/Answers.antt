use Rattle.std.proofs.Common.{rules}
use Rattle.session_meaning.specs.declared.tree.Statement.TheViews.{the_lemmas}
use Rattle.session_meaning.specs.refinement.RowLaws.{row_block_is}
use Rattle.session_language.proofs.parts.whole.Goals as goal

pub returns-in-If : goal.returns-in-If
returns-in-If c = search (rules, the_lemmas, row_block_is)

pub returns-in-Else : goal.returns-in-Else
returns-in-Else c = search (rules, the_lemmas, row_block_is)

pub returns-in-Repeat : goal.returns-in-Repeat
returns-in-Repeat c = search (rules, the_lemmas, row_block_is)
