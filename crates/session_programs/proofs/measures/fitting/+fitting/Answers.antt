use Rattle.std.proofs.Common.{rules, ◌≡◌, ◌&&◌, sym, ap, ap₂, ◌∙◌}
use Rattle.bottle_values.specs.declared.version.Version.TheVariants.{One}
use Rattle.session_meaning.specs.Tree.{When, Choice, Loop}
use Rattle.session_meaning.specs.Fitting.{command_fits}
use Rattle.session_meaning.specs.refinement.TreeOfStatements.{test_of, command_of, block_of}
use Rattle.session_meaning.specs.declared.tree.Statement.TheViews.{the_lemmas}
use Rattle.session_meaning.specs.refinement.RowLaws.{row_block_is}
use Rattle.session_programs.proofs.measures.fitting.+fitting.Goals as goal

pub is_of_numbers-returns-in-If : goal.is_of_numbers-returns-in-If
is_of_numbers-returns-in-If t c =
    let e : command_of c.args.statement.now ≡ When (test_of c.deref-in-If.result.now) (block_of c.deref-in-If-2.result.now) = search (rules, the_lemmas, row_block_is) in
    c.both.ensures ∙ ap₂ (λ a b. a && b) c.compares_numbers-in-If.ensures c.are_of_numbers.ensures ∙ ap (command_fits One) (sym e)

pub is_of_numbers-returns-in-IfElse : goal.is_of_numbers-returns-in-IfElse
is_of_numbers-returns-in-IfElse t c =
    let e : command_of c.args.statement.now ≡ Choice (test_of c.deref-in-IfElse.result.now) (block_of c.deref-in-IfElse-2.result.now) (block_of c.deref-in-IfElse-3.result.now) = search (rules, the_lemmas, row_block_is) in
    c.both-in-IfElse-2.ensures
    ∙ ap₂ (λ a b. a && b) c.compares_numbers-in-IfElse.ensures (c.both-in-IfElse.ensures ∙ ap₂ (λ a b. a && b) c.are_of_numbers-in-IfElse.ensures c.are_of_numbers-in-IfElse-2.ensures)
    ∙ ap (command_fits One) (sym e)

pub is_of_numbers-returns-in-Repeat : goal.is_of_numbers-returns-in-Repeat
is_of_numbers-returns-in-Repeat t c =
    let e : command_of c.args.statement.now ≡ Loop c.in-Repeat.field-0 (block_of c.deref-in-Repeat.result.now) = search (rules, the_lemmas, row_block_is) in
    c.are_of_numbers-in-Repeat.ensures ∙ ap (command_fits One) (sym e)
