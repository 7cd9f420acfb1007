use Rattle.std.proofs.Common.{◌≡◌, rules, arith}
use Rattle.session_meaning.specs.Tree.{When, Choice, Loop}
use Rattle.session_programs.specs.Text.{wide_words}
use Rattle.session_meaning.specs.refinement.TreeOfStatements.{test_of, command_of, block_of}
use Rattle.session_meaning.specs.declared.tree.Statement.TheViews.{the_lemmas}
use Rattle.session_meaning.specs.refinement.RowLaws.{row_block_is}
use Rattle.session_programs.proofs.sizes_lemmas.SizeStep.{when_bytes, choice_bytes, loop_bytes}
use Rattle.session_programs.proofs.sizes.sizes.+size.Goals as goal

pub statement_size-returns-in_ok-body-in-If : goal.statement_size-returns-in_ok-body-in-If
statement_size-returns-in_ok-body-in-If t c =
    let e : command_of c.args.statement.now ≡ When (test_of c.deref-in-If.result.now) (block_of c.deref-in-If-2.result.now) = search (rules, the_lemmas, row_block_is) in
    rw e (omega (arith, when_bytes (wide_words c.args.variables.now) (test_of c.deref-in-If.result.now) (block_of c.deref-in-If-2.result.now)))

pub statement_size-returns-in_ok-b-in-IfElse : goal.statement_size-returns-in_ok-b-in-IfElse
statement_size-returns-in_ok-b-in-IfElse t c =
    let e : command_of c.args.statement.now ≡ Choice (test_of c.deref-in-IfElse.result.now) (block_of c.deref-in-IfElse-2.result.now) (block_of c.deref-in-IfElse-3.result.now) = search (rules, the_lemmas, row_block_is) in
    rw e (omega (arith, choice_bytes (wide_words c.args.variables.now) (test_of c.deref-in-IfElse.result.now) (block_of c.deref-in-IfElse-2.result.now) (block_of c.deref-in-IfElse-3.result.now)))

pub statement_size-returns-in_ok-body-in-Repeat : goal.statement_size-returns-in_ok-body-in-Repeat
statement_size-returns-in_ok-body-in-Repeat t c =
    let e : command_of c.args.statement.now ≡ Loop c.in-Repeat.turns (block_of c.deref-in-Repeat.result.now) = search (rules, the_lemmas, row_block_is) in
    rw e (omega (arith, loop_bytes (wide_words c.args.variables.now) c.in-Repeat.turns (block_of c.deref-in-Repeat.result.now)))
