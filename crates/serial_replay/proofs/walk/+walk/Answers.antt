use Rattle.std.proofs.Common.{rules, ◌≡◌, subst}
use Rattle.std.proofs.lemmas.Result.{err_from_is_err_and}
use Rattle.session_meaning.specs.refinement.TreeOfStatements.{test_of, command_of, block_of}
use Rattle.session_meaning.specs.Meaning.{block}
use Rattle.session_meaning.specs.Tree.{When, Choice, Loop}
use Rattle.session_meaning.specs.declared.tree.Statement.TheViews.{the_lemmas}
use Rattle.session_meaning.specs.refinement.RowLaws.{row_block_is}
use Rattle.serial_replay.specs.refinement.WalkRefinement.{environment_of, IsOfProgram}
use Rattle.serial_replay.proofs.LoopTurns.{repeated_more, repeated_stops}
use Rattle.serial_replay.proofs.ProgramParts.{body_of, first_of, second_of, turn_of}
use Rattle.serial_replay.proofs.walk.+walk.Goals as goal

pub walk-loop-init : goal.walk-loop-init
walk-loop-init t c = search (rules, the_lemmas, row_block_is)

pub walk-returns-in-Ok-true-test : goal.walk-returns-in-Ok-true-test
walk-returns-in-Ok-true-test t c = search (rules, the_lemmas, row_block_is)

pub walk-returns-in-Ok-true-test-2 : goal.walk-returns-in-Ok-true-test-2
walk-returns-in-Ok-true-test-2 t c = search (rules, the_lemmas, row_block_is)

pub walk-returns-in-Ok-false-test-2 : goal.walk-returns-in-Ok-false-test-2
walk-returns-in-Ok-false-test-2 t c = search (rules, the_lemmas, row_block_is)

pub walk-returns-in_err-walk_all-in-Repeat : goal.walk-returns-in_err-walk_all-in-Repeat
walk-returns-in_err-walk_all-in-Repeat t c =
    let p = err_from_is_err_and c.from_residual-in_err-walk_all-in-Repeat.result c.from_residual-in_err-walk_all-in-Repeat.ensures.1 in
    rw (p.1, p.2) (repeated_stops c.in_err-walk_all-in-Repeat.field-0.0 c.in-Repeat.turns c.loop.counter (block (block_of c.in-Repeat.body.items)) (environment_of c.loop.environment) c.walk_all-in-loop.new.environment _ c.loop-test.true (rw c.deref-in-loop.ensures.value at c.in_err-walk_all-in-Repeat.ensures) c.loop.invariant)

pub walk-loop-preserved : goal.walk-loop-preserved
walk-loop-preserved t c = repeated_more c.in-Repeat.turns c.loop.counter (block (block_of c.in-Repeat.body.items)) (environment_of c.loop.environment) (environment_of c.walk_all-in-loop.new.environment) _ c.loop-test.true (rw c.deref-in-loop.ensures.value at c.in_ok-walk_all-in-Repeat.ensures) c.loop.invariant

pub walk-walk_all-requires : goal.walk-walk_all-requires
walk-walk_all-requires t c =
    let body = block_of c.deref-in-Ok-true-test.result.now in
    let is : command_of c.args.statement.now ≡ When (test_of c.in-If.c.value) body = search (rules, the_lemmas, row_block_is) in
    (search (rules, the_lemmas, row_block_is), body_of (test_of c.in-If.c.value) body (subst IsOfProgram is c.requires))

pub walk-walk_all-requires-in-Ok-true-test-2 : goal.walk-walk_all-requires-in-Ok-true-test-2
walk-walk_all-requires-in-Ok-true-test-2 t c =
    let test = test_of c.in-IfElse.c.value in
    let first = block_of c.deref-in-Ok-true-test-2.result.now in
    let second = block_of c.in-IfElse.second.items in
    let is : command_of c.args.statement.now ≡ Choice test first second = search (rules, the_lemmas, row_block_is) in
    (search (rules, the_lemmas, row_block_is), first_of test first second (subst IsOfProgram is c.requires))

pub walk-walk_all-requires-in-Ok-false-test-2 : goal.walk-walk_all-requires-in-Ok-false-test-2
walk-walk_all-requires-in-Ok-false-test-2 t c =
    let test = test_of c.in-IfElse.c.value in
    let first = block_of c.in-IfElse.first.items in
    let second = block_of c.deref-in-Ok-false-test-2.result.now in
    let is : command_of c.args.statement.now ≡ Choice test first second = search (rules, the_lemmas, row_block_is) in
    (search (rules, the_lemmas, row_block_is), second_of test first second (subst IsOfProgram is c.requires))

pub walk-walk_all-requires-in-loop : goal.walk-walk_all-requires-in-loop
walk-walk_all-requires-in-loop t c =
    let body = block_of c.deref-in-loop.result.now in
    let is : command_of c.args.statement.now ≡ Loop c.in-Repeat.turns body = search (rules, the_lemmas, row_block_is) in
    (search (rules, the_lemmas, row_block_is), turn_of c.in-Repeat.turns body (subst IsOfProgram is c.requires))
