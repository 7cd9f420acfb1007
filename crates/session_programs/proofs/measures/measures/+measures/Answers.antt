use Rattle.std.proofs.Common.{◌≡◌, ◌≤◌, ◌+◌, ◌∷◌, min, drop, rules, sym, ap, subst, ◌∙◌}
use Rattle.std.proofs.lemmas.List.{at_drop_more, at_drop_all}
use Rattle.session_meaning.specs.Tree.{Block, Nothing, Then, When, Choice, Loop}
use Rattle.session_meaning.specs.refinement.TreeOfStatements.{test_of, command_of, block_of}
use Rattle.session_programs.specs.measures.Measures.{block_cost, block_gives, block_statements}
use Rattle.session_programs.specs.measures.refinement.Extent.{block_extent}
use Rattle.session_meaning.specs.declared.tree.Statement.TheViews.{the_lemmas}
use Rattle.session_meaning.specs.refinement.RowLaws.{row_block_is}
use Rattle.session_programs.proofs.measures_lemmas.Saturation.{capped_turns, capped_gives, one_capped, head_capped, larger_capped, part_capped, both_capped, parts_capped, start_capped, more_capped, end_capped}
use Rattle.session_programs.proofs.measures.measures.+measures.Goals as goal

pub block_measures-loop-statement-init : goal.block_measures-loop-statement-init
block_measures-loop-statement-init t c = record {
  cost = start_capped _ _ c.nothing-all.ensures.cost;
  gives = start_capped _ _ c.nothing-all.ensures.gives;
  statements = start_capped _ _ c.nothing-all.ensures.statements;
  extent = start_capped _ _ c.nothing-all.ensures.extent;
}

pub block_measures-loop-statement-preserved : goal.block_measures-loop-statement-preserved
block_measures-loop-statement-preserved t c =
    let xs = c.args.statements.now in
    let i = c.loop-statement.statement-index in
    let x = c.statement-item.result in
    let a = c.loop-statement.all in
    let next : block_of (drop i xs) ≡ Then (command_of x) (block_of (drop (i + 1) xs)) = at_drop_more block_of xs i x c.loop-statement-test.true ∙ ap (λ y. block_of (y ∷ drop (i + 1) xs)) (sym c.statement-item.is) in
    record {
      cost = more_capped a.cost _ _ _ _ _ c.both-all.ensures.cost c.measures_of.ensures.cost (subst (λ (b : Block). (a.cost ≤ 10001) × (min 10001 (a.cost + block_cost b) ≡ min 10001 (block_cost (block_of xs)))) next c.loop-statement.invariant.cost);
      gives = more_capped a.gives _ _ _ _ _ c.both-all.ensures.gives c.measures_of.ensures.gives (subst (λ (b : Block). (a.gives ≤ 10001) × (min 10001 (a.gives + block_gives b) ≡ min 10001 (block_gives (block_of xs)))) next c.loop-statement.invariant.gives);
      statements = more_capped a.statements _ _ _ _ _ c.both-all.ensures.statements c.measures_of.ensures.statements (subst (λ (b : Block). (a.statements ≤ 10001) × (min 10001 (a.statements + block_statements b) ≡ min 10001 (block_statements (block_of xs)))) next c.loop-statement.invariant.statements);
      extent = more_capped a.extent _ _ _ _ _ c.both-all.ensures.extent c.measures_of.ensures.extent (subst (λ (b : Block). (a.extent ≤ 10001) × (min 10001 (a.extent + block_extent b) ≡ min 10001 (block_extent (block_of xs)))) next c.loop-statement.invariant.extent);
    }

pub block_measures-returns : goal.block_measures-returns
block_measures-returns t c =
    let xs = c.args.statements.now in
    let a = c.loop-statement.all in
    let none : block_of (drop c.loop-statement.statement-index xs) ≡ Nothing = at_drop_all block_of xs c.loop-statement.statement-index c.loop-statement-test.false in
    record {
      cost = end_capped a.cost _ (subst (λ (b : Block). (a.cost ≤ 10001) × (min 10001 (a.cost + block_cost b) ≡ min 10001 (block_cost (block_of xs)))) none c.loop-statement.invariant.cost);
      gives = end_capped a.gives _ (subst (λ (b : Block). (a.gives ≤ 10001) × (min 10001 (a.gives + block_gives b) ≡ min 10001 (block_gives (block_of xs)))) none c.loop-statement.invariant.gives);
      statements = end_capped a.statements _ (subst (λ (b : Block). (a.statements ≤ 10001) × (min 10001 (a.statements + block_statements b) ≡ min 10001 (block_statements (block_of xs)))) none c.loop-statement.invariant.statements);
      extent = end_capped a.extent _ (subst (λ (b : Block). (a.extent ≤ 10001) × (min 10001 (a.extent + block_extent b) ≡ min 10001 (block_extent (block_of xs)))) none c.loop-statement.invariant.extent);
    }

pub measures_of-returns-in-If : goal.measures_of-returns-in-If
measures_of-returns-in-If t c =
    let e : command_of c.args.statement.now ≡ When (test_of c.deref-in-If.result.now) (block_of c.deref-in-If-3.result.now) = search (rules, the_lemmas, row_block_is) in
    let f : command_of c.args.statement.now ≡ When (test_of c.deref-in-If-2.result.now) (block_of c.deref-in-If-3.result.now) = search (rules, the_lemmas) in
    let body = c.block_measures-body.ensures in
    record {
      cost = rw (e, c.headed.ensures.cost) (head_capped _ _ _ _ c.test_nodes-test.ensures body.cost);
      gives = rw (e, c.headed.ensures.gives) body.gives;
      statements = rw (e, c.headed.ensures.statements) (one_capped _ _ body.statements);
      extent = rw (f, c.headed.ensures.extent) (head_capped _ _ _ _ c.test_extent-extent.ensures body.extent);
    }

pub measures_of-returns-in-IfElse : goal.measures_of-returns-in-IfElse
measures_of-returns-in-IfElse t c =
    let e : command_of c.args.statement.now ≡ Choice (test_of c.deref-in-IfElse.result.now) (block_of c.deref-in-IfElse-3.result.now) (block_of c.deref-in-IfElse-4.result.now) = search (rules, the_lemmas, row_block_is) in
    let f : command_of c.args.statement.now ≡ Choice (test_of c.deref-in-IfElse-2.result.now) (block_of c.deref-in-IfElse-3.result.now) (block_of c.deref-in-IfElse-4.result.now) = search (rules, the_lemmas) in
    let test = c.test_nodes-test-in-IfElse.ensures in
    let wide = c.test_extent-extent-in-IfElse.ensures in
    let a = c.block_measures-a.ensures in
    let b = c.block_measures-b.ensures in
    record {
      cost = rw (e, c.headed-in-IfElse.ensures.cost, c.either.ensures.cost) (part_capped _ _ _ _ _ _ test a.cost b.cost);
      gives = rw (e, c.headed-in-IfElse.ensures.gives, c.either.ensures.gives) (larger_capped _ _ _ _ a.gives b.gives);
      statements = rw (e, c.headed-in-IfElse.ensures.statements, c.either.ensures.statements) (both_capped _ _ _ _ a.statements b.statements);
      extent = rw (f, c.headed-in-IfElse.ensures.extent, c.either.ensures.extent) (parts_capped _ _ _ _ _ _ wide a.extent b.extent);
    }

pub measures_of-returns-in-Repeat : goal.measures_of-returns-in-Repeat
measures_of-returns-in-Repeat t c =
    let e : command_of c.args.statement.now ≡ Loop c.in-Repeat.turns (block_of c.deref-in-Repeat.result.now) = search (rules, the_lemmas, row_block_is) in
    let body = c.block_measures-body-in-Repeat.ensures in
    record {
      cost = rw (e, c.repeated.ensures.cost, body.cost) (capped_turns _ _);
      gives = rw (e, c.repeated.ensures.gives, body.gives) (capped_gives _ _);
      statements = rw (e, c.repeated.ensures.statements) (one_capped _ _ body.statements);
      extent = rw (e, c.repeated.ensures.extent) (one_capped _ _ body.extent);
    }
