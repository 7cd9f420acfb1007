use Rattle.std.proofs.Common.{codes}
use Rattle.std.specs.Prelude.{IfOk}
use Rattle.command_words.specs.CommandLine.{run_without_store, run_words, optional, path}
use Rattle.command_words.proofs.Arguments.{IsCommand, with_one, with_last, shape_of, local_of}
use Rattle.command_words.proofs.command_line.run_without_store.Goals as goal

made : (c : goal.After-arg-3) → IfOk c.arg-3.result (IsCommand run_without_store)
made c =
    let none : IsCommand run_words c.in_ok-run_words.field-0 = (c.in_ok-run_words.ensures.command, c.in_ok-run_words.ensures.local) in
    let one = with_one c.in_ok-run_words.field-0 c.in_ok-arg.field-0 c.optional.result _ (optional (codes "turns") 1 100000 (codes "2000")) none c.in_ok-arg.ensures c.optional.ensures.rule c.optional.ensures.no_global in
    let two = with_one c.in_ok-arg.field-0 c.in_ok-arg-2.field-0 c.path.result _ (path (codes "secrets")) one c.in_ok-arg-2.ensures c.path.ensures.rule c.path.ensures.no_global in
    with_last c.in_ok-arg-2.field-0 c.path-2.result _ (path (codes "journal")) c.arg-3.result two c.arg-3.ensures c.path-2.ensures.rule c.path-2.ensures.no_global

pub returns-clause-command : goal.returns-clause-command
returns-clause-command c = shape_of run_without_store c.arg-3.result (made c)

pub returns-clause-local : goal.returns-clause-local
returns-clause-local c = local_of run_without_store c.arg-3.result (made c)
