use Rattle.std.proofs.Common.{codes}
use Rattle.std.specs.Prelude.{IfOk}
use Rattle.command_words.specs.CommandLine.{run_command, run_without_store, flag, path}
use Rattle.command_words.proofs.Arguments.{IsCommand, with_one, with_last, shape_of, local_of}
use Rattle.command_words.proofs.command_line.run.Goals as goal

made : (c : goal.After-arg-4) → IfOk c.arg-4.result (IsCommand run_command)
made c =
    let none : IsCommand run_without_store c.in_ok-run_without_store.field-0 = (c.in_ok-run_without_store.ensures.command, c.in_ok-run_without_store.ensures.local) in
    let one = with_one c.in_ok-run_without_store.field-0 c.in_ok-arg.field-0 c.path.result _ (path (codes "store")) none c.in_ok-arg.ensures c.path.ensures.rule c.path.ensures.no_global in
    let two = with_one c.in_ok-arg.field-0 c.in_ok-arg-2.field-0 c.path-2.result _ (path (codes "sync")) one c.in_ok-arg-2.ensures c.path-2.ensures.rule c.path-2.ensures.no_global in
    let three = with_one c.in_ok-arg-2.field-0 c.in_ok-arg-3.field-0 c.flag.result _ (flag (codes "new")) two c.in_ok-arg-3.ensures c.flag.ensures.rule c.flag.ensures.no_global in
    with_last c.in_ok-arg-3.field-0 c.flag-2.result _ (flag (codes "json")) c.arg-4.result three c.arg-4.ensures c.flag-2.ensures.rule c.flag-2.ensures.no_global

pub returns-clause-command : goal.returns-clause-command
returns-clause-command c = shape_of run_command c.arg-4.result (made c)

pub returns-clause-local : goal.returns-clause-local
returns-clause-local c = local_of run_command c.arg-4.result (made c)
