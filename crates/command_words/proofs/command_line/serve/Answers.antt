use Rattle.std.proofs.Common.{codes}
use Rattle.std.specs.Prelude.{IfOk}
use Rattle.command_words.specs.CommandLine.{serve_command, serve_with_store, flag, optional, path}
use Rattle.command_words.proofs.Arguments.{IsCommand, with_one, with_last, shape_of, local_of}
use Rattle.command_words.proofs.command_line.serve.Goals as goal

made : (c : goal.After-arg-5) → IfOk c.arg-5.result (IsCommand serve_command)
made c =
    let none : IsCommand serve_with_store c.in_ok-serve_with_store.field-0 = (c.in_ok-serve_with_store.ensures.command, c.in_ok-serve_with_store.ensures.local) in
    let one = with_one c.in_ok-serve_with_store.field-0 c.in_ok-arg.field-0 c.flag.result _ (flag (codes "new")) none c.in_ok-arg.ensures c.flag.ensures.rule c.flag.ensures.no_global in
    let two = with_one c.in_ok-arg.field-0 c.in_ok-arg-2.field-0 c.path.result _ (path (codes "secrets")) one c.in_ok-arg-2.ensures c.path.ensures.rule c.path.ensures.no_global in
    let three = with_one c.in_ok-arg-2.field-0 c.in_ok-arg-3.field-0 c.optional.result _ (optional (codes "linger") 0 86400 (codes "0")) two c.in_ok-arg-3.ensures c.optional.ensures.rule c.optional.ensures.no_global in
    let four = with_one c.in_ok-arg-3.field-0 c.in_ok-arg-4.field-0 c.optional-2.result _ (optional (codes "status") 0 86400 (codes "0")) three c.in_ok-arg-4.ensures c.optional-2.ensures.rule c.optional-2.ensures.no_global in
    with_last c.in_ok-arg-4.field-0 c.flag-2.result _ (flag (codes "json")) c.arg-5.result four c.arg-5.ensures c.flag-2.ensures.rule c.flag-2.ensures.no_global

pub returns-clause-command : goal.returns-clause-command
returns-clause-command c = shape_of serve_command c.arg-5.result (made c)

pub returns-clause-local : goal.returns-clause-local
returns-clause-local c = local_of serve_command c.arg-5.result (made c)
