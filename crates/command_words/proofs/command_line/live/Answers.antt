use Rattle.std.proofs.Common.{codes}
use Rattle.std.specs.Prelude.{IfOk}
use Rattle.command_words.specs.CommandLine.{live_command, live_without_end, flag, path}
use Rattle.command_words.proofs.Arguments.{IsCommand, with_one, with_last, shape_of, local_of}
use Rattle.command_words.proofs.command_line.live.Goals as goal

made : (c : goal.After-arg-3) → IfOk c.arg-3.result (IsCommand live_command)
made c =
    let none : IsCommand live_without_end c.in_ok-live_without_end.field-0 = (c.in_ok-live_without_end.ensures.command, c.in_ok-live_without_end.ensures.local) in
    let one = with_one c.in_ok-live_without_end.field-0 c.in_ok-arg.field-0 c.path.result _ (path (codes "plan")) none c.in_ok-arg.ensures c.path.ensures.rule c.path.ensures.no_global in
    let two = with_one c.in_ok-arg.field-0 c.in_ok-arg-2.field-0 c.path-2.result _ (path (codes "left")) one c.in_ok-arg-2.ensures c.path-2.ensures.rule c.path-2.ensures.no_global in
    with_last c.in_ok-arg-2.field-0 c.flag.result _ (flag (codes "json")) c.arg-3.result two c.arg-3.ensures c.flag.ensures.rule c.flag.ensures.no_global

pub returns-clause-command : goal.returns-clause-command
returns-clause-command c = shape_of live_command c.arg-3.result (made c)

pub returns-clause-local : goal.returns-clause-local
returns-clause-local c = local_of live_command c.arg-3.result (made c)
