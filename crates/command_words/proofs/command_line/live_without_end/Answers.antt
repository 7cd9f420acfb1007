use Rattle.std.proofs.Common.{rules, codes}
use Rattle.std.specs.Prelude.{IfOk}
use Rattle.clap.specs.Words.{new_app}
use Rattle.command_words.specs.CommandLine.{live_without_end, path, required}
use Rattle.command_words.proofs.Arguments.{IsCommand, with_one, with_last, shape_of, local_of}
use Rattle.command_words.proofs.command_line.live_without_end.Goals as goal

made : (c : goal.After-arg-3) → IfOk c.arg-3.result (IsCommand live_without_end)
made c =
    let none : IsCommand (new_app (codes "live")) c.after_help.result = (search rules, search rules) in
    let one = with_one c.after_help.result c.in_ok-arg.field-0 c.required.result _ (required (codes "PLAN")) none c.in_ok-arg.ensures c.required.ensures.rule c.required.ensures.no_global in
    let two = with_one c.in_ok-arg.field-0 c.in_ok-arg-2.field-0 c.required-2.result _ (required (codes "SESSIONS")) one c.in_ok-arg-2.ensures c.required-2.ensures.rule c.required-2.ensures.no_global in
    with_last c.in_ok-arg-2.field-0 c.path.result _ (path (codes "journals")) c.arg-3.result two c.arg-3.ensures c.path.ensures.rule c.path.ensures.no_global

pub returns-clause-command : goal.returns-clause-command
returns-clause-command c = shape_of live_without_end c.arg-3.result (made c)

pub returns-clause-local : goal.returns-clause-local
returns-clause-local c = local_of live_without_end c.arg-3.result (made c)
