use Rattle.std.proofs.Common.{rules, codes}
use Rattle.std.specs.Prelude.{IfOk}
use Rattle.clap.specs.Words.{new_app}
use Rattle.command_words.specs.CommandLine.{run_words, required}
use Rattle.command_words.proofs.Arguments.{IsCommand, with_one, with_last, shape_of, local_of}
use Rattle.command_words.proofs.command_line.run_words.Goals as goal

made : (c : goal.After-arg-3) → IfOk c.arg-3.result (IsCommand run_words)
made c =
    let none : IsCommand (new_app (codes "run")) c.after_help.result = (search rules, search rules) in
    let one = with_one c.after_help.result c.in_ok-arg.field-0 c.required.result _ (required (codes "PLAN")) none c.in_ok-arg.ensures c.required.ensures.rule c.required.ensures.no_global in
    let two = with_one c.in_ok-arg.field-0 c.in_ok-arg-2.field-0 c.required-2.result _ (required (codes "OFFICE")) one c.in_ok-arg-2.ensures c.required-2.ensures.rule c.required-2.ensures.no_global in
    with_last c.in_ok-arg-2.field-0 c.required-3.result _ (required (codes "SESSIONS")) c.arg-3.result two c.arg-3.ensures c.required-3.ensures.rule c.required-3.ensures.no_global

pub returns-clause-command : goal.returns-clause-command
returns-clause-command c = shape_of run_words c.arg-3.result (made c)

pub returns-clause-local : goal.returns-clause-local
returns-clause-local c = local_of run_words c.arg-3.result (made c)
