use Rattle.std.proofs.Common.{rules, codes}
use Rattle.std.specs.Prelude.{IfOk}
use Rattle.clap.specs.Words.{new_app}
use Rattle.command_words.specs.CommandLine.{serve_with_store, named, path, required}
use Rattle.command_words.proofs.Arguments.{IsCommand, with_one, with_last, shape_of, local_of}
use Rattle.command_words.proofs.command_line.serve_with_store.Goals as goal

made : (c : goal.After-arg-4) → IfOk c.arg-4.result (IsCommand serve_with_store)
made c =
    let none : IsCommand (new_app (codes "serve")) c.after_help.result = (search rules, search rules) in
    let one = with_one c.after_help.result c.in_ok-arg.field-0 c.required.result _ (required (codes "PLAN")) none c.in_ok-arg.ensures c.required.ensures.rule c.required.ensures.no_global in
    let two = with_one c.in_ok-arg.field-0 c.in_ok-arg-2.field-0 c.required-2.result _ (required (codes "OFFICE")) one c.in_ok-arg-2.ensures c.required-2.ensures.rule c.required-2.ensures.no_global in
    let three = with_one c.in_ok-arg-2.field-0 c.in_ok-arg-3.field-0 c.named.result _ (named (codes "store")) two c.in_ok-arg-3.ensures c.named.ensures.rule c.named.ensures.no_global in
    with_last c.in_ok-arg-3.field-0 c.path.result _ (path (codes "sync")) c.arg-4.result three c.arg-4.ensures c.path.ensures.rule c.path.ensures.no_global

pub returns-clause-command : goal.returns-clause-command
returns-clause-command c = shape_of serve_with_store c.arg-4.result (made c)

pub returns-clause-local : goal.returns-clause-local
returns-clause-local c = local_of serve_with_store c.arg-4.result (made c)
