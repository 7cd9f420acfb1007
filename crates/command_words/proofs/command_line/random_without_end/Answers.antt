use Rattle.std.proofs.Common.{rules, codes}
use Rattle.std.specs.Prelude.{IfOk}
use Rattle.clap.specs.Words.{new_app}
use Rattle.command_words.specs.CommandLine.{random_without_end, numbered, required}
use Rattle.command_words.proofs.Arguments.{IsCommand, with_one, with_last, shape_of, local_of}
use Rattle.command_words.proofs.command_line.random_without_end.Goals as goal

made : (c : goal.After-arg-5) → IfOk c.arg-5.result (IsCommand random_without_end)
made c =
    let none : IsCommand (new_app (codes "random")) c.after_help.result = (search rules, search rules) in
    let one = with_one c.after_help.result c.in_ok-arg.field-0 c.required.result _ (required (codes "PLAN")) none c.in_ok-arg.ensures c.required.ensures.rule c.required.ensures.no_global in
    let two = with_one c.in_ok-arg.field-0 c.in_ok-arg-2.field-0 c.required-2.result _ (required (codes "SESSIONS")) one c.in_ok-arg-2.ensures c.required-2.ensures.rule c.required-2.ensures.no_global in
    let three = with_one c.in_ok-arg-2.field-0 c.in_ok-arg-3.field-0 c.numbered.result _ (numbered (codes "seed") 0 18446744073709551615) two c.in_ok-arg-3.ensures c.numbered.ensures.rule c.numbered.ensures.no_global in
    let four = with_one c.in_ok-arg-3.field-0 c.in_ok-arg-4.field-0 c.numbered-2.result _ (numbered (codes "loss") 0 100) three c.in_ok-arg-4.ensures c.numbered-2.ensures.rule c.numbered-2.ensures.no_global in
    with_last c.in_ok-arg-4.field-0 c.numbered-3.result _ (numbered (codes "steps") 1 1000000) c.arg-5.result four c.arg-5.ensures c.numbered-3.ensures.rule c.numbered-3.ensures.no_global

pub returns-clause-command : goal.returns-clause-command
returns-clause-command c = shape_of random_without_end c.arg-5.result (made c)

pub returns-clause-local : goal.returns-clause-local
returns-clause-local c = local_of random_without_end c.arg-5.result (made c)
