use Rattle.std.proofs.Common.{◌≡◌, take, drop, ap, sym, ◌∙◌, arith}
use Rattle.std.specs.Option.{option_copied}
use Rattle.std.proofs.lemmas.List.{take_all}
use Rattle.serving.specs.answers.Answers.{session_in}
use Rattle.serving.proofs.answers_lemmas.Looked.{first_has_it, later_is_it}
use Rattle.serving.proofs.answers.answering.session_under.Goals as goal

pub returns-in-Some : goal.returns-in-Some
returns-in-Some c =
    let es = c.args.journal.now.entries in
    let all : take c.len-count.result es ≡ es = take_all c.len-count.result es (omega (arith, c.len-count.ensures)) in
    sym (later_is_it c.args.ticket c.requires.numbered.0 c.min-first.result es c.in-Some.program.now c.requires.numbered.1 (ap (λ l. session_in c.args.ticket (drop c.min-first.result l)) (sym all) ∙ sym c.session_among.ensures ∙ ap option_copied c.in-Some.is))

pub returns : goal.returns
returns c =
    let es = c.args.journal.now.entries in
    let all : take c.len-count.result es ≡ es = take_all c.len-count.result es (omega (arith, c.len-count.ensures)) in
    c.session_among-2.ensures ∙ first_has_it c.args.ticket c.min-first.result es (ap (λ l. session_in c.args.ticket (drop c.min-first.result l)) (sym all) ∙ sym c.session_among.ensures ∙ ap option_copied c.in_default.is)
