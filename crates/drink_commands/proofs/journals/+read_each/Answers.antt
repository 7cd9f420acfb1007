use Rattle.std.proofs.Common.{◌≡◌, ◌+◌, ◌∷◌, length, map, ap, sym, subst}
use Rattle.std.proofs.lemmas.List.{length-map}
use Rattle.std.proofs.lemmas.Result.{err_from_is_err_and}
use Rattle.drink_commands.specs.Audit.{journal_inputs}
use Rattle.command_outputs.specs.Fault.{IsAmong}
use Rattle.drink_commands.specs.refinement.Journals.{SaysJournals}
use Rattle.drink_commands.proofs.JournalTexts.{among_next, says_first, says_next}
use Rattle.drink_commands.proofs.Running.{err_both, err_more}
use Rattle.drink_commands.proofs.journals.+read_each.Goals as goal

pub returns-in_err-read_one-clause-fault : goal.returns-in_err-read_one-clause-fault
returns-in_err-read_one-clause-fault g t c =
    let e = err_from_is_err_and c.from_residual.result c.from_residual.ensures.1 in
    let files = g.S.Sources.file_text c.args.sources.now in
    let word = c.in-Some.word.now.now in
    let rest = map (λ w. w.now) c.in-Some.rest.now in
    let are : map (λ w. w.now) c.args.words.now ≡ word ∷ rest = ap (map (λ w. w.now)) c.in-Some.ensures.cases.0 in
    let f = c.in_err-read_one.field-0.0 in
    rw (e.1, e.2)
    (subst (λ ws. SaysJournals files c.args.plan.now c.args.standard.now ws c.args.place c.args.journals.now f) (sym are)
    (says_first files c.args.plan.now c.args.standard.now word rest c.args.place c.args.journals.now f c.in_err-read_one.ensures.fault))

pub returns-clause-among : goal.returns-clause-among
returns-clause-among g t c =
    err_more c.read_each.result _ _ (λ f h. among_next c.args.place (length c.in-Some.rest.now) (length c.args.words.now) f c.in-Some.ensures.cases.1 h) c.read_each.ensures.among

pub returns-clause-fault : goal.returns-clause-fault
returns-clause-fault g t c =
    let files = g.S.Sources.file_text c.args.sources.now in
    let word = c.in-Some.word.now.now in
    let rest = map (λ w. w.now) c.in-Some.rest.now in
    let are : map (λ w. w.now) c.args.words.now ≡ word ∷ rest = ap (map (λ w. w.now)) c.in-Some.ensures.cases.0 in
    let size : length rest ≡ length c.in-Some.rest.now = length-map c.in-Some.rest.now (λ w. w.now) in
    err_both c.read_each.result _ _ _
    (λ f later says. subst (λ ws. SaysJournals files c.args.plan.now c.args.standard.now ws c.args.place c.args.journals.now f) (sym are)
    (says_next files c.args.plan.now c.args.standard.now word rest c.args.place c.args.journals.now c.read_one.new.standard c.read_one.new.journals f c.in_ok-read_one.ensures.taken
    (subst (λ n. IsAmong (journal_inputs (c.args.place + 1) n) f) (sym size) later) says))
    c.read_each.ensures.among c.read_each.ensures.fault
