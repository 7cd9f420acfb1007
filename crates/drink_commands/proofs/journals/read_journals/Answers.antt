use Rattle.std.proofs.Common.{[], map}
use Rattle.std.proofs.lemmas.Result.{err_from_is_err_and}
use Rattle.drink_commands.proofs.JournalTexts.{all_gathered, first_gathered, says_from, says_memory, says_missing}
use Rattle.drink_commands.proofs.journals.read_journals.Goals as goal

pub returns-in_err-journals-clause-fault : goal.returns-in_err-journals-clause-fault
returns-in_err-journals-clause-fault g c =
    let e = err_from_is_err_and c.from_residual.result c.from_residual.ensures.1 in
    rw (e.1, e.2) (says_memory (g.S.Sources.file_text c.args.sources.now) c.args.plan.now c.args.standard.now (map (λ w. w.now) c.args.words.now))

pub returns-in_err-read_each-clause-fault : goal.returns-in_err-read_each-clause-fault
returns-in_err-read_each-clause-fault g c =
    let e = err_from_is_err_and c.from_residual-in_err-read_each.result c.from_residual-in_err-read_each.ensures.1 in
    rw (e.1, e.2)
    (says_from (g.S.Sources.file_text c.args.sources.now) c.args.plan.now c.args.standard.now (map (λ w. w.now) c.args.words.now) c.in_ok-journals.journals c.in_err-read_each.field-0.0 c.in_ok-journals.ensures c.in_err-read_each.ensures.fault)

pub returns-in-Some-clause-fault : goal.returns-in-Some-clause-fault
returns-in-Some-clause-fault g c =
    says_missing (g.S.Sources.file_text c.args.sources.now) c.args.plan.now c.args.standard.now (map (λ w. w.now) c.args.words.now) c.in_ok-journals.journals c.read_each.new.standard c.read_each.new.journals c.in-Some.office c.lacking.result
    c.in_ok-read_each.ensures.taken c.in_ok-journals.ensures (λ texts h. c.in-Some.ensures.lacks c.args.plan.now texts h) c.lacking.ensures

pub returns-in-None-clause-meaning : goal.returns-in-None-clause-meaning
returns-in-None-clause-meaning g c = λ texts has.
    all_gathered (g.S.Sources.file_text c.args.sources.now) c.args.plan.now (map (λ w. w.now) c.args.words.now) texts c.args.standard.now c.in_ok-journals.journals c.read_each.new.standard c.read_each.new.journals
    c.in_ok-read_each.ensures.taken [] c.in_ok-journals.ensures has

pub returns-in-None-clause-gathered : goal.returns-in-None-clause-gathered
returns-in-None-clause-gathered g c = λ texts n has.
    first_gathered (g.S.Sources.file_text c.args.sources.now) c.args.plan.now n (map (λ w. w.now) c.args.words.now) texts c.args.standard.now c.in_ok-journals.journals c.read_each.new.standard c.read_each.new.journals
    c.in_ok-read_each.ensures.taken [] c.in_ok-journals.ensures has
