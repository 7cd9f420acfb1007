use Rattle.std.proofs.Common.{◌≤◌, length, rules}
use Rattle.std.proofs.lemmas.Result.{err_from_is_err_and}
use Rattle.drink_commands.specs.Limits.{most_journal}
use Rattle.drink_commands.proofs.ReadWhole.{same_text}
use Rattle.drink_commands.proofs.journals.journal_text.Goals as goal

pub returns-clause-text : goal.returns-clause-text
returns-clause-text g c = λ text after has.
    let it = c.in_ok-text.ensures.text text after has in
    let short : length c.in_ok-text.text.items ≤ most_journal = search rules in
    (same_text most_journal text c.in_ok-text.text.items short it.0, it.1 short)

pub returns-in_err-text-clause-fault : goal.returns-in_err-text-clause-fault
returns-in_err-text-clause-fault g c =
    let e = err_from_is_err_and c.from_residual.result c.from_residual.ensures.1 in
    rw (e.1, e.2) c.in_err-text.ensures.fault
