use Rattle.std.proofs.Common.{◌≡◌, ◌≤◌, Ok, List, length, sym, ap, subst, ◌∙◌}
use Rattle.std.specs.Prelude.{All, IsTrue}
use Rattle.session_meaning.specs.ProgramValue.{ProgramValue}
use Rattle.session_language.specs.Limits.{most_sessions}
use Rattle.session_programs.specs.Program.{fits}
use Rattle.serial_command.proofs.reading.texts.read_coded_programs.Goals as goal

pub returns-clause-meaning : goal.returns-clause-meaning
returns-clause-meaning g c = λ text after has.
    let same : c.in_ok-coded.coded.items ≡ c.in_ok-programs.programs.items = c.in_ok-coded.ensures ∙ c.deref.ensures.value in
    let read = c.in_ok-programs.ensures.meaning text after has in
    (read.0 ∙ ap Ok (sym same), read.1)

pub returns-clause-fit : goal.returns-clause-fit
returns-clause-fit g c =
    let same : c.in_ok-coded.coded.items ≡ c.in_ok-programs.programs.items = c.in_ok-coded.ensures ∙ c.deref.ensures.value in
    subst (λ (xs : List ProgramValue). All (λ p. IsTrue (fits c.args.plan.now p)) xs) (sym same) c.in_ok-programs.ensures.fit

pub returns-clause-few : goal.returns-clause-few
returns-clause-few g c =
    let same : c.in_ok-coded.coded.items ≡ c.in_ok-programs.programs.items = c.in_ok-coded.ensures ∙ c.deref.ensures.value in
    subst (λ (xs : List ProgramValue). length xs ≤ most_sessions) (sym same) c.in_ok-programs.ensures.few
