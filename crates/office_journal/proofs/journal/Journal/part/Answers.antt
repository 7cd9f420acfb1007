use Rattle.std.proofs.Common.{◌≡◌, ◌≢◌, ◌-◌, ◌<◌, List, [], take, drop, subst, arith}
use Rattle.std.specs.Prelude.{IfOk, OnErr}
use Rattle.std.proofs.lemmas.Result.{on_err_weaker}
use Rattle.office_journal.specs.declared.event.Entry.{Entry}
use Rattle.office_journal.proofs.KeptEntries.{some_taken}
use Rattle.office_journal.proofs.journal.Journal.part.Goals as goal

pub copied-requires-clause-within : goal.copied-requires-clause-within
copied-requires-clause-within c = omega (arith, c.places-first.ensures.within, c.len.ensures)

pub returns-clause-part : goal.returns-clause-part
returns-clause-part c = subst (λ (l : List Entry). IfOk c.copied.result (λ v. v.items ≡ l)) (c.places-first.ensures.part c.args.self.now.entries c.len.ensures) c.copied.ensures.same

pub returns-clause-memory : goal.returns-clause-memory
returns-clause-memory c =
    let es = c.args.self.now.entries in
    let first = c.places-first.result.0 in
    let end = c.places-first.result.1 in
    let some : first < end → take (end - first) (drop first es) ≢ [] = λ lt. some_taken es first (end - first) (omega (arith, lt)) (omega (arith, lt, c.places-first.ensures.within, c.len.ensures)) in
    subst (λ (l : List Entry). OnErr c.copied.result (l ≢ [])) (c.places-first.ensures.part es c.len.ensures) (on_err_weaker c.copied.result some c.copied.ensures.memory)
