use Rattle.std.proofs.Common.{rules, ◌≡◌, Some, arith}
use Rattle.std.specs.Prelude.{slice_get, IsTrue}
use Rattle.std.proofs.lemmas.Option.{slice_get_within}
use Rattle.stored_runs.proofs.Submitting.{none_submitted, one_submitted, another}
use Rattle.stored_runs.proofs.submits.next_after.Goals as goal

pub loop-place-preserved-in_default : goal.loop-place-preserved-in_default
loop-place-preserved-in_default c =
    let none = c.in_default.ensures.none in
    none_submitted c.args.me c.args.programs.now c.args.journal.now.entries c.loop-place.place c.loop-place.next c.loop-place.ticket none.0 none.1 c.loop-place.invariant none.2

pub returns-then-not-branch-clause-other : goal.returns-then-not-branch-clause-other
returns-then-not-branch-clause-other c =
    let some = c.in-Some.ensures.some in
    let no : IsTrue c.in_ok-is_at.field-0 → ⊥ = search rules in
    another c.args.me c.args.programs.now c.args.journal.now.entries c.loop-place.place c.loop-place.next c.loop-place.ticket some.0 some.1 c.loop-place.invariant c.in-Some.program.now some.2 c.next_of-next.result c.next_of-next.ensures
    (λ h. no (c.in_ok-is_at.ensures.1 h))

pub loop-place-preserved : goal.loop-place-preserved
loop-place-preserved c =
    let some = c.in-Some.ensures.some in
    let yes : IsTrue c.in_ok-is_at.field-0 = search rules in
    let here : slice_get c.args.programs.now c.next_of-next.result ≡ Some c.in-Some.program.now = c.in_ok-is_at.ensures.0 yes in
    let below = slice_get_within c.args.programs.now c.next_of-next.result c.in-Some.program.now here in
    one_submitted c.args.me c.args.programs.now c.args.journal.now.entries c.loop-place.place c.loop-place.next c.loop-place.ticket some.0 some.1 c.loop-place.invariant c.in-Some.program.now some.2 c.next_of-next.result c.next_of-next.ensures here (omega (arith, below))
