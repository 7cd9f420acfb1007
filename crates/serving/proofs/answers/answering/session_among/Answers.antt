use Rattle.std.proofs.Common.{◌≤◌, length, take, ap, sym, ◌∙◌, arith}
use Rattle.std.specs.Option.{option_copied}
use Rattle.serving.specs.answers.refinement.{session_by}
use Rattle.serving.proofs.answers_lemmas.Looked.{first_at, found_here, not_here, nowhere, short}
use Rattle.serving.proofs.answers.answering.session_among.Goals as goal

pub returns-in-Some : goal.returns-in-Some
returns-in-Some c =
    let es = c.args.journal.now.entries in
    found_here c.args.ticket (take c.args.end es) c.args.first c.loop-place.place c.in-Some.program.now c.loop-place.invariant (ap (session_by c.args.ticket) (first_at es c.args.end c.loop-place.place c.loop-place-test.true) ∙ sym c.session_at.ensures ∙ ap option_copied c.in-Some.is)

pub loop-place-preserved : goal.loop-place-preserved
loop-place-preserved c =
    let es = c.args.journal.now.entries in
    not_here c.args.ticket (take c.args.end es) c.args.first c.loop-place.place c.loop-place.invariant (ap (session_by c.args.ticket) (first_at es c.args.end c.loop-place.place c.loop-place-test.true) ∙ sym c.session_at.ensures ∙ ap option_copied c.in_default.is)

pub returns : goal.returns
returns c =
    let es = take c.args.end c.args.journal.now.entries in
    let few : length es ≤ c.loop-place.place = omega (arith, short c.args.end c.args.journal.now.entries, c.loop-place-test.false) in
    nowhere c.args.ticket es c.loop-place.place few ∙ c.loop-place.invariant
