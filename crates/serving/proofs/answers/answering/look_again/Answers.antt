use Rattle.std.proofs.Common.{◌≡◌, ◌<◌, Some, sym, ap, subst, ◌∙◌, arith}
use Rattle.std.specs.Prelude.{IsTrue}
use Rattle.std.specs.Option.{option_copied}
use Rattle.session_programs.specs.Program.{fits}
use Rattle.site_core.specs.Submitted.{submitted_in}
use Rattle.serving.specs.answers.Answers.{session_in, session_under, tickets_of}
use Rattle.serving.proofs.answers_lemmas.Looked.{none_beyond}
use Rattle.serving.proofs.answers_lemmas.Promises.{session_fits}
use Rattle.serving.proofs.answers.answering.look_again.Goals as goal

pub returns-then-ticket-tickets : goal.returns-then-ticket-tickets
returns-then-ticket-tickets c =
    let s = c.args.office.now in
    let beyond : tickets_of s < c.args.ticket = omega (arith, c.if-ticket-tickets.true, c.tickets.ensures) in
    none_beyond 0 (tickets_of s) c.args.ticket (submitted_in s.entries) (c.tickets_are_numbered.ensures s c.journal-journal.ensures.legal) beyond

pub is_same-requires : goal.is_same-requires
is_same-requires c =
    let s = c.args.office.now in
    let under : session_under s c.args.ticket ≡ Some c.in-Some.given.now = ap (session_in c.args.ticket) (sym c.journal-journal.ensures.entries) ∙ sym c.session_under.ensures ∙ ap option_copied c.in-Some.is in
    subst (λ p. IsTrue (fits p c.in-Some.given.now)) (sym c.plan.ensures) (session_fits s c.args.ticket c.in-Some.given.now c.journal-journal.ensures.legal under)
