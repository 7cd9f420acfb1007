use Rattle.std.proofs.Common.{rules, ◌≡◌, ◌++◌, Bool, Err, Ok, inl, inr, refl}
use Rattle.std.specs.String.{string_bytes}
use Rattle.office_map.specs.PlanValue.{PlanValue}
use Rattle.office_journal.specs.declared.event.Event.TheVariants.{Submit}
use Rattle.office_journal.specs.declared.reply.Reply.TheVariants.{Ticket}
use Rattle.office_journal.specs.declared.reply.Refusal.TheVariants as refusal
use Rattle.site_core.specs.Journals.{Steps}
use Rattle.serving.specs.answers.Said.{NotOurs, Taken, said_as}
use Rattle.serving.specs.answers.refinement.{Submitted}
use Rattle.serving.proofs.answers_lemmas.Answered.{once_said}
use Rattle.serving.proofs.answers.answering.submit.Goals as goal

pub returns-in-Ok-Ticket-clause-submitted : goal.returns-in-Ok-Ticket-clause-submitted
returns-in-Ok-Ticket-clause-submitted c =
    let s = c.args.office.now in
    let old = string_bytes c.args.text.now in
    let new = string_bytes c.add_taken.new.text in
    let steps : Steps s c.args.tag (Submit c.args.program.now) (Ok (Ticket c.in-Ok-Ticket.ticket)) c.submit.new.self = search rules in
    once_said c.add_taken.result c.said.result ((p : PlanValue) → new ≡ old ++ said_as c.args.form p (Taken c.in-Ok-Ticket.ticket)) (λ (b : Bool). Submitted c.args.form c.args.tag s c.args.program.now b c.submit.new.self old new) c.said.ensures.said c.add_taken.ensures
    (λ q. (Taken c.in-Ok-Ticket.ticket, inl (c.in-Ok-Ticket.ticket, steps, refl), q s.plan))

pub returns-in-Err-NotOurs-clause-submitted : goal.returns-in-Err-NotOurs-clause-submitted
returns-in-Err-NotOurs-clause-submitted c =
    let s = c.args.office.now in
    let old = string_bytes c.args.text.now in
    let new = string_bytes c.add_not_ours.new.text in
    let steps : Steps s c.args.tag (Submit c.args.program.now) (Err refusal.NotOurs) c.submit.new.self = search rules in
    once_said c.add_not_ours.result c.said-in-Err-NotOurs.result ((p : PlanValue) → new ≡ old ++ said_as c.args.form p NotOurs) (λ (b : Bool). Submitted c.args.form c.args.tag s c.args.program.now b c.submit.new.self old new) c.said-in-Err-NotOurs.ensures.said c.add_not_ours.ensures
    (λ q. (NotOurs, inr (steps, refl), q s.plan))
