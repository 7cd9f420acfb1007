use Rattle.std.proofs.Common.{sym, ap, ◌∙◌, arith, rules}
use Rattle.office_journal.specs.declared.event.Event.TheVariants as event
use Rattle.office_journal.specs.declared.reply.Reply.TheVariants as reply
use Rattle.site_core.proofs.OfficeSteps.{few_tickets, submitted_session, not_err, noted_more}
use Rattle.site_core.proofs.office.Office.submit.Goals as goal

pub submit-requires : goal.submit-requires
submit-requires c = omega (arith, few_tickets c.self.inside.pairs c.self.inside.agenda c.self.inside.journal.entries c.self.invariant)

pub invariant_of-self-2 : goal.invariant_of-self-2
invariant_of-self-2 c =
    let s = c.self.inside in
    submitted_session s.pairs s.agenda c.submit.new.self s.journal.entries c.push_session.new.self.entries c.args.tag c.args.program.now c.in_ok-ticket.ticket c.is_full.result c.self.invariant (sym c.is_ours.ensures ∙ c.if-not-is_ours.false) c.is_full.ensures c.if-is_full.false
    c.in_ok-ticket.ensures.ticket c.in_ok-ticket.ensures.done c.requires (λ e. not_err _ _ (c.in_ok-make_room.ensures.full.1 e))
    (noted_more _ _ _ _ _ c.push_session.ensures (c.in_ok-make_room_for_program.ensures.unchanged ∙ c.in_ok-make_room.ensures.unchanged) (ap (λ p. record { tag = c.args.tag; event = event.Submit p; reply = reply.Ticket c.in_ok-ticket.ticket }) c.in_ok-copy.ensures))

pub returns-then-is_full : goal.returns-then-is_full
returns-then-is_full c = search rules

pub returns-in_err-make_room : goal.returns-in_err-make_room
returns-in_err-make_room c = search rules

pub push_session-requires-clause-room : goal.push_session-requires-clause-room
push_session-requires-clause-room c = omega (arith, c.in_ok-make_room.ensures.room, c.in_ok-make_room_for_program.ensures.room)

pub returns-in_err-make_room_for_program : goal.returns-in_err-make_room_for_program
returns-in_err-make_room_for_program c = search rules

pub returns-in_err-copy : goal.returns-in_err-copy
returns-in_err-copy c = search rules

pub returns-in_err-ticket : goal.returns-in_err-ticket
returns-in_err-ticket c = search rules

pub returns : goal.returns
returns c = search rules
