-- What a walk over a journal keeps of the sessions that are left.
use Rattle.std.specs.Prelude.{ℕ, ◌==◌, not, List, [], ◌∷◌, ◌++◌, drop, filter}
use Rattle.session_meaning.specs.ProgramValue.{ProgramValue}
use Rattle.site_core.specs.declared.agendas.session.Session.{Session}
use Rattle.office_journal.specs.declared.rule.Rule.{Rule}
use Rattle.office_journal.specs.declared.rule.Rule.TheVariants as rule
use Rattle.office_journal.specs.declared.event.Event.{Event}
use Rattle.office_journal.specs.declared.event.Event.TheVariants as event
use Rattle.office_journal.specs.declared.event.Entry.{Entry}
use Rattle.office_journal.specs.declared.reply.Reply.{Reply}
use Rattle.office_journal.specs.declared.reply.Reply.TheVariants as reply

-- a session more
abbrev pub with_submitted : List Session → ProgramValue → Reply → List Session
with_submitted left p (reply.Ticket t) = left ++ record { ticket = t; program = p } ∷ []
with_submitted left p r = left

-- without the first, where that finishes
abbrev pub after_rule : List Session → Rule → List Session
after_rule left rule.Finish = drop 1 left
after_rule left r = left

abbrev pub without : List Session → ℕ → List Session
without left ticket = filter (λ (s : Session). not (s.ticket == ticket)) left

abbrev pub after_event : List Session → Event → Reply → List Session
after_event left (event.Submit p) r = with_submitted left p r
after_event left (event.Do rule) r = after_rule left rule
after_event left (event.Send v i) r = left
after_event left (event.Took f) r = left
after_event left (event.Withdraw ticket) r = without left ticket

-- after all these entries
abbrev pub left_after : List Session → List Entry → List Session
left_after left [] = left
left_after left (x ∷ xs) = left_after (after_event left x.event x.reply) xs
