-- The sessions that journals have submitted.
use Rattle.std.specs.Prelude.{List, [], ◌∷◌, ◌++◌}
use Rattle.site_core.specs.declared.agendas.session.Session.{Session}
use Rattle.office_journal.specs.declared.event.Event.{Event}
use Rattle.office_journal.specs.declared.event.Event.TheVariants as event
use Rattle.office_journal.specs.declared.event.Entry.{Entry}
use Rattle.office_journal.specs.declared.reply.Reply.{Reply}
use Rattle.office_journal.specs.declared.reply.Reply.TheVariants as reply

-- the session that an event submits, with the ticket that is answered
abbrev pub submitted_by : Event → Reply → List Session
submitted_by (event.Submit p) (reply.Ticket t) = record { ticket = t; program = p } ∷ []
submitted_by _ _ = []

-- the sessions that these entries submit, in order, each with the ticket that was answered
abbrev pub submitted_in : List Entry → List Session
submitted_in [] = []
submitted_in (x ∷ xs) = submitted_by x.event x.reply ++ submitted_in xs
