-- An office may be handed from thread to thread, since each of its parts may.
use denote.Param.Send.{IsSend, IsSync, sendable}
use Rattle.std.proofs.Crossing.{crosses}
use Rattle.office_map.proofs.ids.OfficeId.TheSendSync as office_id
use Rattle.office_map.proofs.ids.RecordId.TheSendSync as record_id
use Rattle.text_lines.proofs.short.short_name.ShortName.TheSendSync as short_name
use Rattle.office_map.proofs.plan.Plan.TheSendSync as plan
use Rattle.office_journal.proofs.pages.pages.Pages.TheSendSync as pages
use Rattle.token_channel.proofs.channel.Channel.TheSendSync as channel
use Rattle.token_channel.proofs.messages.Messages.TheSendSync as messages
use Rattle.bottle_values.proofs.text.Text.TheSendSync as text
use Rattle.dining_core.proofs.table.Table.TheSendSync as table
use Rattle.drinking_core.proofs.bar.Bar.TheSendSync as bar
use Rattle.session_meaning.proofs.ending.Outcome.TheSendSync as outcome
use Rattle.session_meaning.proofs.expression.Expression.TheSendSync as expression
use Rattle.session_meaning.proofs.tree.Condition.TheSendSync as condition
use Rattle.session_meaning.proofs.tree.Statement.TheLaws.TheKnot.{send-Statement, sync-Statement}
use Rattle.session_meaning.specs.contracts.tree.Statement as Statement
use Rattle.session_programs.specs.contracts.program.Program as Program
use Rattle.session_programs.specs.contracts.program.Said as Said
use Rattle.session_programs.proofs.code.Code.TheSendSync as code
use Rattle.session_machine.proofs.spare.Spare.TheSendSync as spare
use Rattle.session_machine.proofs.work.Work.TheSendSync as work
use Rattle.site_core.specs.contracts.agendas.session.Session as Session
use Rattle.site_core.specs.contracts.agendas.agenda.Phase as Phase
use Rattle.site_core.specs.contracts.agendas.agenda.Agenda as Agenda
use Rattle.office_journal.specs.contracts.journal.Journal as Journal
use Rattle.site_core.specs.contracts.office.Office as Office
use Rattle.site_core.specs.contracts.neighbours.channels.Channels as Channels
use Rattle.site_core.specs.contracts.neighbours.pairs.Pairs as Pairs

statement_send : IsSend Statement.the_row
statement_send = search (send-Statement, condition.the_send, expression.the_send, record_id.the_send, sendable, crosses) depth 40

statement_sync : IsSync Statement.the_row
statement_sync = search (sync-Statement, condition.the_sync, expression.the_sync, record_id.the_sync, sendable, crosses) depth 40

-- what a program says is lent to each thread that has a copy of it
said_send : IsSend (Said.the_field).row
said_send = search (statement_send, office_id.the_send, record_id.the_send, short_name.the_send, sendable, crosses) depth 40

said_sync : IsSync (Said.the_field).row
said_sync = search (statement_sync, office_id.the_sync, record_id.the_sync, short_name.the_sync, sendable, crosses) depth 40

program_send : IsSend Program.the_row
program_send = search (said_send, said_sync, code.the_send, sendable, crosses) depth 40

-- a struct or an enum is sent as it is, and as the field of another
session_send : IsSend (Session.the_field).row
session_send = search (program_send, sendable, crosses) depth 40

phase_send : IsSend (Phase.the_field).row
phase_send = search (session_send, code.the_send, work.the_send, sendable, crosses) depth 40

agenda_send : IsSend Agenda.the_row
agenda_send = search (session_send, phase_send, outcome.the_field_send, spare.the_field_send, sendable, crosses) depth 40

journal_send : IsSend Journal.the_row
journal_send = search (pages.the_send, program_send, text.the_send, sendable, crosses) depth 40

channels_send : IsSend Channels.the_row
channels_send = search (channel.the_send, sendable, crosses) depth 40

pairs_send : IsSend Pairs.the_row
pairs_send = search (plan.the_send, office_id.the_send, table.the_send, bar.the_send, channels_send, messages.the_send, sendable, crosses) depth 60 fits 20000

pub office_send : IsSend Office.the_row
office_send = search (pairs_send, agenda_send, journal_send, sendable, crosses) depth 40
