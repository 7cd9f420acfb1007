-- What the code's readers are, in the words of requests.
use Rattle.std.specs.Prelude.{◌≡◌, ℕ, List, ◌++◌}
use Rattle.office_map.specs.PlanValue.{PlanValue}
use Rattle.text_lines.specs.Text.{words_of}
use Rattle.session_streams.specs.refinement.{listening_of}
use Rattle.session_streams.specs.declared.requests.lines.Line.{Line}
use Rattle.session_streams.specs.declared.requests.lines.Line.TheVariants as code
use Rattle.session_streams.specs.declared.requests.requests.Ticket as code_ticket
use Rattle.session_streams.specs.declared.requests.requests.Ticket.TheVariants as tickets
use Rattle.session_streams.specs.declared.requests.requests.RequestReader.{RequestReader}
use Rattle.session_streams.specs.declared.requests.intake.Intake.{Intake}
use Rattle.session_streams.specs.requests.Requests as requests
use Rattle.session_streams.specs.requests.Requests.{Ticket, NoTicket, TheTicket, BadTicket, Asking}
use Rattle.session_streams.specs.requests.Bytes.{Taking, taken}
use Rattle.session_streams.specs.declared.requests.asked.Asked.{Asked}

abbrev pub seen_line : Line → requests.Line
seen_line (code.Ticket rest) = requests.ATicket (words_of rest.now)
seen_line (code.Look rest) = requests.ALook (words_of rest.now)
seen_line code.Session = requests.OfSession

abbrev pub ticket_of : code_ticket.Ticket → Ticket
ticket_of tickets.None = NoTicket
ticket_of (tickets.Of t) = TheTicket t
ticket_of tickets.Misread = BadTicket

-- where a reader of requests stands
abbrev pub asking_of : RequestReader → Asking
asking_of r = record { stream = listening_of r.sessions; ticket = ticket_of r.ticket }

-- where an intake of bytes stands
abbrev pub taking_of : Intake → Taking
taking_of t = record { asking = asking_of t.requests; number = t.number.value; ahead = t.ahead.items; skips = t.skips }

-- Of bytes these are left: what they ask for, after what was asked by the others, is what all ask for after what was asked before.
pub record Takes (p : PlanValue) (me : ℕ) (t : Taking) (before : List Asked) (bytes : List ℕ) (u : Taking) (after : List Asked) (left : List ℕ) : Type 0 where
  pub stands : (taken p me u left).0 ≡ (taken p me t bytes).0
  pub asked : after ++ (taken p me u left).1 ≡ before ++ (taken p me t bytes).1
