-- What a client asks of an office, by lines that come one after another.
use Rattle.std.specs.Prelude.{ℕ, ◌^◌, List, [], ◌∷◌, ◌++◌, Bool, true, false, not, ◌&&◌, ◌||◌, nat_lt, is_some, Option, Some, None, Result, Ok, Err, if◌then◌else◌, codes}
use Rattle.std.specs.Option.{ok_or}
use Rattle.std.specs.Str.{bytes_eq}
use Rattle.text_lines.specs.Text.{words_of, name_of, number_of}
use Rattle.office_map.specs.PlanValue.{PlanValue, record_named, is_end}
use Rattle.office_map.specs.PlanText.{◌>>=◌}
use Rattle.session_meaning.specs.ProgramValue.{ProgramValue}
use Rattle.session_language.specs.declared.fault.SessionRule.{SessionRule}
use Rattle.session_language.specs.declared.fault.SessionRule.TheVariants.{Syntax, UnknownRecord, TooLong}
use Rattle.session_streams.specs.Streams.{Told, Came, Faulty, Listening, fresh, passing_over, begins_session, cut, hear}
use Rattle.session_streams.specs.declared.requests.asked.Asked.{Asked}
use Rattle.session_streams.specs.declared.requests.asked.Asked.TheVariants.{Session, Numbered, Look, Misread}

-- ---- a line

-- a line by its first word: the words after `ticket` or `value`, or a line of sessions
pub data Line : Type 0 where
  ATicket : (rest : List (List ℕ)) → Line
  ALook : (rest : List (List ℕ)) → Line
  OfSession : Line

abbrev pub line_by : List (List ℕ) → Line
line_by [] = OfSession
line_by (w ∷ ws) = if bytes_eq w (codes "ticket") then ATicket ws else if bytes_eq w (codes "value") then ALook ws else OfSession

abbrev pub line_of : List ℕ → Line
line_of line = line_by (words_of line)

abbrev pub only_word : List (List ℕ) → Option (List ℕ)
only_word [] = None
only_word (w ∷ []) = Some w
only_word (w ∷ v ∷ ws) = None

-- the number of a ticket: from 1 to 4294967295
abbrev pub if_ticket : Option ℕ → Option ℕ
if_ticket None = None
if_ticket (Some n) = if nat_lt 0 n && nat_lt n (2 ^ 32) then Some n else None

abbrev pub number_in : Option (List ℕ) → Option ℕ
number_in None = None
number_in (Some w) = number_of w

abbrev pub ticket_in : List (List ℕ) → Option ℕ
ticket_in ws = if_ticket (number_in (only_word ws))

-- a record of this office
abbrev pub if_end : PlanValue → ℕ → Option ℕ → Option ℕ
if_end p me None = None
if_end p me (Some r) = if is_end p r me then Some r else None

abbrev pub name_in : Option (List ℕ) → Option (List ℕ)
name_in None = None
name_in (Some w) = name_of w

abbrev pub record_in : PlanValue → ℕ → List (List ℕ) → Result ℕ SessionRule
record_in p me ws = ok_or (name_in (only_word ws)) Syntax >>= λ name. ok_or (if_end p me (record_named p name)) UnknownRecord

-- ---- tickets

-- what stands before the next session: no line `ticket`, one with this ticket, or one that can't be read
pub data Ticket : Type 0 where
  NoTicket : Ticket
  TheTicket : (t : ℕ) → Ticket
  BadTicket : Ticket

-- where a client's stream stands
pub record Asking : Type 0 where
  pub stream : Listening
  pub ticket : Ticket

-- before the first line
abbrev pub quiet : Asking
quiet = record { stream = fresh; ticket = NoTicket }

abbrev pub misread : SessionRule → ℕ → List Asked
misread rule n = Misread (record { rule = rule; line = n }) ∷ []

-- the session that comes after a line `ticket`, or after none
abbrev pub asked_under : Ticket → ProgramValue → List Asked
asked_under NoTicket x = Session x ∷ []
asked_under (TheTicket t) x = Numbered t x ∷ []
asked_under BadTicket x = []

abbrev pub asked_first : Ticket → Told → List Asked
asked_first k (Came x) = asked_under k x
asked_first k (Faulty f) = Misread f ∷ []

-- what is asked by what is heard: the ticket is that of what is heard first
abbrev pub asked_of : Ticket → List Told → List Asked
asked_of k [] = []
asked_of k (t ∷ ts) = asked_first k t ++ asked_of NoTicket ts

abbrev pub ticket_left : Ticket → List Told → Ticket
ticket_left k [] = k
ticket_left k (t ∷ ts) = NoTicket

-- a ticket for which no session came before line n; one that couldn't be read was told
abbrev pub unused : ℕ → Ticket → List Asked
unused n NoTicket = []
unused n (TheTicket t) = misread Syntax n
unused n BadTicket = []

abbrev pub waits : Ticket → Bool
waits NoTicket = false
waits (TheTicket t) = true
waits BadTicket = true

-- it can't be used any more
abbrev pub spoiled : Ticket → Ticket
spoiled NoTicket = NoTicket
spoiled (TheTicket t) = BadTicket
spoiled BadTicket = BadTicket

-- ---- what is asked

-- the session that is open, or a ticket for which none came
abbrev pub given_up_by : ℕ → Ticket → List Told → List Asked
given_up_by n k [] = unused n k
given_up_by n k (t ∷ ts) = asked_of k (t ∷ ts)

-- what is told of what is given up, where line n is none of its own or the stream ends there
abbrev pub given_up : ℕ → Asking → List Asked
given_up n a = given_up_by n a.ticket (cut n a.stream.reading)

abbrev pub with_ticket : Asking → Option ℕ → Asking
with_ticket a (Some t) = record a { ticket = TheTicket t }
with_ticket a None = record { stream = passing_over; ticket = BadTicket }

abbrev pub told_ticket : ℕ → Option ℕ → List Asked
told_ticket n (Some t) = []
told_ticket n None = misread Syntax n

abbrev pub looked : ℕ → Result ℕ SessionRule → List Asked
looked n (Ok r) = Look r ∷ []
looked n (Err rule) = misread rule n

abbrev pub is_open : Asking → Bool
is_open a = is_some a.stream.reading.open_session

-- what a line of sessions asks for: between a line `ticket` and its session no other may stand
abbrev pub stray : ℕ → Ticket → Asking × List Asked
stray n k = (record { stream = passing_over; ticket = BadTicket }, unused n k)

abbrev pub of_heard : Ticket → Listening × List Told → Asking × List Asked
of_heard k heard = (record { stream = heard.0; ticket = ticket_left k heard.1 }, asked_of k heard.1)

abbrev pub ask_session : PlanValue → Asking → ℕ × List ℕ → Asking × List Asked
ask_session p a l =
    if waits a.ticket && not (begins_session l.1 || is_open a) then stray l.0 a.ticket else of_heard a.ticket (hear p a.stream l)

abbrev pub ask_by : PlanValue → ℕ → Asking → ℕ × List ℕ → Line → Asking × List Asked
ask_by p me a l (ATicket ws) = (with_ticket quiet (ticket_in ws), given_up l.0 a ++ told_ticket l.0 (ticket_in ws))
ask_by p me a l (ALook ws) = (quiet, given_up l.0 a ++ looked l.0 (record_in p me ws))
ask_by p me a l OfSession = ask_session p a l

-- What a line with its number asks for, where the stream stands so, and where it stands then.
abbrev pub ask : PlanValue → ℕ → Asking → ℕ × List ℕ → Asking × List Asked
ask p me a l = ask_by p me a l (line_of l.1)

-- the line with this number is too long: what it would have asked for isn't known
abbrev pub overlong : ℕ → Asking → Asking × List Asked
overlong n a = (record { stream = passing_over; ticket = if is_open a then NoTicket else spoiled a.ticket }, misread TooLong n)

-- lines in order
abbrev pub ask_all : PlanValue → ℕ → Asking → List (ℕ × List ℕ) → Asking × List Asked
ask_all p me a [] = (a, [])
ask_all p me a (l ∷ ls) = ((ask_all p me (ask p me a l).0 ls).0, (ask p me a l).1 ++ (ask_all p me (ask p me a l).0 ls).1)
