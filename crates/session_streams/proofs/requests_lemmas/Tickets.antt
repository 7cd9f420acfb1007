-- What is asked for while a ticket waits.
use Rattle.std.proofs.Common.{◌≡◌, ◌≤◌, ℕ, List, [], ◌∷◌, ◌++◌, length, map, All, Bool, true, false, ◌&&◌, ◌||◌, not, Option, Some, None, Result, Ok, Err, if◌then◌else◌, refl, sym, subst, arith}
use Rattle.std.proofs.lemmas.List.Elements.{All-cons, All-append}
use Rattle.office_map.specs.PlanValue.{PlanValue}
use Rattle.session_meaning.specs.ProgramValue.{ProgramValue}
use Rattle.session_language.specs.declared.fault.SessionRule.{SessionRule}
use Rattle.session_language.specs.declared.fault.SessionRefusal.{SessionRefusal}
use Rattle.session_language.specs.Reading.{Draft, Reading, nothing_read, take_line}
use Rattle.session_streams.specs.Streams.{Told, Came, Faulty, Listening, begins_session, unclosed, cut, answered, read_on, after_cut, hear}
use Rattle.session_streams.specs.StreamLaws.{LinesCloseOne}
use Rattle.session_streams.specs.declared.requests.asked.Asked.{Asked}
use Rattle.session_streams.specs.declared.requests.asked.Asked.TheVariants.{Numbered, Look, Misread}
use Rattle.session_streams.specs.requests.Requests.{Line, ATicket, ALook, OfSession, line_of, Ticket, NoTicket, TheTicket, BadTicket, Asking, asked_of, given_up_by, given_up, looked, told_ticket, ticket_in, record_in, unused, waits, stray, of_heard, is_open, ask_session, ask_by}
use Rattle.session_streams.specs.requests.RequestLaws.{IsUnder, TicketsKeepTheirSessions}

abbrev AllUnder : Ticket → List Asked → Type 0
AllUnder k xs = All (IsUnder k) xs

none_under : (k : Ticket) → AllUnder k []
none_under k i d lt = absurd (omega (arith, lt))

misread_under : (k : Ticket) (f : SessionRefusal) (xs : List Asked) → AllUnder k xs → AllUnder k (Misread f ∷ xs)
misread_under k f xs h = All-cons (IsUnder k) (Misread f) xs tt h

-- two faults at most, and no session
data AreFaults : List Told → Type 0 where
  no_fault : AreFaults []
  one_fault : (f : SessionRefusal) → AreFaults (Faulty f ∷ [])
  two_faults : (f g : SessionRefusal) → AreFaults (Faulty f ∷ Faulty g ∷ [])

faults_under : (k : Ticket) (told : List Told) → AreFaults told → AllUnder k (asked_of k told)
faults_under k told no_fault = none_under k
faults_under k told (one_fault f) = misread_under k f [] (none_under k)
faults_under k told (two_faults f g) = misread_under k f (Misread g ∷ []) (misread_under k g [] (none_under k))

one_under : (k : Ticket) (x : ProgramValue) → waits k ≡ true → AllUnder k (asked_of k (Came x ∷ []))
one_under NoTicket x h = absurd (cc)
one_under (TheTicket t) x h = All-cons (IsUnder (TheTicket t)) (Numbered t x) [] refl (none_under (TheTicket t))
one_under BadTicket x h = none_under BadTicket

few_under : (k : Ticket) (xs : List ProgramValue) → waits k ≡ true → length xs ≤ 1 → AllUnder k (asked_of k (map Came xs))
few_under k [] h few = none_under k
few_under k (x ∷ []) h few = one_under k x h
few_under k (x ∷ y ∷ xs) h few = absurd (omega (arith, few))

unused_under : (k l : Ticket) (n : ℕ) → AllUnder k (unused n l)
unused_under k NoTicket n = none_under k
unused_under k (TheTicket t) n = misread_under k _ [] (none_under k)
unused_under k BadTicket n = none_under k

given_under : (k : Ticket) (n : ℕ) (o : Option Draft) → AllUnder k (given_up_by n k (unclosed n o))
given_under k n None = unused_under k k n
given_under k n (Some d) = faults_under k (unclosed n (Some d)) (one_fault _)

ticket_under : (k : Ticket) (n : ℕ) (o : Option ℕ) → AllUnder k (told_ticket n o)
ticket_under k n None = misread_under k _ [] (none_under k)
ticket_under k n (Some t) = none_under k

look_under : (k : Ticket) (n : ℕ) (r : Result ℕ SessionRule) → AllUnder k (looked n r)
look_under k n (Ok r) = All-cons (IsUnder k) (Look r) [] tt (none_under k)
look_under k n (Err rule) = misread_under k _ [] (none_under k)

-- ---- lines of sessions

-- a line that begins a session closes none
module _ (law : LinesCloseOne) (p : PlanValue) where
  opening_faults : (l : ℕ × List ℕ) (o : Option Draft) (r : Result Reading SessionRule) → begins_session l.1 ≡ true → take_line p nothing_read l.1 ≡ r → AreFaults (unclosed l.0 o ++ (answered l.0 r).1)
  opening_faults l None (Ok y) b e = let none = (law p nothing_read y l.1 refl e).opening b in subst (λ (ps : List ProgramValue). AreFaults (map Came ps)) (sym none) no_fault
  opening_faults l None (Err rule) b e = one_fault _
  opening_faults l (Some d) (Ok y) b e = let none = (law p nothing_read y l.1 refl e).opening b in subst (λ (ps : List ProgramValue). AreFaults (unclosed l.0 (Some d) ++ map Came ps)) (sym none) (one_fault _)
  opening_faults l (Some d) (Err rule) b e = two_faults _ _

  line_under : (k : Ticket) (x : Reading) (l : ℕ × List ℕ) (r : Result Reading SessionRule) → waits k ≡ true → x.done ≡ [] → take_line p x l.1 ≡ r → AllUnder k (asked_of k (answered l.0 r).1)
  line_under k x l (Ok y) h none e = few_under k y.done h (law p x y l.1 none e).few
  line_under k x l (Err rule) h none e = faults_under k _ (one_fault _)

  heard_under : (k : Ticket) (s : Listening) (l : ℕ × List ℕ) → waits k ≡ true → s.reading.done ≡ [] → AllUnder k (asked_of k (hear p s l).1)
  heard_under k s l h none = by_word (begins_session l.1) refl
    where
      by_passing : (b : Bool) → AllUnder k (asked_of k (if b then (s, []) else read_on p s.reading l).1)
      by_passing true = none_under k
      by_passing false = line_under k s.reading l (take_line p s.reading l.1) h none refl

      by_word : (b : Bool) → begins_session l.1 ≡ b → AllUnder k (asked_of k (if b then after_cut (cut l.0 s.reading) (read_on p nothing_read l) else (if s.passing then (s, []) else read_on p s.reading l)).1)
      by_word true e = faults_under k _ (opening_faults l s.reading.open_session (take_line p nothing_read l.1) e refl)
      by_word false e = by_passing s.passing

  session_under : (a : Asking) (l : ℕ × List ℕ) → waits a.ticket ≡ true → a.stream.reading.done ≡ [] → AllUnder a.ticket (ask_session p a l).1
  session_under a l h none = by_place (waits a.ticket && not (begins_session l.1 || is_open a))
    where
      by_place : (b : Bool) → AllUnder a.ticket (if b then stray l.0 a.ticket else of_heard a.ticket (hear p a.stream l)).1
      by_place true = unused_under a.ticket a.ticket l.0
      by_place false = heard_under a.ticket a.stream l h none

pub tickets_keep : LinesCloseOne → TicketsKeepTheirSessions
tickets_keep law p me a l h none = by_line (line_of l.1)
  where
    by_line : (k : Line) → AllUnder a.ticket (ask_by p me a l k).1
    by_line (ATicket ws) = All-append (IsUnder a.ticket) (given_up l.0 a) (told_ticket l.0 (ticket_in ws)) (given_under a.ticket l.0 a.stream.reading.open_session) (ticket_under a.ticket l.0 (ticket_in ws))
    by_line (ALook ws) = All-append (IsUnder a.ticket) (given_up l.0 a) (looked l.0 (record_in p me ws)) (given_under a.ticket l.0 a.stream.reading.open_session) (look_under a.ticket l.0 (record_in p me ws))
    by_line OfSession = session_under law p a l h none
