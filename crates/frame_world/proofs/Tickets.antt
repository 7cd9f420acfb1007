-- Over every list of events each office tells of its own sessions in the list, and each has the ticket that its Submit was answered.
use Rattle.std.proofs.Common.{◌≡◌, ℕ, zero, suc, ◌+◌, Bool, cond, List, [], ◌∷◌, ◌++◌, length, map, Option, None, Some, Ok, refl, sym, ap, subst, ◌∙◌, arith, ⊎_elim, append_assoc, append-nil}
use Rattle.std.specs.Prelude.{◌==◌, get_or, All, AllPairs, filter, slice_get, not}
use Rattle.std.proofs.lemmas.Bool.{cases_eq, eq-eqb, ne_eqb}
use Rattle.std.proofs.lemmas.List.{map-append, length-append}
use Rattle.std.proofs.lemmas.List.Elements.{All-nil, All-cons, All-head, All-tail, All-append, All-weaker, All-filter, filter-append}
use Rattle.bottle_values.specs.declared.Value.{Value}
use Rattle.bottle_values.specs.Maps.{put}
use Rattle.bottle_values.specs.ListLaws.{get_left}
use Rattle.bottle_values.specs.MapLaws.{put_at, put_other, put_cases}
use Rattle.office_map.specs.PlanValue.{PlanValue}
use Rattle.session_meaning.specs.declared.ending.Ending.{Ending}
use Rattle.session_meaning.specs.declared.ending.Outcome.{Outcome}
use Rattle.session_meaning.specs.ProgramValue.{ProgramValue}
use Rattle.session_machine.specs.Pieces.{ending_after}
use Rattle.site_core.specs.declared.agendas.session.Session.{Session}
use Rattle.office_journal.specs.declared.rule.Rule.{Rule}
use Rattle.office_journal.specs.declared.rule.Rule.TheVariants as rule
use Rattle.office_journal.specs.declared.event.Event as office
use Rattle.office_journal.specs.declared.event.Event.TheVariants as event
use Rattle.office_journal.specs.declared.event.Entry.{Entry}
use Rattle.office_journal.specs.declared.reply.Reply.{Reply}
use Rattle.office_journal.specs.declared.reply.Reply.TheVariants as reply
use Rattle.site_core.specs.Agenda.{Agenda, Current, Idle, Gathering, Working, started, begun, worked, submitted, without_waiting, with_current}
use Rattle.site_core.specs.Agenda as agenda
use Rattle.site_core.specs.Offices.{Office, act, value_in, answer}
use Rattle.site_core.specs.Submitted.{submitted_by, submitted_in}
use Rattle.site_core.specs.JournalLaws.{submitted_more}
use Rattle.site_core.specs.Tickets.{SessionsGoInOrder}
use Rattle.frame_world.specs.declared.event.WorldEvent.{WorldEvent}
use Rattle.frame_world.specs.Worlds.{World, Finished, opening, run_of, ended_as, ended, finished_by, site_at, office_at}
use Rattle.frame_world.specs.Headline.{Always, outcomes}
use Rattle.frame_world.specs.Tickets.{IsBelow, submitted_as, session_of, HaveTheirTickets, TicketsRise, TellsEachOffice}
use Rattle.frame_world.specs.WorldStates.{State, state_of, starting, entry_of, IsAccepted}
use Rattle.frame_world.specs.WorldLaws.{through}
use Rattle.frame_world.proofs.Answers.{was_submitted, was_done, was_sent, was_taken, was_withdrawn}
use Rattle.site_core.specs.WithdrawalLaws.{either_withdrawn}
use Rattle.frame_world.specs.TicketLaws.{IsAt, finished_at, office_tickets_rise}
use Rattle.frame_world.proofs.RisingTickets.{rise_by_office}

-- ---- the sessions of an office

-- the current session and those that wait
abbrev at_hand : Current → List Session
at_hand Idle = []
at_hand (Gathering s) = s ∷ []
at_hand (Working s reads done) = s ∷ []

abbrev sessions_in : Agenda → List Session
sessions_in g = at_hand g.current ++ g.queue

-- it was submitted by these entries, with its ticket
abbrev IsFrom : List Entry → Session → Type 0
IsFrom entries s = submitted_as entries s.ticket ≡ Some s

-- ---- one entry more

slice_get_end : (xs : List Session) (s : Session) → slice_get (xs ++ s ∷ []) (length xs) ≡ Some s
slice_get_end [] s = refl
slice_get_end (x ∷ xs) s = slice_get_end xs s

still_from : (entries : List Entry) (x : Entry) (s : Session) → IsFrom entries s → IsFrom (entries ++ x ∷ []) s
still_from entries x s = by s.ticket
  where
    by : (t : ℕ) → submitted_as entries t ≡ Some s → submitted_as (entries ++ x ∷ []) t ≡ Some s
    by zero e = absurd cc
    by (suc n) e = ap (λ l. slice_get l n) (submitted_more entries x) ∙ get_left (submitted_in entries) (submitted_by x.event x.reply) n s e

now_from : (entries : List Entry) (x : Entry) (s : Session) → submitted_by x.event x.reply ≡ s ∷ [] → s.ticket ≡ length (submitted_in entries) + 1 → IsFrom (entries ++ x ∷ []) s
now_from entries x s one count =
    let next : s.ticket ≡ suc (length (submitted_in entries)) = omega (arith, count) in
    ap (submitted_as (entries ++ x ∷ [])) next ∙ ap (λ l. slice_get l (length (submitted_in entries))) (submitted_more entries x ∙ ap (λ l. submitted_in entries ++ l) one) ∙ slice_get_end (submitted_in entries) s

-- ---- what an accepted event leaves of the sessions

abbrev outcomes_in : List Finished → List Outcome
outcomes_in fs = map (λ (f : Finished). f.outcome) fs

all_right : (P : Session → Type 0) (xs ys : List Session) → All P (xs ++ ys) → All P ys
all_right P [] ys h = h
all_right P (x ∷ xs) ys h = all_right P xs ys (All-tail P x (xs ++ ys) h)

all_without : (p : Session → Bool) (P : Session → Type 0) (xs ys : List Session) → All P (xs ++ ys) → All P (xs ++ filter p ys)
all_without p P [] ys h = All-filter p P ys h
all_without p P (x ∷ xs) ys h = All-cons P x (xs ++ filter p ys) (All-head P x (xs ++ ys) h) (all_without p P xs ys (All-tail P x (xs ++ ys) h))

module _ (P : Session → Type 0) (a : ℕ) where
  -- sessions come in as they are submitted, and go as they finish
  record Keeps (g : Agenda) (e : office.Event) (r : Reply) (g' : Agenda) : Type 0 where
    count : g'.tickets ≡ g.tickets + length (submitted_by e r)
    fresh : (entries : List Entry) → g.tickets ≡ length (submitted_in entries) → All (IsFrom (entries ++ entry_of e r ∷ [])) (submitted_by e r)
    hand : All P (sessions_in g) → All P (submitted_by e r) → All P (sessions_in g')
    done : All P (sessions_in g) → All (λ (f : Finished). P (session_of f)) (finished_by a g.current e)
    told : g'.outcomes ≡ g.outcomes ++ outcomes_in (finished_by a g.current e)

  -- none comes, and none finishes
  moves : (g : Agenda) (e : office.Event) (r : Reply) (g' : Agenda) → submitted_by e r ≡ [] → finished_by a g.current e ≡ [] → g'.tickets ≡ g.tickets → g'.outcomes ≡ g.outcomes → (All P (sessions_in g) → All P (sessions_in g')) → Keeps g e r g'
  moves g e r g' none nothing tickets outcomes hand = record {
    count = omega (arith, tickets, ap length none);
    fresh = λ entries same. subst (All (IsFrom (entries ++ entry_of e r ∷ []))) (sym none) (All-nil (IsFrom (entries ++ entry_of e r ∷ [])));
    hand = λ h new. hand h;
    done = λ h. subst (All (λ (f : Finished). P (session_of f))) (sym nothing) (All-nil (λ (f : Finished). P (session_of f)));
    told = outcomes ∙ sym (append-nil g.outcomes) ∙ ap (λ l. g.outcomes ++ outcomes_in l) (sym nothing);
  }

  by_submit : (g : Agenda) (p : ProgramValue) → Keeps g (event.Submit p) (reply.Ticket (g.tickets + 1)) (submitted g p)
  by_submit g p = record {
    count = omega arith;
    fresh = λ entries same. let x : Entry = entry_of (event.Submit p) (reply.Ticket (g.tickets + 1)) in
        All-cons (IsFrom (entries ++ x ∷ [])) s [] (now_from entries x s refl (omega (arith, same))) (All-nil (IsFrom (entries ++ x ∷ [])));
    hand = λ h new. subst (All P) (append_assoc (at_hand g.current) g.queue (s ∷ [])) (All-append P (sessions_in g) (s ∷ []) h new);
    done = λ h. All-nil (λ (f : Finished). P (session_of f));
    told = sym (append-nil g.outcomes);
  }
    where
      s : Session
      s = record { ticket = g.tickets + 1; program = p }

  by_start : (g : Agenda) (r : Reply) → Keeps g (event.Do rule.Start) r (started g g.queue)
  by_start g r = of g.queue refl
    where
      of : (queue : List Session) → g.queue ≡ queue → Keeps g (event.Do rule.Start) r (started g queue)
      of [] e = moves g (event.Do rule.Start) r g refl refl refl refl (λ h. h)
      of (s ∷ rest) e = moves g (event.Do rule.Start) r (started g (s ∷ rest)) refl refl refl refl (λ h. subst (All P) e (all_right P (at_hand g.current) g.queue h))

  begun_at_hand : (values : ℕ → Value) (c : Current) → at_hand c ≡ at_hand (begun values c)
  begun_at_hand values Idle = refl
  begun_at_hand values (Gathering s) = refl
  begun_at_hand values (Working s reads done) = refl

  worked_at_hand : (n : ℕ) (c : Current) → at_hand c ≡ at_hand (worked n c)
  worked_at_hand n Idle = refl
  worked_at_hand n (Gathering s) = refl
  worked_at_hand n (Working s reads done) = refl

  by_finish : (g : Agenda) (r : Reply) → Keeps g (event.Do rule.Finish) r (agenda.finished a g)
  by_finish g r = record {
    count = omega arith;
    fresh = λ entries same. All-nil (IsFrom (entries ++ entry_of (event.Do rule.Finish) r ∷ []));
    hand = λ h new. all_right P (at_hand g.current) g.queue h;
    done = of g.current;
    told = ap (λ l. g.outcomes ++ l) (same_outcomes g.current);
  }
    where
      from_end : (s : Session) (x : Option Ending) → P s → All (λ (f : Finished). P (session_of f)) (ended_as a s x)
      from_end s None h = All-nil (λ (f : Finished). P (session_of f))
      from_end s (Some e) h = All-cons (λ (f : Finished). P (session_of f)) (record { program = s.program; outcome = record { office = a; ticket = s.ticket; ending = e } }) [] h (All-nil (λ (f : Finished). P (session_of f)))

      of : (c : Current) → All P (at_hand c ++ g.queue) → All (λ (f : Finished). P (session_of f)) (ended a c)
      of Idle h = All-nil (λ (f : Finished). P (session_of f))
      of (Gathering s) h = All-nil (λ (f : Finished). P (session_of f))
      of (Working s reads done) h = from_end s (ending_after s.program reads done) (All-head P s g.queue h)

      same_end : (s : Session) (x : Option Ending) → agenda.outcome_as a s.ticket x ≡ outcomes_in (ended_as a s x)
      same_end s None = refl
      same_end s (Some e) = refl

      same_outcomes : (c : Current) → agenda.outcome_of a c ≡ outcomes_in (ended a c)
      same_outcomes Idle = refl
      same_outcomes (Gathering s) = refl
      same_outcomes (Working s reads done) = same_end s (ending_after s.program reads done)

  by_rule : (o : Office) (x : Rule) (r : Reply) → Keeps o.agenda (event.Do x) r (act a o x).agenda
  by_rule o rule.Start r = by_start o.agenda r
  by_rule o rule.Hungry r = moves o.agenda (event.Do rule.Hungry) r o.agenda refl refl refl refl (λ h. h)
  by_rule o (rule.AskFork v) r = moves o.agenda (event.Do (rule.AskFork v)) r o.agenda refl refl refl refl (λ h. h)
  by_rule o (rule.GiveFork v) r = moves o.agenda (event.Do (rule.GiveFork v)) r o.agenda refl refl refl refl (λ h. h)
  by_rule o rule.Eat r = moves o.agenda (event.Do rule.Eat) r o.agenda refl refl refl refl (λ h. h)
  by_rule o rule.Leave r = moves o.agenda (event.Do rule.Leave) r o.agenda refl refl refl refl (λ h. h)
  by_rule o (rule.AskBottle q) r = moves o.agenda (event.Do (rule.AskBottle q)) r o.agenda refl refl refl refl (λ h. h)
  by_rule o (rule.GiveBottle q) r = moves o.agenda (event.Do (rule.GiveBottle q)) r o.agenda refl refl refl refl (λ h. h)
  by_rule o rule.Drink r = moves o.agenda (event.Do rule.Drink) r (act a o rule.Drink).agenda refl refl refl refl
      (subst (λ l. All P (l ++ o.agenda.queue)) (begun_at_hand (value_in o.pairs.drinker) o.agenda.current))
  by_rule o (rule.Work n) r = moves o.agenda (event.Do (rule.Work n)) r (act a o (rule.Work n)).agenda refl refl refl refl
      (subst (λ l. All P (l ++ o.agenda.queue)) (worked_at_hand n o.agenda.current))
  by_rule o rule.Finish r = by_finish o.agenda r

  by_event : (plan : PlanValue) (o : Office) (e : office.Event) (r : Reply) (o' : Office) → answer plan a o e ≡ Ok (r, o') → Keeps o.agenda e r o'.agenda
  by_event plan o (event.Submit p) r o' ok =
      let t = was_submitted plan a o p r o' ok in
      subst (λ (x : Reply). Keeps o.agenda (event.Submit p) x o'.agenda) (sym t.told)
      (subst (λ (x : Office). Keeps o.agenda (event.Submit p) (reply.Ticket (o.agenda.tickets + 1)) x.agenda) (sym t.after) (by_submit o.agenda p))
  by_event plan o (event.Do x) r o' ok = subst (λ (q : Office). Keeps o.agenda (event.Do x) r q.agenda) (sym (was_done plan a o x r o' ok).after) (by_rule o x r)
  by_event plan o (event.Send v i) r o' ok = subst (λ (q : Office). Keeps o.agenda (event.Send v i) r q.agenda) (sym (was_sent plan a o v i r o' ok).after) (moves o.agenda (event.Send v i) r o.agenda refl refl refl refl (λ h. h))
  by_event plan o (event.Took f) r o' ok = subst (λ (q : Office). Keeps o.agenda (event.Took f) r q.agenda) (sym (was_taken plan a o f r o' ok).after) (moves o.agenda (event.Took f) r o.agenda refl refl refl refl (λ h. h))
  by_event plan o (event.Withdraw t) r o' ok = subst (λ (q : Office). Keeps o.agenda (event.Withdraw t) r q.agenda) (sym (was_withdrawn o t r o' ok).after)
      (either_withdrawn (λ (q : Office). Keeps o.agenda (event.Withdraw t) r q.agenda) o t
      (λ waits. moves o.agenda (event.Withdraw t) r (without_waiting o.agenda t) refl refl refl refl (all_without (λ (s : Session). not (s.ticket == t)) P (at_hand o.agenda.current) o.agenda.queue))
      (λ none. moves o.agenda (event.Withdraw t) r (with_current o.agenda Idle) refl refl refl refl (all_right P (at_hand o.agenda.current) o.agenda.queue)))

-- what finishes is told last
pub outcomes_grow : (plan : PlanValue) (a : ℕ) (o : Office) (e : office.Event) (r : Reply) (o' : Office) → answer plan a o e ≡ Ok (r, o') → o'.agenda.outcomes ≡ o.agenda.outcomes ++ map (λ (f : Finished). f.outcome) (finished_by a o.agenda.current e)
outcomes_grow plan a o e r o' ok = (by_event (λ s. Unit {0}) a plan o e r o' ok).told

-- ---- the outcomes of one office among all

abbrev is_of : ℕ → Outcome → Bool
is_of a o = o.office == a

all_of : (a : ℕ) (fs : List Finished) → All (IsAt a) fs → filter (is_of a) (outcomes_in fs) ≡ outcomes_in fs
all_of a [] h = refl
all_of a (f ∷ fs) h = ap (λ b. cond b (f.outcome ∷ filter (is_of a) (outcomes_in fs)) (filter (is_of a) (outcomes_in fs))) (eq-eqb f.outcome.office a (All-head (IsAt a) f fs h))
    ∙ ap (λ l. f.outcome ∷ l) (all_of a fs (All-tail (IsAt a) f fs h))

none_of : (a b : ℕ) (fs : List Finished) → (b ≡ a → ⊥) → All (IsAt a) fs → filter (is_of b) (outcomes_in fs) ≡ []
none_of a b [] ne h = refl
none_of a b (f ∷ fs) ne h = ap (λ x. cond x (f.outcome ∷ filter (is_of b) (outcomes_in fs)) (filter (is_of b) (outcomes_in fs))) (ne_eqb f.outcome.office b (λ e. ne (sym e ∙ All-head (IsAt a) f fs h)))
    ∙ none_of a b fs ne (All-tail (IsAt a) f fs h)

more_told : (a : ℕ) (fs more : List Finished) → filter (is_of a) (outcomes_in (fs ++ more)) ≡ filter (is_of a) (outcomes_in fs) ++ filter (is_of a) (outcomes_in more)
more_told a fs more = ap (filter (is_of a)) (map-append (λ (f : Finished). f.outcome) fs more) ∙ filter-append (is_of a) (outcomes_in fs) (outcomes_in more)

-- ---- of every world

-- an office with this journal, and the finished sessions of all
record IsTicketed (a : ℕ) (entries : List Entry) (o : Office) (fs : List Finished) : Type 0 where
  count : o.agenda.tickets ≡ length (submitted_in entries)
  hand : All (IsFrom entries) (sessions_in o.agenda)
  told : filter (is_of a) (outcomes_in fs) ≡ o.agenda.outcomes

abbrev IsFromIts : (ℕ → List Entry) → Finished → Type 0
IsFromIts journal f = IsFrom (journal f.outcome.office) (session_of f)

record HasTickets (s : State) : Type 0 where
  each : (a : ℕ) → IsTicketed a (s.journal a) (s.office a) s.finished
  finished : All (IsFromIts s.journal) s.finished

module _ (plan : PlanValue) (s s' : State) (h : HasTickets s) (i : IsAccepted plan s s') where
  abbrev entries : List Entry
  entries = s.journal i.place ++ entry_of i.event i.reply ∷ []

  abbrev more : List Finished
  more = finished_by i.place (s.office i.place).agenda.current i.event

  keeps : Keeps (IsFrom entries) i.place (s.office i.place).agenda i.event i.reply i.new.agenda
  keeps = by_event (IsFrom entries) i.place plan (s.office i.place) i.event i.reply i.new i.answered

  here : All (IsAt i.place) more
  here = finished_at i.place (s.office i.place).agenda.current i.event

  before : All (IsFrom entries) (sessions_in (s.office i.place).agenda)
  before = All-weaker (IsFrom (s.journal i.place)) (IsFrom entries) (λ x. still_from (s.journal i.place) (entry_of i.event i.reply) x) (sessions_in (s.office i.place).agenda) (h.each i.place).hand

  at_place : IsTicketed i.place entries i.new (s.finished ++ more)
  at_place = record {
    count = omega (arith, keeps.count, (h.each i.place).count, ap length (submitted_more (s.journal i.place) (entry_of i.event i.reply)), length-append (submitted_in (s.journal i.place)) (submitted_by i.event i.reply));
    hand = keeps.hand before (keeps.fresh (s.journal i.place) (h.each i.place).count);
    told = more_told i.place s.finished more ∙ ap (λ l. l ++ filter (is_of i.place) (outcomes_in more)) (h.each i.place).told ∙ ap (λ l. (s.office i.place).agenda.outcomes ++ l) (all_of i.place more here) ∙ sym keeps.told;
  }

  elsewhere : (b : ℕ) → (b ≡ i.place → ⊥) → IsTicketed b (s.journal b) (s.office b) (s.finished ++ more)
  elsewhere b ne = record {
    count = (h.each b).count;
    hand = (h.each b).hand;
    told = more_told b s.finished more ∙ ap (λ l. filter (is_of b) (outcomes_in s.finished) ++ l) (none_of i.place b more ne here) ∙ append-nil (filter (is_of b) (outcomes_in s.finished)) ∙ (h.each b).told;
  }

  abbrev journal' : ℕ → List Entry
  journal' = put s.journal i.place entries

  at_each : (b : ℕ) → IsTicketed b (journal' b) (put s.office i.place i.new b) (s.finished ++ more)
  at_each b = ⊎_elim
      (λ e. subst (λ l. IsTicketed b l (put s.office i.place i.new b) (s.finished ++ more)) (sym (put_at s.journal i.place entries b e))
      (subst (λ o. IsTicketed b entries o (s.finished ++ more)) (sym (put_at s.office i.place i.new b e))
      (subst (λ k. IsTicketed k entries i.new (s.finished ++ more)) (sym e) at_place)))
      (λ ne. subst (λ l. IsTicketed b l (put s.office i.place i.new b) (s.finished ++ more)) (sym (put_other s.journal i.place entries b ne))
      (subst (λ o. IsTicketed b (s.journal b) o (s.finished ++ more)) (sym (put_other s.office i.place i.new b ne)) (elsewhere b ne)))
      (cases_eq b i.place)

  still : (f : Finished) → IsFromIts s.journal f → IsFromIts journal' f
  still f k = put_cases s.journal i.place entries f.outcome.office (λ l. IsFrom l (session_of f))
      (λ e. still_from (s.journal i.place) (entry_of i.event i.reply) (session_of f) (subst (λ a. IsFrom (s.journal a) (session_of f)) e k))
      (λ ne. k)

  new : All (IsFromIts journal') more
  new k d within = subst (λ l. IsFrom l (session_of (at k d))) (sym (put_at s.journal i.place entries (at k d).outcome.office (here k d within))) (keeps.done before k d within)
    where
      at : ℕ → Finished → Finished
      at k d = get_or more k d

  now : HasTickets (record { office = put s.office i.place i.new; journal = journal'; frames = s'.frames; finished = s.finished ++ more })
  now = record {
    each = at_each;
    finished = All-append (IsFromIts journal') s.finished more (All-weaker (IsFromIts s.journal) (IsFromIts journal') still s.finished h.finished) new;
  }

  tickets_on : HasTickets s'
  tickets_on = subst HasTickets (sym (i.led ∙ ap (λ l. record { office = put s.office i.place i.new; journal = journal'; frames = l; finished = s.finished ++ more }) (sym (ap (λ (x : State). x.frames) i.led)))) now

tickets_at_start : (plan : PlanValue) → HasTickets (starting plan)
tickets_at_start plan = record { each = λ a. record { count = refl; hand = All-nil (IsFrom []); told = refl }; finished = All-nil (IsFromIts (λ a. [])) }

have_tickets : (plan : PlanValue) (es : List WorldEvent) → HasTickets (state_of (run_of (opening plan) es))
have_tickets plan es = through plan HasTickets (tickets_at_start plan) (λ s s'. tickets_on plan s s') es

-- an office has answered as many tickets as it has sessions submitted
pub tickets_count : (plan : PlanValue) (es : List WorldEvent) (a : ℕ) → (office_at (run_of (opening plan) es) a).agenda.tickets ≡ length (submitted_in (site_at (run_of (opening plan) es) a).entries)
tickets_count plan es a = ((have_tickets plan es).each a).count

-- ---- the laws

pub have_their_tickets : Always HaveTheirTickets
have_their_tickets plan es c = (have_tickets plan es).finished

pub tells_each_office : Always TellsEachOffice
tells_each_office plan es c = λ a. ((have_tickets plan es).each a).told

pub tickets_rise : SessionsGoInOrder → Always TicketsRise
tickets_rise law plan es c =
    let w : World = run_of (opening plan) es in
    rise_by_office (outcomes w) (λ a. subst (λ l. AllPairs IsBelow l) (sym (tells_each_office plan es c a)) (office_tickets_rise law (site_at w a)))
