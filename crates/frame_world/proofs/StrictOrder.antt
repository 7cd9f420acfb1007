-- The finishing order only grows at its end, and a ticket that is answered now is of no session that has finished.
use Rattle.std.proofs.Common.{◌≡◌, ℕ, zero, suc, ◌+◌, ◌<◌, ◌≤◌, Bool, true, false, cond, List, [], ◌∷◌, ◌++◌, length, Option, None, Some, Result, Ok, Err, refl, sym, ap, subst, ◌∙◌, arith, ⊎_elim, append_assoc, append-nil}
use Rattle.std.specs.Prelude.{nat_lt, nat_le, slice_get}
use Rattle.std.proofs.lemmas.Bool.{cases_lt}
use Rattle.std.proofs.lemmas.Option.{slice_get_within, get_or_from_slice_get}
use Rattle.frame_codec.specs.Frame.{Fields}
use Rattle.session_meaning.specs.ProgramValue.{ProgramValue}
use Rattle.site_core.specs.declared.agendas.session.Session.{Session}
use Rattle.office_journal.specs.declared.event.Event as office
use Rattle.office_journal.specs.declared.event.Event.TheVariants as event
use Rattle.office_journal.specs.declared.event.Entry.{Entry}
use Rattle.office_journal.specs.declared.reply.Reply.{Reply}
use Rattle.office_journal.specs.declared.reply.Reply.TheVariants as reply
use Rattle.office_journal.specs.declared.reply.Refusal as offices
use Rattle.office_journal.specs.declared.reply.Refusal.TheVariants as refused
use Rattle.site_core.specs.Limits.{most_entries}
use Rattle.site_core.specs.Offices.{Office, Answer, answer}
use Rattle.site_core.specs.Journals.{Site, office_of, noted, recorded, step}
use Rattle.site_core.specs.Submitted.{submitted_in}
use Rattle.frame_world.specs.declared.event.WorldEvent.{WorldEvent}
use Rattle.frame_world.specs.declared.event.WorldEvent.TheVariants as happening
use Rattle.frame_world.specs.declared.refusal.WorldRefusal.TheVariants as refusal
use Rattle.frame_world.specs.Worlds.{World, Finished, opening, site_at, office_at, frame_at, finished_by, told, handed, delivered, happens, run_of}
use Rattle.frame_world.specs.Headline.{Always}
use Rattle.frame_world.specs.Strict.{Continues, IsStrict}
use Rattle.frame_world.specs.Tickets.{submitted_as, session_of, HasItsTicket}
use Rattle.frame_world.proofs.Answers.{was_submitted}
use Rattle.frame_world.proofs.Tickets.{have_their_tickets, tickets_count}

-- ---- it only grows at its end

as_it_was : (w : World) → Continues w w
as_it_was w = ([], sym (append-nil w.finished))

by_told : (w : World) (a : ℕ) (e : office.Event) (x : Result Reply offices.Refusal × Site) → Continues w (told w a e x).1
by_told w a e (Ok r, s) = (finished_by a (office_at w a).agenda.current e, refl)
by_told w a e (Err r, s) = as_it_was w

by_handed : (w : World) (a : ℕ) (e : office.Event) → Continues w (handed w a e).1
by_handed w a e = at (nat_lt a (length w.sites))
  where
    at : (b : Bool) → Continues w (cond b (told w a e (step (site_at w a) 0 e)) (Err refusal.NoOffice, w)).1
    at true = by_told w a e (step (site_at w a) 0 e)
    at false = as_it_was w

by_delivered : (w : World) (f : Option Fields) → Continues w (delivered w f).1
by_delivered w None = as_it_was w
by_delivered w (Some f) = by_handed w f.to (event.Took f)

by_event : (w : World) (e : WorldEvent) → Continues w (happens w e).1
by_event w (happening.Submit a p) = by_handed w a (event.Submit p)
by_event w (happening.Withdraw a t) = by_handed w a (event.Withdraw t)
by_event w (happening.Do a rule) = by_handed w a (event.Do rule)
by_event w (happening.Send a v i) = by_handed w a (event.Send v i)
by_event w (happening.Deliver k) = by_delivered w (frame_at w k)

continues : (w : World) (es : List WorldEvent) → Continues w (run_of w es)
continues w [] = as_it_was w
continues w (e ∷ es) =
    let one : Continues w (happens w e).1 = by_event w e in
    let rest : Continues (happens w e).1 (run_of (happens w e).1 es) = continues (happens w e).1 es in
    (one.0 ++ rest.0, rest.1 ∙ ap (λ l. l ++ rest.0) one.1 ∙ append_assoc w.finished one.0 rest.0)

-- ---- a new ticket

-- it is the one after those that its office answered
next_ticket : (w : World) (a t : ℕ) (p : ProgramValue) → (happens w (happening.Submit a p)).0 ≡ Ok (reply.Ticket t) → t ≡ (office_at w a).agenda.tickets + 1
next_ticket w a t p is = by_place (nat_lt a (length w.sites)) is
  where
    s : Site
    s = site_at w a

    e : office.Event
    e = event.Submit p

    by_room : (r : Reply) (o : Office) → answer s.plan s.me (office_of s) e ≡ Ok (r, o) → (full : Bool) →
        (told w a e (cond full (Err refused.JournalFull, s) (Ok r, noted s 0 e r))).0 ≡ Ok (reply.Ticket t) → t ≡ (office_at w a).agenda.tickets + 1
    by_room r o k true h = absurd cc
    by_room r o k false h =
        let same : reply.Ticket t ≡ reply.Ticket ((office_at w a).agenda.tickets + 1) = cc (h, (was_submitted s.plan s.me (office_of s) p r o k).told) in
        cc

    by_answer : (x : Answer) → answer s.plan s.me (office_of s) e ≡ x → (told w a e (recorded s 0 e x)).0 ≡ Ok (reply.Ticket t) → t ≡ (office_at w a).agenda.tickets + 1
    by_answer (Ok x) k h = by_room x.0 x.1 k (nat_le most_entries (length s.entries)) h
    by_answer (Err r) k h = absurd cc

    by_place : (b : Bool) → (cond b (told w a e (step s 0 e)) (Err refusal.NoOffice, w)).0 ≡ Ok (reply.Ticket t) → t ≡ (office_at w a).agenda.tickets + 1
    by_place true h = by_answer (answer s.plan s.me (office_of s) e) refl h
    by_place false h = absurd cc

-- and what was submitted has one of those
few_submitted : (entries : List Entry) (n : ℕ) (s : Session) → submitted_as entries n ≡ Some s → n ≤ length (submitted_in entries)
few_submitted entries zero s e = absurd cc
few_submitted entries (suc n) s e = omega (arith, slice_get_within (submitted_in entries) n s e)

-- what stands before the end of the first list stands in it
in_first : (xs ys : List Finished) (k : ℕ) (f : Finished) → k < length xs → slice_get (xs ++ ys) k ≡ Some f → slice_get xs k ≡ Some f
in_first [] ys k f lt e = absurd (omega (arith, lt))
in_first (x ∷ xs) ys zero f lt e = e
in_first (x ∷ xs) ys (suc k) f lt e = in_first xs ys k f (omega (arith, lt)) e

-- ---- the law

pub order_is_strict : Always IsStrict
order_is_strict plan es c = record {
  continues = continues w;
  behind = λ a t p later is k f at here ticket. ⊎_elim (λ lt. absurd (new a t p later is k f at here ticket lt)) (λ ge. ge) (cases_lt k (length w.finished));
}
  where
    w : World
    w = run_of (opening plan) es

    new : (a t : ℕ) (p : ProgramValue) (later : List WorldEvent) → (happens w (happening.Submit a p)).0 ≡ Ok (reply.Ticket t) → (k : ℕ) (f : Finished) →
        slice_get (run_of w (happening.Submit a p ∷ later)).finished k ≡ Some f → f.outcome.office ≡ a → f.outcome.ticket ≡ t → k < length w.finished → ⊥
    new a t p later is k f at here ticket lt =
        let more : Continues w (run_of w (happening.Submit a p ∷ later)) = continues w (happening.Submit a p ∷ later) in
        let was : slice_get w.finished k ≡ Some f = in_first w.finished more.0 k f lt (subst (λ l. slice_get l k ≡ Some f) more.1 at) in
        let has : HasItsTicket w f = subst (HasItsTicket w) (get_or_from_slice_get w.finished k f f was) (have_their_tickets plan es c k f lt) in
        let few : f.outcome.ticket ≤ length (submitted_in (site_at w a).entries) =
        few_submitted (site_at w a).entries f.outcome.ticket (session_of f) (subst (λ b. submitted_as (site_at w b).entries f.outcome.ticket ≡ Some (session_of f)) here has) in
        omega (arith, few, ticket, next_ticket w a t p is, tickets_count plan es a)
