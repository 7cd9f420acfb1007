-- The tickets that an office gives along its journal, and the outcomes that it has.
use Rattle.std.proofs.Common.{◌≡◌, ◌==◌, ℕ, ◌+◌, suc, Bool, true, false, cond, List, [], ◌∷◌, ◌++◌, Option, None, Some, Ok, Err, All, refl, sym, ap, subst, ◌∙◌, append_assoc, append-nil, arith}
use Rattle.std.proofs.lemmas.Bool.{and_parts}
use Rattle.std.proofs.lemmas.List.Elements.{All-nil, All-cons, All-append}
use mathlib.Core.List.{IsPrefix}
use Rattle.frame_codec.specs.Frame.{Fields}
use Rattle.office_map.specs.PlanValue.{PlanValue, are_neighbours}
use Rattle.session_meaning.specs.declared.ending.Outcome.{Outcome}
use Rattle.session_programs.specs.Program.{fits}
use Rattle.token_channel.specs.declared.fault.ChannelFault.{ChannelFault}
use Rattle.site_core.specs.declared.agendas.session.Session.{Session}
use Rattle.site_core.specs.agendas.Agenda.{Agenda, submitted, is_full, started, outcome_of}
use Rattle.office_journal.specs.declared.rule.Rule.{Rule}
use Rattle.office_journal.specs.declared.rule.Rule.TheVariants as rule
use Rattle.office_journal.specs.declared.event.Event.{Event}
use Rattle.office_journal.specs.declared.event.Event.TheVariants as event
use Rattle.office_journal.specs.declared.event.Entry.{Entry}
use Rattle.office_journal.specs.declared.reply.Reply.{Reply}
use Rattle.office_journal.specs.declared.reply.Reply.TheVariants as reply
use Rattle.office_journal.specs.declared.reply.Refusal.TheVariants as refusal
use Rattle.site_core.specs.neighbours.Pairs.{frame_fault}
use Rattle.site_core.specs.Offices.{Office, Answer, answer, may, act, may_withdraw, withdrawn, done_if, is_ours, framed, frame_on, unless_faulty, opened}
use Rattle.site_core.specs.Journals.{Site, next_or, after, run_of, office_of, AreAccepted, IsLegal}
use Rattle.site_core.specs.Submitted.{submitted_by, submitted_in}
use Rattle.site_core.specs.WithdrawalLaws.{either_withdrawn}
use Rattle.serving.specs.answers.TicketLaws.{AreNumbered, TicketsAreNumbered}

-- ---- one event

abbrev pub given : Answer → Option Reply
given (Ok x) = Some x.0
given (Err e) = None

-- what an event does to what an office tells of its sessions: it submits those, and these outcomes are there then
pub record Goes (plan : PlanValue) (o p : Office) (subs : List Session) : Type 0 where
  pub numbered : AreNumbered o.agenda.tickets subs p.agenda.tickets
  pub fit : All (λ (x : Session). fits plan x.program ≡ true) subs
  pub more : IsPrefix o.agenda.outcomes p.agenda.outcomes

-- nothing is submitted
stays : (plan : PlanValue) (o p : Office) → o.agenda.tickets ≡ p.agenda.tickets → IsPrefix o.agenda.outcomes p.agenda.outcomes → Goes plan o p []
stays plan o p same more = record { numbered = same; fit = All-nil (λ (x : Session). fits plan x.program ≡ true); more = more }

itself : (os : List Outcome) → IsPrefix os os
itself os = ([], append-nil os)

by_start : (plan : PlanValue) (o p : Office) (queue : List Session) → p.agenda ≡ started o.agenda queue → Goes plan o p []
by_start plan o p [] is = stays plan o p (sym (ap (λ (a : Agenda). a.tickets) is)) (subst (IsPrefix o.agenda.outcomes) (sym (ap (λ (a : Agenda). a.outcomes) is)) (itself o.agenda.outcomes))
by_start plan o p (s ∷ rest) is = stays plan o p (sym (ap (λ (a : Agenda). a.tickets) is)) (subst (IsPrefix o.agenda.outcomes) (sym (ap (λ (a : Agenda). a.outcomes) is)) (itself o.agenda.outcomes))

by_rule : (plan : PlanValue) (me : ℕ) (o : Office) (r : Rule) → Goes plan o (act me o r) []
by_rule plan me o rule.Start = by_start plan o (act me o rule.Start) o.agenda.queue refl
by_rule plan me o rule.Hungry = stays plan o (act me o rule.Hungry) refl (itself o.agenda.outcomes)
by_rule plan me o (rule.AskFork v) = stays plan o (act me o (rule.AskFork v)) refl (itself o.agenda.outcomes)
by_rule plan me o (rule.GiveFork v) = stays plan o (act me o (rule.GiveFork v)) refl (itself o.agenda.outcomes)
by_rule plan me o rule.Eat = stays plan o (act me o rule.Eat) refl (itself o.agenda.outcomes)
by_rule plan me o rule.Leave = stays plan o (act me o rule.Leave) refl (itself o.agenda.outcomes)
by_rule plan me o (rule.AskBottle r) = stays plan o (act me o (rule.AskBottle r)) refl (itself o.agenda.outcomes)
by_rule plan me o (rule.GiveBottle r) = stays plan o (act me o (rule.GiveBottle r)) refl (itself o.agenda.outcomes)
by_rule plan me o rule.Drink = stays plan o (act me o rule.Drink) refl (itself o.agenda.outcomes)
by_rule plan me o (rule.Work n) = stays plan o (act me o (rule.Work n)) refl (itself o.agenda.outcomes)
by_rule plan me o rule.Finish = stays plan o (act me o rule.Finish) refl (outcome_of me o.agenda.current, refl)

by_event : (plan : PlanValue) (me : ℕ) (o : Office) (e : Event) (r : Reply) (y : Office) → answer plan me o e ≡ Ok (r, y) → Goes plan o (after plan me o e) (submitted_by e r)
by_event plan me o (event.Submit p) r y k = go (is_ours plan me p) (is_full o.agenda) refl k
  where
    more : Office
    more = record { pairs = o.pairs; agenda = submitted o.agenda p }

    go : (a b : Bool) → is_ours plan me p ≡ a → cond {A = Answer} a (cond b (Err refusal.QueueFull) (Ok (reply.Ticket (o.agenda.tickets + 1), more))) (Err refusal.NotOurs) ≡ Ok (r, y)
        → Goes plan o (next_or o (cond a (cond b (Err refusal.QueueFull) (Ok (reply.Ticket (o.agenda.tickets + 1), more))) (Err refusal.NotOurs))) (submitted_by (event.Submit p) r)
    go true true ours k = absurd cc
    go false b ours k = absurd cc
    go true false ours k =
        let same : Some (reply.Ticket (o.agenda.tickets + 1)) ≡ Some r = ap given k in
        let is : reply.Ticket (o.agenda.tickets + 1) ≡ r = cc in
        let one : Session = record { ticket = o.agenda.tickets + 1; program = p } in
        subst (λ x. Goes plan o more (submitted_by (event.Submit p) x)) is (record {
          numbered = (omega arith, omega arith);
          fit = All-cons (λ (x : Session). fits plan x.program ≡ true) one [] (and_parts (p.office == me) (fits plan p) ours).1 (All-nil (λ (x : Session). fits plan x.program ≡ true));
          more = itself o.agenda.outcomes;
        })
by_event plan me o (event.Do rule) r y k = go (may plan me o rule)
  where
    go : (b : Bool) → Goes plan o (next_or o (done_if b (act me o rule))) []
    go true = by_rule plan me o rule
    go false = stays plan o o refl (itself o.agenda.outcomes)
by_event plan me o (event.Send v i) r y k = go (are_neighbours plan me v)
  where
    made : (f : Option Fields) → Goes plan o (next_or o (framed o f)) []
    made None = stays plan o o refl (itself o.agenda.outcomes)
    made (Some f) = stays plan o o refl (itself o.agenda.outcomes)

    go : (b : Bool) → Goes plan o (next_or o (cond b (framed o (frame_on (o.pairs.link v) i)) (Err refusal.NotNow))) []
    go true = made (frame_on (o.pairs.link v) i)
    go false = stays plan o o refl (itself o.agenda.outcomes)
by_event plan me o (event.Took f) r y k = go (frame_fault plan me o.pairs f)
  where
    go : (x : Option ChannelFault) → Goes plan o (next_or o (unless_faulty plan me o f x)) []
    go None = stays plan o (next_or o (unless_faulty plan me o f None)) refl (itself o.agenda.outcomes)
    go (Some x) = stays plan o o refl (itself o.agenda.outcomes)
by_event plan me o (event.Withdraw t) r y k = go (may_withdraw o t)
  where
    less : Goes plan o (withdrawn o t) []
    less = either_withdrawn (λ (p : Office). Goes plan o p []) o t (λ e. stays plan o _ refl (itself o.agenda.outcomes)) (λ e. stays plan o _ refl (itself o.agenda.outcomes))

    go : (b : Bool) → Goes plan o (next_or o (done_if b (withdrawn o t))) []
    go true = less
    go false = stays plan o o refl (itself o.agenda.outcomes)

-- ---- events after events

numbered_on : (k m n : ℕ) (xs ys : List Session) → AreNumbered k xs m → AreNumbered m ys n → AreNumbered k (xs ++ ys) n
numbered_on k m n [] ys same h = subst (λ j. AreNumbered j ys n) (sym same) h
numbered_on k m n (x ∷ xs) ys (first, others) h = (first, numbered_on (suc k) m n xs ys others h)

all_on : (plan : PlanValue) (xs ys : List Session) → All (λ (x : Session). fits plan x.program ≡ true) xs → All (λ (x : Session). fits plan x.program ≡ true) ys → All (λ (x : Session). fits plan x.program ≡ true) (xs ++ ys)
all_on plan xs ys a b = All-append (λ (x : Session). fits plan x.program ≡ true) xs ys a b

prefix_on : (xs ys zs : List Outcome) → IsPrefix xs ys → IsPrefix ys zs → IsPrefix xs zs
prefix_on xs ys zs p q = (p.0 ++ q.0, sym (append_assoc xs p.0 q.0) ∙ ap (λ l. l ++ q.0) p.1 ∙ q.1)

pub goes_on : (plan : PlanValue) (me : ℕ) (o : Office) (xs : List Entry) → AreAccepted plan me o xs → Goes plan o (run_of plan me o xs) (submitted_in xs)
goes_on plan me o [] h = stays plan o o refl (itself o.agenda.outcomes)
goes_on plan me o (x ∷ xs) (ok, lt, h) =
    let next : Office = after plan me o x.event in
    let first = by_event plan me o x.event x.reply next ok in
    let others = goes_on plan me next xs h in
    record {
      numbered = numbered_on o.agenda.tickets next.agenda.tickets (run_of plan me next xs).agenda.tickets (submitted_by x.event x.reply) (submitted_in xs) first.numbered others.numbered;
      fit = all_on plan (submitted_by x.event x.reply) (submitted_in xs) first.fit others.fit;
      more = prefix_on o.agenda.outcomes next.agenda.outcomes (run_of plan me next xs).agenda.outcomes first.more others.more;
    }

-- ---- journals

pub legal_goes : (s : Site) → IsLegal s → Goes s.plan (opened s.plan s.me) (office_of s) (submitted_in s.entries)
unfolding office_of
legal_goes s h = goes_on s.plan s.me (opened s.plan s.me) s.entries h.accepted

run_on : (plan : PlanValue) (me : ℕ) (o : Office) (xs ys : List Entry) → run_of plan me o (xs ++ ys) ≡ run_of plan me (run_of plan me o xs) ys
run_on plan me o [] ys = refl
run_on plan me o (x ∷ xs) ys = run_on plan me (after plan me o x.event) xs ys

accepted_on : (plan : PlanValue) (me : ℕ) (o : Office) (xs ys : List Entry) → AreAccepted plan me o (xs ++ ys) → AreAccepted plan me (run_of plan me o xs) ys
accepted_on plan me o [] ys h = h
accepted_on plan me o (x ∷ xs) ys (ok, lt, h) = accepted_on plan me (after plan me o x.event) xs ys h

-- of a journal that goes on: what is submitted later, and the outcomes that come
pub journal_goes : (plan : PlanValue) (me : ℕ) (es more : List Entry) → IsLegal (record { plan = plan; me = me; entries = es ++ more })
    → Goes plan (office_of (record { plan = plan; me = me; entries = es })) (office_of (record { plan = plan; me = me; entries = es ++ more })) (submitted_in more)
unfolding office_of
journal_goes plan me es more legal =
    let first = opened plan me in
    subst (λ (o : Office). Goes plan (run_of plan me first es) o (submitted_in more)) (sym (run_on plan me first es more)) (goes_on plan me (run_of plan me first es) more (accepted_on plan me first es more legal.accepted))

pub tickets_are_numbered : TicketsAreNumbered
tickets_are_numbered s h = (legal_goes s h).numbered
