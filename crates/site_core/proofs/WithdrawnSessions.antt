-- A withdrawn session is gone: it has no outcome, isn't the current one and doesn't wait, and its ticket isn't given again.
use Rattle.std.proofs.Common.{◌≡◌, ℕ, ◌+◌, ◌<◌, ◌≤◌, Bool, true, false, cond, List, [], ◌∷◌, ◌++◌, map, Option, None, Some, Ok, Err, refl, sym, ap, subst, ◌∙◌, arith, ⊎_elim}
use Rattle.std.specs.Prelude.{◌==◌, ◌||◌, ◌&&◌, not, filter}
use Rattle.std.proofs.lemmas.Bool.{ne_eqb, eqb-true, or_parts, or_cases, or_left, or_right, and_parts, true≢false}
use Rattle.std.proofs.lemmas.List.{append-nil}
use Rattle.bottle_values.specs.Lists.{is_among}
use Rattle.frame_codec.specs.Frame.{Fields}
use Rattle.office_map.specs.PlanValue.{PlanValue, are_neighbours}
use Rattle.session_meaning.specs.ProgramValue.{ProgramValue}
use Rattle.session_meaning.specs.declared.ending.Ending.{Ending}
use Rattle.session_meaning.specs.declared.ending.Outcome.{Outcome}
use Rattle.session_machine.specs.Pieces.{ending_after}
use Rattle.drinking_core.specs.Drinkers as bottles
use Rattle.token_channel.specs.declared.fault.ChannelFault.{ChannelFault}
use Rattle.site_core.specs.declared.agendas.session.Session.{Session}
use Rattle.office_journal.specs.declared.rule.Rule.{Rule}
use Rattle.office_journal.specs.declared.rule.Rule.TheVariants as rule
use Rattle.office_journal.specs.declared.event.Event.{Event}
use Rattle.office_journal.specs.declared.event.Event.TheVariants as event
use Rattle.office_journal.specs.declared.event.Entry.{Entry}
use Rattle.office_journal.specs.declared.reply.Reply.TheVariants as reply
use Rattle.office_journal.specs.declared.reply.Refusal.TheVariants as refusal
use Rattle.site_core.specs.neighbours.Pairs.{frame_fault}
use Rattle.site_core.specs.agendas.Agenda.{Agenda, Current, Idle, Gathering, Working, submitted, is_waiting, is_gathering, started, begun, worked, outcome_of, outcome_as, with_current}
use Rattle.site_core.specs.agendas.Agenda as agenda
use Rattle.site_core.specs.Offices.{Office, may, act, may_withdraw, withdrawn, done_if, is_ours, framed, frame_on, unless_faulty, opened}
use Rattle.site_core.specs.Journals.{next_or, after, run_of, office_of}
use Rattle.site_core.specs.Readers.{outcome_with}
use Rattle.site_core.specs.Tickets.{current_tickets, Rise, GoInOrder, IsWithdrawn, WithdrawnForGood}
use Rattle.site_core.specs.WithdrawalLaws.{either_withdrawn, after_withdrawal}
use Rattle.site_core.proofs.SessionsInOrder.{tickets_begun, tickets_worked, in_order}

record IsGone (t : ℕ) (a : Agenda) : Type 0 where
  given : t ≤ a.tickets
  unfinished : outcome_with a.outcomes t ≡ None
  elsewhere : is_among (current_tickets a.current) t ≡ false
  absent : is_waiting a.queue t ≡ false

-- ---- lists of sessions

one_more : (t n : ℕ) (p : ProgramValue) (queue : List Session) → t ≤ n → is_waiting queue t ≡ false → is_waiting (queue ++ record { ticket = n + 1; program = p } ∷ []) t ≡ false
one_more t n p [] le h = ap (λ b. b || false) (ne_eqb (n + 1) t (λ (e : n + 1 ≡ t). absurd (omega (arith, le, e))))
one_more t n p (s ∷ queue) le h =
    let parts : ((s.ticket == t) ≡ false) × (is_waiting queue t ≡ false) = or_parts (s.ticket == t) (is_waiting queue t) h in
    ap (λ b. b || is_waiting (queue ++ record { ticket = n + 1; program = p } ∷ []) t) parts.0 ∙ one_more t n p queue le parts.1

fewer : (t ticket : ℕ) (queue : List Session) → is_waiting queue t ≡ false → is_waiting (filter (λ (s : Session). not (s.ticket == ticket)) queue) t ≡ false
fewer t ticket [] h = h
fewer t ticket (s ∷ queue) h =
    let parts : ((s.ticket == t) ≡ false) × (is_waiting queue t ≡ false) = or_parts (s.ticket == t) (is_waiting queue t) h in
    go (s.ticket == ticket) parts.0 (fewer t ticket queue parts.1)
  where
    others : List Session
    others = filter (λ (s : Session). not (s.ticket == ticket)) queue

    go : (b : Bool) → (s.ticket == t) ≡ false → is_waiting others t ≡ false → is_waiting (cond (not b) (s ∷ others) others) t ≡ false
    go true e rest = rest
    go false e rest = ap (λ k. k || is_waiting others t) e ∙ rest

one_outcome_more : (t : ℕ) (os : List Outcome) (x : Outcome) → (x.ticket == t) ≡ false → outcome_with os t ≡ None → outcome_with (os ++ x ∷ []) t ≡ None
one_outcome_more t [] x e h = ap (λ b. cond b (Some x) None) e
one_outcome_more t (o ∷ os) x e h = go (o.ticket == t) (one_outcome_more t os x e) h
  where
    go : (b : Bool) → (outcome_with os t ≡ None → outcome_with (os ++ x ∷ []) t ≡ None) → cond b (Some o) (outcome_with os t) ≡ None → cond b (Some o) (outcome_with (os ++ x ∷ []) t) ≡ None
    go true later k = absurd cc
    go false later k = later k

-- ---- events

by_start : (t : ℕ) (a : Agenda) (queue : List Session) → a.queue ≡ queue → IsGone t a → IsGone t (started a queue)
by_start t a [] is g = g
by_start t a (s ∷ rest) is g =
    let parts : ((s.ticket == t) ≡ false) × (is_waiting rest t ≡ false) = or_parts (s.ticket == t) (is_waiting rest t) (ap (λ q. is_waiting q t) (sym is) ∙ g.absent) in
    record { given = g.given; unfinished = g.unfinished; elsewhere = ap (λ b. b || false) parts.0; absent = parts.1 }

with_same : (t : ℕ) (a : Agenda) (c : Current) → current_tickets c ≡ current_tickets a.current → IsGone t a → IsGone t (with_current a c)
with_same t a c same g = record { given = g.given; unfinished = g.unfinished; elsewhere = ap (λ ts. is_among ts t) same ∙ g.elsewhere; absent = g.absent }

still_unfinished : (t me : ℕ) (os : List Outcome) (c : Current) → is_among (current_tickets c) t ≡ false → outcome_with os t ≡ None → outcome_with (os ++ outcome_of me c) t ≡ None
still_unfinished t me os Idle e h = ap (λ l. outcome_with l t) (append-nil os) ∙ h
still_unfinished t me os (Gathering s) e h = ap (λ l. outcome_with l t) (append-nil os) ∙ h
still_unfinished t me os (Working s reads done) e h = go (ending_after s.program reads done)
  where
    go : (end : Option Ending) → outcome_with (os ++ outcome_as me s.ticket end) t ≡ None
    go None = ap (λ l. outcome_with l t) (append-nil os) ∙ h
    go (Some end) = one_outcome_more t os (record { office = me; ticket = s.ticket; ending = end }) (or_parts (s.ticket == t) false e).0 h

by_rule : (t me : ℕ) (o : Office) (r : Rule) → IsGone t o.agenda → IsGone t (act me o r).agenda
by_rule t me o rule.Start g = by_start t o.agenda o.agenda.queue refl g
by_rule t me o rule.Hungry g = g
by_rule t me o (rule.AskFork v) g = g
by_rule t me o (rule.GiveFork v) g = g
by_rule t me o rule.Eat g = g
by_rule t me o rule.Leave g = g
by_rule t me o (rule.AskBottle r) g = g
by_rule t me o (rule.GiveBottle r) g = g
by_rule t me o rule.Drink g = with_same t o.agenda (begun _ o.agenda.current) (tickets_begun _ o.agenda.current) g
by_rule t me o (rule.Work n) g = with_same t o.agenda (worked n o.agenda.current) (tickets_worked n o.agenda.current) g
by_rule t me o rule.Finish g = record { given = g.given; unfinished = still_unfinished t me o.agenda.outcomes o.agenda.current g.elsewhere g.unfinished; elsewhere = refl; absent = g.absent }

by_event : (plan : PlanValue) (me t : ℕ) (o : Office) (e : Event) → IsGone t o.agenda → IsGone t (after plan me o e).agenda
by_event plan me t o (event.Submit p) g = go (is_ours plan me p) (agenda.is_full o.agenda)
  where
    go : (a b : Bool) → IsGone t (next_or o (cond a (cond b (Err refusal.QueueFull) (Ok (reply.Ticket (o.agenda.tickets + 1), record { pairs = o.pairs; agenda = submitted o.agenda p }))) (Err refusal.NotOurs))).agenda
    go true true = g
    go false b = g
    go true false = record { given = omega (arith, g.given); unfinished = g.unfinished; elsewhere = g.elsewhere; absent = one_more t o.agenda.tickets p o.agenda.queue g.given g.absent }
by_event plan me t o (event.Do r) g = go (may plan me o r)
  where
    go : (b : Bool) → IsGone t (next_or o (done_if b (act me o r))).agenda
    go true = by_rule t me o r g
    go false = g
by_event plan me t o (event.Send v i) g = go (are_neighbours plan me v)
  where
    made : (f : Option Fields) → next_or o (framed o f) ≡ o
    made None = refl
    made (Some f) = refl

    go : (b : Bool) → IsGone t (next_or o (cond b (framed o (frame_on (o.pairs.link v) i)) (Err refusal.NotNow))).agenda
    go true = subst (λ (x : Office). IsGone t x.agenda) (sym (made (frame_on (o.pairs.link v) i))) g
    go false = g
by_event plan me t o (event.Took f) g = go (frame_fault plan me o.pairs f)
  where
    go : (x : Option ChannelFault) → IsGone t (next_or o (unless_faulty plan me o f x)).agenda
    go None = g
    go (Some x) = g
by_event plan me t o (event.Withdraw ticket) g = after_withdrawal (λ (x : Office). IsGone t x.agenda) o ticket g
    (either_withdrawn (λ (x : Office). IsGone t x.agenda) o ticket
    (λ e. record { given = g.given; unfinished = g.unfinished; elsewhere = g.elsewhere; absent = fewer t ticket o.agenda.queue g.absent })
    (λ e. record { given = g.given; unfinished = g.unfinished; elsewhere = refl; absent = g.absent }))

by_run : (plan : PlanValue) (me t : ℕ) (o : Office) (xs : List Entry) → IsGone t o.agenda → IsGone t (run_of plan me o xs).agenda
by_run plan me t o [] g = g
by_run plan me t o (x ∷ xs) g = by_run plan me t (after plan me o x.event) xs (by_event plan me t o x.event g)

-- ---- the withdrawal

at_most : (k n : ℕ) (ts : List ℕ) → Rise k ts n → k ≤ n
at_most k n [] h = h
at_most k n (t ∷ ts) h = omega (arith, h.0, at_most t n ts h.1)

between : (k n t : ℕ) (ts : List ℕ) → Rise k ts n → is_among ts t ≡ true → (k < t) × (t ≤ n)
between k n t [] h e = absurd cc
between k n t (x ∷ ts) h e = ⊎_elim
    (λ s. let same : x ≡ t = eqb-true x t s in (omega (arith, h.0, same), omega (arith, at_most x n ts h.1, same)))
    (λ s. let later : (x < t) × (t ≤ n) = between x n t ts h.1 s in (omega (arith, h.0, later.0), later.1))
    (or_cases (x == t) (is_among ts t) e)

among_left : (t : ℕ) (xs ys : List ℕ) → is_among xs t ≡ true → is_among (xs ++ ys) t ≡ true
among_left t [] ys e = absurd cc
among_left t (x ∷ xs) ys e = ⊎_elim
    (λ s. or_left (x == t) (is_among (xs ++ ys) t) s)
    (λ s. or_right (x == t) (is_among (xs ++ ys) t) (among_left t xs ys s))
    (or_cases (x == t) (is_among xs t) e)

among_right : (t : ℕ) (xs ys : List ℕ) → is_among ys t ≡ true → is_among (xs ++ ys) t ≡ true
among_right t [] ys e = e
among_right t (x ∷ xs) ys e = or_right (x == t) (is_among (xs ++ ys) t) (among_right t xs ys e)

-- what is among the later tickets isn't among the earlier ones
not_earlier : (k n t : ℕ) (xs ys : List ℕ) → Rise k (xs ++ ys) n → is_among ys t ≡ true → is_among xs t ≡ false
not_earlier k n t [] ys h e = refl
not_earlier k n t (x ∷ xs) ys h e =
    let later : (x < t) × (t ≤ n) = between x n t (xs ++ ys) h.1 (among_right t xs ys e) in
    ap (λ b. b || is_among xs t) (ne_eqb x t (λ (same : x ≡ t). absurd (omega (arith, later.0, same)))) ∙ not_earlier x n t xs ys h.1 e

rest_rises : (k n : ℕ) (xs ys : List ℕ) → Rise k (xs ++ ys) n → (j : ℕ) × Rise j ys n
rest_rises k n [] ys h = (k, h)
rest_rises k n (x ∷ xs) ys h = rest_rises x n xs ys h.1

none_finished : (t : ℕ) (os : List Outcome) → is_among (map (λ (o : Outcome). o.ticket) os) t ≡ false → outcome_with os t ≡ None
none_finished t [] h = refl
none_finished t (o ∷ os) h =
    let parts : ((o.ticket == t) ≡ false) × (is_among (map (λ (o : Outcome). o.ticket) os) t ≡ false) = or_parts (o.ticket == t) (is_among (map (λ (o : Outcome). o.ticket) os) t) h in
    ap (λ b. cond b (Some o) (outcome_with os t)) parts.0 ∙ none_finished t os parts.1

waiting_among : (t : ℕ) (queue : List Session) → is_waiting queue t ≡ is_among (map (λ (s : Session). s.ticket) queue) t
waiting_among t [] = refl
waiting_among t (s ∷ queue) = ap (λ b. (s.ticket == t) || b) (waiting_among t queue)

none_left : (t : ℕ) (queue : List Session) → is_waiting (filter (λ (s : Session). not (s.ticket == t)) queue) t ≡ false
none_left t [] = refl
none_left t (s ∷ queue) = go (s.ticket == t) refl (none_left t queue)
  where
    others : List Session
    others = filter (λ (s : Session). not (s.ticket == t)) queue

    go : (b : Bool) → (s.ticket == t) ≡ b → is_waiting others t ≡ false → is_waiting (cond (not b) (s ∷ others) others) t ≡ false
    go true e rest = rest
    go false e rest = ap (λ k. k || is_waiting others t) e ∙ rest

gathers : (t : ℕ) (c : Current) → is_gathering c t ≡ true → is_among (current_tickets c) t ≡ true
gathers t Idle e = absurd cc
gathers t (Gathering s) e = or_left (s.ticket == t) false e
gathers t (Working s reads done) e = absurd cc

gone_at_once : (o : Office) (t : ℕ) → GoInOrder o.agenda → may_withdraw o t ≡ true → IsGone t (withdrawn o t).agenda
gone_at_once o t h m = either_withdrawn (λ (x : Office). IsGone t x.agenda) o t
    (λ e.
    let waits : is_among queue t ≡ true = sym (waiting_among t o.agenda.queue) ∙ e in
    let rest = rest_rises 0 o.agenda.tickets finishers (current ++ queue) h in
    record {
      given = (between 0 o.agenda.tickets t (finishers ++ (current ++ queue)) h (among_right t finishers (current ++ queue) (among_right t current queue waits))).1;
      unfinished = none_finished t o.agenda.outcomes (not_earlier 0 o.agenda.tickets t finishers (current ++ queue) h (among_right t current queue waits));
      elsewhere = not_earlier rest.0 o.agenda.tickets t current queue rest.1 waits;
      absent = none_left t o.agenda.queue;
    })
    (λ e.
    let gathering : is_gathering o.agenda.current t ≡ true =
    ⊎_elim (λ w. absurd (true≢false (sym w ∙ e))) (λ g. (and_parts (is_gathering o.agenda.current t) (bottles.may o.pairs.drinker bottles.Withdraw) g).0) (or_cases (is_waiting o.agenda.queue t) (is_gathering o.agenda.current t && bottles.may o.pairs.drinker bottles.Withdraw) m) in
    let here : is_among (current ++ queue) t ≡ true = among_left t current queue (gathers t o.agenda.current gathering) in
    record {
      given = (between 0 o.agenda.tickets t (finishers ++ (current ++ queue)) h (among_right t finishers (current ++ queue) here)).1;
      unfinished = none_finished t o.agenda.outcomes (not_earlier 0 o.agenda.tickets t finishers (current ++ queue) h here);
      elsewhere = refl;
      absent = e;
    })
  where
    finishers : List ℕ
    finishers = map (λ (x : Outcome). x.ticket) o.agenda.outcomes

    current : List ℕ
    current = current_tickets o.agenda.current

    queue : List ℕ
    queue = map (λ (s : Session). s.ticket) o.agenda.queue

-- ---- for good

run_on : (plan : PlanValue) (me : ℕ) (o : Office) (xs : List Entry) (x : Entry) (more : List Entry) → run_of plan me o (xs ++ x ∷ more) ≡ run_of plan me (after plan me (run_of plan me o xs) x.event) more
run_on plan me o [] x more = refl
run_on plan me o (y ∷ ys) x more = run_on plan me (after plan me o y.event) ys x more

over : (t : ℕ) (o : Office) → IsGone t o.agenda → IsWithdrawn o t
over t o g = record { given = g.given; outcome = g.unfinished; again = ap (λ b. b || (is_gathering o.agenda.current t && bottles.may o.pairs.drinker bottles.Withdraw)) g.absent ∙ not_current o.agenda.current g.elsewhere }
  where
    not_current : (c : Current) → is_among (current_tickets c) t ≡ false → (is_gathering c t && bottles.may o.pairs.drinker bottles.Withdraw) ≡ false
    not_current Idle e = refl
    not_current (Gathering s) e = ap (λ b. b && bottles.may o.pairs.drinker bottles.Withdraw) (or_parts (s.ticket == t) false e).0
    not_current (Working s reads done) e = refl

pub withdrawn_for_good : WithdrawnForGood
unfolding office_of
withdrawn_for_good plan me es more x t is m =
    let o : Office = run_of plan me (opened plan me) es in
    let done : after plan me o x.event ≡ withdrawn o t = ap (after plan me o) is ∙ ap (λ b. next_or o (done_if b (withdrawn o t))) m in
    let gone : IsGone t (after plan me o x.event).agenda = subst (λ (y : Office). IsGone t y.agenda) (sym done) (gone_at_once o t (in_order (record { plan = plan; me = me; entries = es })) m) in
    over t (run_of plan me (opened plan me) (es ++ x ∷ more)) (subst (λ (y : Office). IsGone t y.agenda) (sym (run_on plan me (opened plan me) es x more)) (by_run plan me t (after plan me o x.event) more gone))
