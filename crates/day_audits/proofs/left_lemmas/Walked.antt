-- What a walk over a journal keeps is what the office has left at its end.
use Rattle.std.proofs.Common.{◌≡◌, ℕ, ◌+◌, ◌<◌, ◌≤◌, Bool, true, false, cond, List, [], ◌∷◌, ◌++◌, map, drop, Option, None, Some, Ok, Err, refl, sym, ap, ap₂, subst, ◌∙◌, arith, append_assoc}
use Rattle.std.specs.Prelude.{◌==◌, ◌&&◌, ◌||◌, not, is_some}
use Rattle.std.proofs.lemmas.Bool.{ne_eqb, eqb-true, or_parts, and_parts, true≢false}
use Rattle.bottle_values.specs.declared.Value.{Value}
use Rattle.frame_codec.specs.Frame.{Fields}
use Rattle.office_map.specs.PlanValue.{PlanValue, are_neighbours}
use Rattle.session_meaning.specs.ProgramValue.{ProgramValue}
use Rattle.session_meaning.specs.declared.ending.Outcome.{Outcome}
use Rattle.token_channel.specs.declared.fault.ChannelFault.{ChannelFault}
use Rattle.drinking_core.specs.Drinkers as bottles
use Rattle.site_core.specs.declared.agendas.session.Session.{Session}
use Rattle.site_core.specs.agendas.Agenda.{Current, Idle, Gathering, Working, submitted, is_waiting, is_gathering, is_full, without_waiting, first_needs, started, begun, worked, writes_of, with_current}
use Rattle.office_journal.specs.declared.rule.Rule.{Rule}
use Rattle.office_journal.specs.declared.rule.Rule.TheVariants as rule
use Rattle.office_journal.specs.declared.event.Event.{Event}
use Rattle.office_journal.specs.declared.event.Event.TheVariants as event
use Rattle.office_journal.specs.declared.event.Entry.{Entry}
use Rattle.office_journal.specs.declared.reply.Reply.{Reply}
use Rattle.office_journal.specs.declared.reply.Reply.TheVariants as reply
use Rattle.office_journal.specs.declared.reply.Refusal.TheVariants as refusal
use Rattle.site_core.specs.neighbours.Pairs.{frame_fault, after_bottle_rule}
use Rattle.site_core.specs.Offices.{Office, Answer, answer, may, act, may_withdraw, withdrawn, done_if, is_ours, submit, framed, frame_on, unless_faulty, opened}
use Rattle.site_core.specs.Journals.{Site, next_or, after, run_of, office_of, noted, AreAccepted, IsLegal}
use Rattle.site_core.specs.JournalLaws.{office_noted, office_empty}
use Rattle.site_core.specs.Tickets.{current_tickets, Rise, GoInOrder, SessionsGoInOrder}
use Rattle.day_audits.specs.left.Left.{current_session, left_at, left_sessions}
use Rattle.day_audits.specs.left.refinement.Walks.{with_submitted, after_rule, without, after_event, left_after}
use Rattle.day_audits.proofs.left_lemmas.IdleOffices.{Rests, rests_after}

abbrev pub tickets_of : List Session → List ℕ
tickets_of = map (λ (s : Session). s.ticket)

-- ---- lists of sessions

-- those behind a ticket have greater ones
pub not_waiting : (k n t : ℕ) (queue : List Session) → t ≤ k → Rise k (tickets_of queue) n → is_waiting queue t ≡ false
not_waiting k n t [] le h = refl
not_waiting k n t (s ∷ queue) le h =
    let more : k < s.ticket = h.0 in
    ap (λ b. b || is_waiting queue t) (ne_eqb s.ticket t (λ (e : s.ticket ≡ t). absurd (omega (arith, le, more, e)))) ∙ not_waiting s.ticket n t queue (omega (arith, le, more)) h.1

pub all_stay : (t : ℕ) (queue : List Session) → is_waiting queue t ≡ false → without queue t ≡ queue
all_stay t [] h = refl
all_stay t (s ∷ queue) h =
    let parts : ((s.ticket == t) ≡ false) × (is_waiting queue t ≡ false) = or_parts (s.ticket == t) (is_waiting queue t) h in
    ap (λ b. cond (not b) (s ∷ without queue t) (without queue t)) parts.0 ∙ ap (λ q. s ∷ q) (all_stay t queue parts.1)

rise_from : (k j n : ℕ) (ts : List ℕ) → j ≤ k → Rise k ts n → Rise j ts n
rise_from k j n [] le h = omega (arith, le, h)
rise_from k j n (t ∷ ts) le h = (omega (arith, le, h.0), h.1)

rise_without : (k n : ℕ) (ts rest : List ℕ) → Rise k (ts ++ rest) n → Rise k rest n
rise_without k n [] rest h = h
rise_without k n (t ∷ ts) rest h = rise_from t k n rest (omega (arith, h.0)) (rise_without t n ts rest h.1)

-- the tickets of those that are left rise
pub left_rise : (o : Office) → GoInOrder o.agenda → Rise 0 (current_tickets o.agenda.current ++ tickets_of o.agenda.queue) o.agenda.tickets
left_rise o h = rise_without 0 o.agenda.tickets (map (λ (x : Outcome). x.ticket) o.agenda.outcomes) (current_tickets o.agenda.current ++ tickets_of o.agenda.queue) h

-- where one that waits is taken out, the first stays
first_stays : (n t : ℕ) (s : Session) (queue : List Session) → is_waiting queue t ≡ true → Rise s.ticket (tickets_of queue) n → without (s ∷ queue) t ≡ s ∷ without queue t
first_stays n t s queue waits h = go (s.ticket == t) refl
  where
    go : (b : Bool) → (s.ticket == t) ≡ b → cond (not b) (s ∷ without queue t) (without queue t) ≡ s ∷ without queue t
    go false e = refl
    go true e =
        let same : s.ticket ≡ t = eqb-true s.ticket t e in
        let none : is_waiting queue t ≡ false = not_waiting s.ticket n t queue (omega (arith, same)) h in
        absurd (true≢false (sym waits ∙ none))

current_stays : (n t : ℕ) (c : Current) (queue : List Session) → is_waiting queue t ≡ true → Rise 0 (current_tickets c ++ tickets_of queue) n → without (current_session c ++ queue) t ≡ current_session c ++ without queue t
current_stays n t Idle queue waits h = refl
current_stays n t (Gathering s) queue waits h = first_stays n t s queue waits h.1
current_stays n t (Working s reads done) queue waits h = first_stays n t s queue waits h.1

-- where none that waits is, the current one is taken out
current_goes : (t : ℕ) (may : Bool) (c : Current) (queue : List Session) → is_waiting queue t ≡ false → (is_gathering c t && may) ≡ true → queue ≡ without (current_session c ++ queue) t
current_goes t may Idle queue none h = absurd cc
current_goes t may (Working s reads done) queue none h = absurd cc
current_goes t may (Gathering s) queue none h =
    let is : (s.ticket == t) ≡ true = (and_parts (s.ticket == t) may h).0 in
    sym (ap (λ b. cond (not b) (s ∷ without queue t) (without queue t)) is ∙ all_stay t queue none)

-- ---- events

abbrev pub said : Answer → Option Reply
said (Ok x) = Some x.0
said (Err e) = None

by_submit : (plan : PlanValue) (me : ℕ) (o : Office) (p : ProgramValue) (r : Reply) (y : Office) → submit plan me o p ≡ Ok (r, y) → left_at (next_or o (submit plan me o p)) ≡ with_submitted (left_at o) p r
by_submit plan me o p r y = go (is_ours plan me p) (is_full o.agenda)
  where
    one : Session
    one = record { ticket = o.agenda.tickets + 1; program = p }

    more : Office
    more = record { pairs = o.pairs; agenda = submitted o.agenda p }

    go : (a b : Bool) → cond {A = Answer} a (cond b (Err refusal.QueueFull) (Ok (reply.Ticket (o.agenda.tickets + 1), more))) (Err refusal.NotOurs) ≡ Ok (r, y)
        → left_at (next_or o (cond a (cond b (Err refusal.QueueFull) (Ok (reply.Ticket (o.agenda.tickets + 1), more))) (Err refusal.NotOurs))) ≡ with_submitted (left_at o) p r
    go true true k = absurd cc
    go false b k = absurd cc
    go true false k =
        let same : Some (reply.Ticket (o.agenda.tickets + 1)) ≡ Some r = ap said k in
        let is : reply.Ticket (o.agenda.tickets + 1) ≡ r = cc in
        subst (λ x. left_at more ≡ with_submitted (left_at o) p x) is (sym (append_assoc (current_session o.agenda.current) o.agenda.queue (one ∷ [])))

sessions_begun : (values : ℕ → Value) (c : Current) → current_session (begun values c) ≡ current_session c
sessions_begun values Idle = refl
sessions_begun values (Gathering s) = refl
sessions_begun values (Working s reads done) = refl

sessions_worked : (n : ℕ) (c : Current) → current_session (worked n c) ≡ current_session c
sessions_worked n Idle = refl
sessions_worked n (Gathering s) = refl
sessions_worked n (Working s reads done) = refl

by_start : (o : Office) (queue : List Session) → o.agenda.queue ≡ queue → bottles.may o.pairs.drinker (bottles.Start (first_needs queue)) ≡ true → Rests o →
    current_session (started o.agenda queue).current ++ (started o.agenda queue).queue ≡ left_at o
by_start o [] is m w = refl
by_start o (s ∷ rest) is m w =
    let none : o.agenda.current ≡ Idle = w (and_parts (bottles.is_tranquil o.pairs.drinker.phase) true m).0 in
    ap₂ (λ (c : Current) (q : List Session). current_session c ++ q) (sym none) (sym is)

by_finish : (c : Current) (queue : List Session) → is_some (writes_of c) ≡ true → queue ≡ drop 1 (current_session c ++ queue)
by_finish Idle queue m = absurd cc
by_finish (Gathering s) queue m = absurd cc
by_finish (Working s reads done) queue m = refl

by_rule : (plan : PlanValue) (me : ℕ) (o : Office) (r : Rule) → may plan me o r ≡ true → Rests o → left_at (act me o r) ≡ after_rule (left_at o) r
by_rule plan me o rule.Start m w = by_start o o.agenda.queue refl m w
by_rule plan me o rule.Hungry m w = refl
by_rule plan me o (rule.AskFork v) m w = refl
by_rule plan me o (rule.GiveFork v) m w = refl
by_rule plan me o rule.Eat m w = refl
by_rule plan me o rule.Leave m w = refl
by_rule plan me o (rule.AskBottle r) m w = refl
by_rule plan me o (rule.GiveBottle r) m w = refl
by_rule plan me o rule.Drink m w = ap (λ (l : List Session). l ++ o.agenda.queue) (sessions_begun _ o.agenda.current)
by_rule plan me o (rule.Work n) m w = ap (λ (l : List Session). l ++ o.agenda.queue) (sessions_worked n o.agenda.current)
by_rule plan me o rule.Finish m w = by_finish o.agenda.current o.agenda.queue (and_parts (bottles.is_drinking o.pairs.drinker.phase) (is_some (writes_of o.agenda.current)) m).1

by_withdrawal : (o : Office) (t : ℕ) → GoInOrder o.agenda → may_withdraw o t ≡ true → left_at (withdrawn o t) ≡ without (left_at o) t
by_withdrawal o t h m = go (is_waiting o.agenda.queue t) refl
  where
    fewer : Office
    fewer = record { pairs = o.pairs; agenda = without_waiting o.agenda t }

    idle : Office
    idle = record { pairs = after_bottle_rule o.pairs bottles.Withdraw; agenda = with_current o.agenda Idle }

    go : (b : Bool) → is_waiting o.agenda.queue t ≡ b → left_at (cond b fewer idle) ≡ without (left_at o) t
    go true e = sym (current_stays o.agenda.tickets t o.agenda.current o.agenda.queue e (left_rise o h))
    go false e =
        let gathers : (is_gathering o.agenda.current t && bottles.may o.pairs.drinker bottles.Withdraw) ≡ true =
        sym (ap (λ b. b || (is_gathering o.agenda.current t && bottles.may o.pairs.drinker bottles.Withdraw)) e) ∙ m in
        current_goes t (bottles.may o.pairs.drinker bottles.Withdraw) o.agenda.current o.agenda.queue e gathers

-- what is left after an event that an office accepts
pub by_event : (plan : PlanValue) (me : ℕ) (o : Office) (e : Event) (r : Reply) (y : Office) → Rests o → GoInOrder o.agenda → answer plan me o e ≡ Ok (r, y) → left_at (after plan me o e) ≡ after_event (left_at o) e r
by_event plan me o (event.Submit p) r y w h k = by_submit plan me o p r y k
by_event plan me o (event.Do rule) r y w h k = go (may plan me o rule) refl k
  where
    go : (b : Bool) → may plan me o rule ≡ b → done_if b (act me o rule) ≡ Ok (r, y) → left_at (next_or o (done_if b (act me o rule))) ≡ after_rule (left_at o) rule
    go true m k = by_rule plan me o rule m w
    go false m k = absurd cc
by_event plan me o (event.Send v i) r y w h k = go (are_neighbours plan me v)
  where
    made : (f : Option Fields) → left_at (next_or o (framed o f)) ≡ left_at o
    made None = refl
    made (Some f) = refl

    go : (b : Bool) → left_at (next_or o (cond b (framed o (frame_on (o.pairs.link v) i)) (Err refusal.NotNow))) ≡ left_at o
    go true = made (frame_on (o.pairs.link v) i)
    go false = refl
by_event plan me o (event.Took f) r y w h k = go (frame_fault plan me o.pairs f)
  where
    go : (x : Option ChannelFault) → left_at (next_or o (unless_faulty plan me o f x)) ≡ left_at o
    go None = refl
    go (Some x) = refl
by_event plan me o (event.Withdraw t) r y w h k = go (may_withdraw o t) refl k
  where
    go : (b : Bool) → may_withdraw o t ≡ b → done_if b (withdrawn o t) ≡ Ok (r, y) → left_at (next_or o (done_if b (withdrawn o t))) ≡ without (left_at o) t
    go true m k = by_withdrawal o t h m
    go false m k = absurd cc

-- ---- journals

walked : SessionsGoInOrder → (s : Site) (xs : List Entry) → Rests (office_of s) → AreAccepted s.plan s.me (office_of s) xs → left_after (left_sessions s) xs ≡ left_at (run_of s.plan s.me (office_of s) xs)
walked law s [] w h = refl
walked law s (x ∷ xs) w (fits, tag, rest) =
    let next : Site = noted s x.tag x.event x.reply in
    let is : office_of next ≡ after s.plan s.me (office_of s) x.event = office_noted s x.tag x.event x.reply in
    let step : left_at (after s.plan s.me (office_of s) x.event) ≡ after_event (left_sessions s) x.event x.reply = by_event s.plan s.me (office_of s) x.event x.reply _ w (law s) fits in
    let more : left_after (left_sessions next) xs ≡ left_at (run_of s.plan s.me (office_of next) xs) =
    walked law next xs (subst Rests (sym is) (rests_after s.plan s.me (office_of s) x.event w)) (subst (λ o. AreAccepted s.plan s.me o xs) (sym is) rest) in
    ap (λ l. left_after l xs) (sym step ∙ ap left_at (sym is)) ∙ more ∙ ap (λ o. left_at (run_of s.plan s.me o xs)) is

pub at_end : (s : Site) → run_of s.plan s.me (opened s.plan s.me) s.entries ≡ office_of s
unfolding office_of
at_end s = refl

-- the whole journal
pub all_walked : SessionsGoInOrder → (s : Site) → IsLegal s → left_after [] s.entries ≡ left_sessions s
all_walked law s h =
    let none : Site = record { plan = s.plan; me = s.me; entries = [] } in
    let is : office_of none ≡ opened s.plan s.me = office_empty s.plan s.me in
    let nothing : left_sessions none ≡ [] = ap left_at is in
    let more : left_after (left_sessions none) s.entries ≡ left_at (run_of s.plan s.me (office_of none) s.entries) =
    walked law none s.entries (subst Rests (sym is) (λ e. refl)) (subst (λ o. AreAccepted s.plan s.me o s.entries) (sym is) h.accepted) in
    ap (λ l. left_after l s.entries) (sym nothing) ∙ more ∙ ap (λ o. left_at (run_of s.plan s.me o s.entries)) is ∙ ap left_at (at_end s)
