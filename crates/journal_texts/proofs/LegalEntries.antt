-- The entries of a legal journal name what is there, and their numbers are in the ranges of a journal's text.
use Rattle.std.proofs.Common.{◌≡◌, ℕ, zero, suc, ◌+◌, ◌<◌, ◌≤◌, ◌^◌, Bool, true, false, not, ◌&&◌, ◌==◌, cond, nat_le, List, [], ◌∷◌, ◌++◌, length, map, Option, None, Some, is_some, Ok, Err, refl, sym, ap, ◌∙◌, subst, arith, length-append, ⊎_elim}
use Rattle.std.specs.Prelude.{All, IsTrue, ◌||◌}
use Rattle.std.specs.List.{list_any}
use Rattle.std.proofs.lemmas.Bool.{and_parts, or_left, or_right, eq-eqb, cases_eq, ne_eqb}
use Rattle.std.proofs.lemmas.Bool.Decides.{nat_tests}
use Rattle.std.proofs.lemmas.List.Elements.{All-nil, All-cons}
use Rattle.std.proofs.lemmas.List.Folds.{list_any-append}
use Rattle.frame_codec.specs.Frame.{Fields}
use Rattle.office_map.specs.PlanValue.{PlanValue, are_neighbours, is_end}
use Rattle.office_map.specs.Consistency.{IsConsistent}
use Rattle.office_map.specs.NeighbourLaws.{near_within, end_within}
use Rattle.session_meaning.specs.declared.ending.Outcome.{Outcome}
use Rattle.session_meaning.specs.ProgramValue.{ProgramValue}
use Rattle.session_programs.specs.Program.{fits}
use Rattle.window_link.specs.declared.arrival.Arrival.{Arrival}
use Rattle.window_link.specs.Links.{LinkState, ack_frame_of, frame_of}
use Rattle.token_channel.specs.declared.fault.ChannelFault.{ChannelFault}
use Rattle.drinking_core.specs.Drinkers as bottles
use Rattle.site_core.specs.declared.agendas.session.Session.{Session}
use Rattle.office_journal.specs.declared.rule.Rule.{Rule}
use Rattle.office_journal.specs.declared.rule.Rule.TheVariants as rule
use Rattle.office_journal.specs.declared.event.Event.{Event}
use Rattle.office_journal.specs.declared.event.Event.TheVariants as event
use Rattle.office_journal.specs.declared.event.Entry.{Entry}
use Rattle.office_journal.specs.declared.reply.Reply.{Reply}
use Rattle.office_journal.specs.declared.reply.Reply.TheVariants as reply
use Rattle.office_journal.specs.declared.reply.Refusal.TheVariants as refusal
use Rattle.site_core.specs.Limits.{most_entries, longest_piece}
use Rattle.site_core.specs.Replies.{reply_to}
use Rattle.site_core.specs.Pairs.{frame_fault, arrival_of}
use Rattle.site_core.specs.Agenda.{Agenda, Current, Idle, Gathering, Working, is_full, is_waiting, is_gathering, is_working, ending_of}
use Rattle.site_core.specs.Offices.{Office, Answer, may, is_ours, framed, frame_on, may_withdraw, unless_faulty, answer}
use Rattle.site_core.specs.Tickets.{Rise, current_tickets, GoInOrder}
use Rattle.site_core.specs.Journals.{Site, office_of, noted, after, AreAccepted, IsLegal}
use Rattle.site_core.specs.JournalLaws.{office_noted, office_empty}
use Rattle.site_core.proofs.OfficeLimits.{within}
use Rattle.site_core.proofs.SessionsInOrder.{in_order}
use Rattle.journal_texts.specs.wording.Rules.{IsRuleOf}

-- what an accepted event is, and its reply
abbrev pub IsEventOf : PlanValue → Event → Reply → Type 0
IsEventOf p (event.Submit x) r = IsTrue (fits p x) × (t : ℕ) × (1 ≤ t) × (r ≡ reply.Ticket t)
IsEventOf p (event.Do done) r = IsRuleOf p done × (r ≡ reply.Done)
IsEventOf p (event.Send v i) r = (v < length p.offices) × (i < 2 ^ 63) × (f : Fields) × (r ≡ reply.Frame f)
IsEventOf p (event.Took f) r = (a : Arrival) × (r ≡ reply_to a)
IsEventOf p (event.Withdraw t) r = (1 ≤ t) × (r ≡ reply.Done)

pub record IsEntryOf (p : PlanValue) (x : Entry) : Type 0 where
  pub tag : x.tag < 16
  pub event : IsEventOf p x.event x.reply

-- ---- rules

working_number : (c : Current) (n : ℕ) → (is_working c && (not (is_some (ending_of c)) && (nat_le 1 n && nat_le n longest_piece))) ≡ true → (1 ≤ n) × (n ≤ longest_piece)
working_number c n h =
    let ended = and_parts (is_working c) _ h in
    let sized = and_parts (not (is_some (ending_of c))) _ ended.1 in
    let parts = and_parts (nat_le 1 n) (nat_le n longest_piece) sized.1 in
    let low = parts.0 in
    let high = parts.1 in (
      grind (arith, nat_tests),
      grind (arith, nat_tests),
    )

rule_there : (p : PlanValue) (me : ℕ) (o : Office) (r : Rule) → IsConsistent p → may p me o r ≡ true → IsRuleOf p r
rule_there p me o rule.Start ok h = tt
rule_there p me o rule.Hungry ok h = tt
rule_there p me o (rule.AskFork v) ok h = near_within p me v ok (and_parts (are_neighbours p me v) _ h).0
rule_there p me o (rule.GiveFork v) ok h = near_within p me v ok (and_parts (are_neighbours p me v) _ h).0
rule_there p me o rule.Eat ok h = tt
rule_there p me o rule.Leave ok h = tt
rule_there p me o (rule.AskBottle r) ok h = end_within p r me (and_parts (is_end p r me) _ h).0
rule_there p me o (rule.GiveBottle r) ok h = end_within p r me (and_parts (is_end p r me) _ h).0
rule_there p me o rule.Drink ok h = tt
rule_there p me o (rule.Work n) ok h = working_number o.agenda.current n h
rule_there p me o rule.Finish ok h = tt

-- ---- tickets

abbrev is_ticket : ℕ → ℕ → Bool
is_ticket t u = u == t

rise_among : (k : ℕ) (ts : List ℕ) (n t : ℕ) → Rise k ts n → list_any (is_ticket t) ts ≡ true → k < t
rise_among k [] n t h any = cc any
rise_among k (u ∷ ts) n t h any = ⊎_elim
    (λ e. let lt = h.0 in omega (arith, lt, e))
    (λ ne.
    let more : list_any (is_ticket t) ts ≡ true = ap (λ b. b || list_any (is_ticket t) ts) (sym (ne_eqb u t ne)) ∙ any in
    let later = rise_among u ts n t h.1 more in
    let lt = h.0 in
    omega (arith, lt, later))
    (cases_eq u t)

any_of_map : (queue : List Session) (t : ℕ) → is_waiting queue t ≡ true → list_any (is_ticket t) (map (λ (s : Session). s.ticket) queue) ≡ true
any_of_map [] t h = h
any_of_map (s ∷ queue) t h = ⊎_elim
    (λ e. or_left (s.ticket == t) _ (eq-eqb s.ticket t e))
    (λ ne.
    let more : is_waiting queue t ≡ true = ap (λ b. b || is_waiting queue t) (sym (ne_eqb s.ticket t ne)) ∙ h in
    or_right (s.ticket == t) _ (any_of_map queue t more))
    (cases_eq s.ticket t)

any_current : (c : Current) (t : ℕ) → is_gathering c t ≡ true → list_any (is_ticket t) (current_tickets c) ≡ true
any_current Idle t h = cc h
any_current (Gathering s) t h = or_left (s.ticket == t) false h
any_current (Working s reads done) t h = cc h

any_left : (xs ys : List ℕ) (t : ℕ) → list_any (is_ticket t) xs ≡ true → list_any (is_ticket t) (xs ++ ys) ≡ true
any_left xs ys t h = list_any-append (is_ticket t) xs ys ∙ or_left (list_any (is_ticket t) xs) _ h

any_right : (xs ys : List ℕ) (t : ℕ) → list_any (is_ticket t) ys ≡ true → list_any (is_ticket t) (xs ++ ys) ≡ true
any_right xs ys t h = list_any-append (is_ticket t) xs ys ∙ or_right (list_any (is_ticket t) xs) _ h

abbrev finished_tickets : Agenda → List ℕ
finished_tickets a = map (λ (o : Outcome). o.ticket) a.outcomes

abbrev unfinished_tickets : Agenda → List ℕ
unfinished_tickets a = current_tickets a.current ++ map (λ (s : Session). s.ticket) a.queue

risen : (a : Agenda) (t : ℕ) → GoInOrder a → list_any (is_ticket t) (unfinished_tickets a) ≡ true → 1 ≤ t
risen a t h any = let lt = rise_among 0 (finished_tickets a ++ unfinished_tickets a) a.tickets t h (any_right (finished_tickets a) (unfinished_tickets a) t any) in omega (arith, lt)

-- a session that may be withdrawn has a ticket
given : (o : Office) (t : ℕ) → GoInOrder o.agenda → may_withdraw o t ≡ true → 1 ≤ t
given o t h can = go (is_waiting o.agenda.queue t) refl can
  where
    go : (b : Bool) → is_waiting o.agenda.queue t ≡ b → (b || (is_gathering o.agenda.current t && bottles.may o.pairs.drinker bottles.Withdraw)) ≡ true → 1 ≤ t
    go true e m = risen o.agenda t h (any_right (current_tickets o.agenda.current) _ t (any_of_map o.agenda.queue t e))
    go false e m = risen o.agenda t h (any_left (current_tickets o.agenda.current) _ t (any_current o.agenda.current t (and_parts (is_gathering o.agenda.current t) _ m).0))

-- ---- events

abbrev reply_in : Answer → Reply
reply_in (Ok x) = x.0
reply_in (Err e) = reply.Done

done_with : (b : Bool) (o : Office) (r : Reply) (after : Office) → cond {A = Answer} b (Ok (reply.Done, o)) (Err refusal.NotNow) ≡ Ok (r, after) → (b ≡ true) × (r ≡ reply.Done)
done_with true o r after h = (refl, sym (ap reply_in h))
done_with false o r after h = cc h

submitted_with : (p : PlanValue) (me : ℕ) (o next : Office) (x : ProgramValue) (r : Reply) (after : Office) (a b : Bool) → is_ours p me x ≡ a
    → cond {A = Answer} a (cond {A = Answer} b (Err refusal.QueueFull) (Ok (reply.Ticket (o.agenda.tickets + 1), next))) (Err refusal.NotOurs) ≡ Ok (r, after) → IsTrue (fits p x) × (t : ℕ) × (1 ≤ t) × (r ≡ reply.Ticket t)
submitted_with p me o next x r after true true e h = cc h
submitted_with p me o next x r after true false e h = ((and_parts (x.office == me) (fits p x) e).1, o.agenda.tickets + 1, omega arith, sym (ap reply_in h))
submitted_with p me o next x r after false b e h = cc h

framed_with : (l : LinkState) (i : ℕ) (o : Office) (r : Reply) (after : Office) → framed o (frame_on l i) ≡ Ok (r, after) → (i ≤ length l.sending.waiting) × (f : Fields) × (r ≡ reply.Frame f)
framed_with l zero o r after h = (omega arith, ack_frame_of l, sym (ap reply_in h))
framed_with l (suc i) o r after h = go (nat_le (suc i) (length l.sending.waiting)) refl h
  where
    go : (b : Bool) → nat_le (suc i) (length l.sending.waiting) ≡ b → framed o (cond b (Some (frame_of l (suc i))) None) ≡ Ok (r, after) → (suc i ≤ length l.sending.waiting) × (f : Fields) × (r ≡ reply.Frame f)
    go true e k = (grind (arith, nat_tests), frame_of l (suc i), sym (ap reply_in k))
    go false e k = cc k

taken_with : (p : PlanValue) (me : ℕ) (o : Office) (f : Fields) (x : Option ChannelFault) (r : Reply) (after : Office) → unless_faulty p me o f x ≡ Ok (r, after) → (a : Arrival) × (r ≡ reply_to a)
taken_with p me o f None r after h = (arrival_of o.pairs f, sym (ap reply_in h))
taken_with p me o f (Some x) r after h = cc h

accepted : (s : Site) (e : Event) (r : Reply) (next : Office) → IsConsistent s.plan → length s.entries ≤ most_entries → answer s.plan s.me (office_of s) e ≡ Ok (r, next) → IsEventOf s.plan e r
accepted s (event.Submit x) r next ok few h = submitted_with s.plan s.me (office_of s) _ x r next (is_ours s.plan s.me x) (is_full (office_of s).agenda) refl h
accepted s (event.Do done) r next ok few h =
    let d = done_with (may s.plan s.me (office_of s) done) _ r next h in (rule_there s.plan s.me (office_of s) done ok d.0, d.1)
accepted s (event.Send v i) r next ok few h = go (are_neighbours s.plan s.me v) refl h
  where
    go : (b : Bool) → are_neighbours s.plan s.me v ≡ b → cond b (framed (office_of s) (frame_on ((office_of s).pairs.link v) i)) (Err refusal.NotNow) ≡ Ok (r, next) → (v < length s.plan.offices) × (i < 2 ^ 63) × (f : Fields) × (r ≡ reply.Frame f)
    go true e k =
        let f = framed_with ((office_of s).pairs.link v) i (office_of s) r next k in
        let numbers = (within s).numbers v in
        let waits = f.0 in (near_within s.plan s.me v ok e, omega (arith, waits, numbers, few), f.1, f.2)
    go false e k = cc k
accepted s (event.Took f) r next ok few h = taken_with s.plan s.me (office_of s) f (frame_fault s.plan s.me (office_of s).pairs f) r next h
accepted s (event.Withdraw t) r next ok few h =
    let d = done_with (may_withdraw (office_of s) t) _ r next h in (given (office_of s) t (in_order s) d.0, d.1)

each : (s : Site) (xs : List Entry) → IsConsistent s.plan → AreAccepted s.plan s.me (office_of s) xs → length s.entries + length xs ≤ most_entries → All (IsEntryOf s.plan) xs
each s [] ok h few = All-nil (IsEntryOf s.plan)
each s (x ∷ xs) ok h few =
    let first : IsEntryOf s.plan x = record { tag = h.1; event = accepted s x.event x.reply (after s.plan s.me (office_of s) x.event) ok (omega (arith, few)) h.0 } in
    let next : AreAccepted s.plan s.me (office_of (noted s x.tag x.event x.reply)) xs = subst (λ o. AreAccepted s.plan s.me o xs) (sym (office_noted s x.tag x.event x.reply)) h.2 in
    let long = length-append s.entries (x ∷ []) in
    All-cons (IsEntryOf s.plan) x xs first (each (noted s x.tag x.event x.reply) xs ok next (omega (arith, long, few)))

pub legal_entries : (p : PlanValue) (me : ℕ) (xs : List Entry) → IsConsistent p → IsLegal (record { plan = p; me = me; entries = xs }) → All (IsEntryOf p) xs
legal_entries p me xs ok h =
    each (record { plan = p; me = me; entries = [] }) xs ok (subst (λ o. AreAccepted p me o xs) (sym (office_empty p me)) h.accepted) (let few = h.few in omega (arith, few))
