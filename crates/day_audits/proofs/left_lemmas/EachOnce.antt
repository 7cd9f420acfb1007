-- What an office has left are the submitted sessions that have no outcome and weren't withdrawn.
use Rattle.std.proofs.Common.{◌≡◌, ℕ, ◌+◌, ◌<◌, ◌≤◌, Bool, true, false, cond, List, [], ◌∷◌, ◌++◌, map, Option, None, Some, Ok, Err, refl, sym, ap, ap₂, subst, ◌∙◌, arith, append_assoc, append-nil}
use Rattle.std.specs.Prelude.{◌==◌, ◌&&◌, ◌||◌, not, filter, is_none, is_some, option_map, All}
use Rattle.std.specs.List.{list_any}
use Rattle.std.proofs.lemmas.Bool.{ne_eqb, eqb-true, eq-eqb, and_parts, both_ways}
use Rattle.std.proofs.lemmas.List.Elements.{All-head, All-nil, All-push, All-tail, All-weaker, filter-append}
use Rattle.office_map.specs.PlanValue.{PlanValue, are_neighbours}
use Rattle.session_meaning.specs.ProgramValue.{ProgramValue}
use Rattle.session_meaning.specs.declared.ending.Ending.{Ending}
use Rattle.session_meaning.specs.declared.ending.Outcome.{Outcome}
use Rattle.session_machine.specs.Pieces.{ending_after}
use Rattle.frame_codec.specs.Frame.{Fields}
use Rattle.token_channel.specs.declared.fault.ChannelFault.{ChannelFault}
use Rattle.drinking_core.specs.Drinkers as bottles
use Rattle.site_core.specs.declared.agendas.session.Session.{Session}
use Rattle.site_core.specs.agendas.Agenda.{Agenda, Current, Idle, Gathering, Working, submitted, is_waiting, is_gathering, is_full, started, writes_of, outcome_of, outcome_as}
use Rattle.office_journal.specs.declared.rule.Rule.{Rule}
use Rattle.office_journal.specs.declared.rule.Rule.TheVariants as rule
use Rattle.office_journal.specs.declared.event.Event.{Event}
use Rattle.office_journal.specs.declared.event.Event.TheVariants as event
use Rattle.office_journal.specs.declared.event.Entry.{Entry}
use Rattle.office_journal.specs.declared.reply.Reply.{Reply}
use Rattle.office_journal.specs.declared.reply.Reply.TheVariants as reply
use Rattle.office_journal.specs.declared.reply.Refusal.TheVariants as refusal
use Rattle.site_core.specs.neighbours.Pairs.{frame_fault}
use Rattle.site_core.specs.Offices.{Office, Answer, answer, may, act, may_withdraw, withdrawn, done_if, is_ours, framed, frame_on, unless_faulty, opened}
use Rattle.site_core.specs.Journals.{Site, next_or, after, run_of, office_of, noted, AreAccepted}
use Rattle.site_core.specs.JournalLaws.{office_noted, office_empty, submitted_more}
use Rattle.site_core.specs.Submitted.{submitted_by, submitted_in}
use Rattle.site_core.specs.Readers.{outcome_with}
use Rattle.site_core.specs.Tickets.{current_tickets, Rise, GoInOrder, SessionsGoInOrder}
use Rattle.site_core.specs.WithdrawalLaws.{either_withdrawn}
use Rattle.day_audits.specs.left.Left.{current_session, left_at, withdrawn_by, withdrawn_in, NothingIsLostOrTwice}
use Rattle.day_audits.specs.left.refinement.Walks.{after_event, without}
use Rattle.day_audits.proofs.left_lemmas.IdleOffices.{Rests, rests_after}
use Rattle.day_audits.proofs.left_lemmas.Walked.{all_stay, at_end, by_event, left_rise, not_waiting, said, tickets_of}

-- no outcome has the session's ticket, and none of these is it
abbrev keeps : List Outcome → List ℕ → Session → Bool
keeps outs ws x = is_none (outcome_with outs x.ticket) && not (list_any (λ t. x.ticket == t) ws)

-- ---- lists

filters_alike : (p q : Session → Bool) (xs : List Session) → ((x : Session) → p x ≡ q x) → filter p xs ≡ filter q xs
filters_alike p q [] h = refl
filters_alike p q (x ∷ xs) h = ap₂ (λ b l. cond b (x ∷ l) l) (h x) (filters_alike p q xs h)

filter_both : (p q : Session → Bool) (xs : List Session) → filter (λ x. p x && q x) xs ≡ filter q (filter p xs)
filter_both p q [] = refl
filter_both p q (x ∷ xs) = go (p x) (filter_both p q xs)
  where
    both : List Session
    both = filter (λ (y : Session). p y && q y) xs

    go : (b : Bool) → both ≡ filter q (filter p xs) → cond (b && q x) (x ∷ both) both ≡ filter q (cond b (x ∷ filter p xs) (filter p xs))
    go true h = ap (λ l. cond (q x) (x ∷ l) l) h
    go false h = h

any_more : (f : ℕ → Bool) (ws : List ℕ) (t : ℕ) → list_any f (ws ++ t ∷ []) ≡ (list_any f ws || f t)
any_more f [] t = go (f t)
  where
    go : (b : Bool) → (b || false) ≡ b
    go true = refl
    go false = refl
any_more f (w ∷ ws) t = go (f w) (any_more f ws t)
  where
    go : (b : Bool) → list_any f (ws ++ t ∷ []) ≡ (list_any f ws || f t) → (b || list_any f (ws ++ t ∷ [])) ≡ ((b || list_any f ws) || f t)
    go true rest = refl
    go false rest = rest

one_outcome_more : (t : ℕ) (outs : List Outcome) (o : Outcome) → is_none (outcome_with (outs ++ o ∷ []) t) ≡ (is_none (outcome_with outs t) && not (o.ticket == t))
one_outcome_more t [] o = go (o.ticket == t)
  where
    go : (b : Bool) → is_none (cond b (Some o) None) ≡ not b
    go true = refl
    go false = refl
one_outcome_more t (x ∷ outs) o = go (x.ticket == t) (one_outcome_more t outs o)
  where
    go : (b : Bool) → is_none (outcome_with (outs ++ o ∷ []) t) ≡ (is_none (outcome_with outs t) && not (o.ticket == t))
        → is_none (cond b (Some x) (outcome_with (outs ++ o ∷ []) t)) ≡ (is_none (cond b (Some x) (outcome_with outs t)) && not (o.ticket == t))
    go true rest = refl
    go false rest = rest

either_order : (a b : ℕ) → (a == b) ≡ (b == a)
either_order a b = go (a == b) refl
  where
    go : (t : Bool) → (a == b) ≡ t → t ≡ (b == a)
    go true e = sym (eq-eqb b a (sym (eqb-true a b e)))
    go false e = sym (ne_eqb b a (λ (same : b ≡ a). absurd (both_ways (a == b) e (eq-eqb a b (sym same)))))

-- ---- tests

not_either : (n a b : Bool) → (n && not (a || b)) ≡ ((n && not a) && not b)
not_either true true b = refl
not_either true false b = refl
not_either false a b = refl

last_two : (m b w : Bool) → ((m && not b) && w) ≡ ((m && w) && not b)
last_two true true true = refl
last_two true true false = refl
last_two true false true = refl
last_two true false false = refl
last_two false b w = refl

one_withdrawn : (outs : List Outcome) (ws : List ℕ) (t : ℕ) (x : Session) → keeps outs (ws ++ t ∷ []) x ≡ (keeps outs ws x && not (x.ticket == t))
one_withdrawn outs ws t x =
    ap (λ b. is_none (outcome_with outs x.ticket) && not b) (any_more (λ u. x.ticket == u) ws t) ∙ not_either (is_none (outcome_with outs x.ticket)) (list_any (λ u. x.ticket == u) ws) (x.ticket == t)

one_finished : (outs : List Outcome) (o : Outcome) (ws : List ℕ) (x : Session) → keeps (outs ++ o ∷ []) ws x ≡ (keeps outs ws x && not (x.ticket == o.ticket))
one_finished outs o ws x =
    ap (λ b. b && not (list_any (λ u. x.ticket == u) ws)) (one_outcome_more x.ticket outs o)
    ∙ last_two (is_none (outcome_with outs x.ticket)) (o.ticket == x.ticket) (not (list_any (λ u. x.ticket == u) ws))
    ∙ ap (λ b. keeps outs ws x && not b) (either_order o.ticket x.ticket)

-- ---- tickets that are known

rise_top : (k n : ℕ) (ts : List ℕ) → Rise k ts n → k ≤ n
rise_top k n [] h = h
rise_top k n (t ∷ ts) h = let more : k < t = h.0 in let top : t ≤ n = rise_top t n ts h.1 in omega (arith, more, top)

none_beyond : (k n t : ℕ) (outs : List Outcome) (rest : List ℕ) → Rise k (map (λ (o : Outcome). o.ticket) outs ++ rest) n → n < t → outcome_with outs t ≡ None
none_beyond k n t [] rest h lt = refl
none_beyond k n t (o ∷ outs) rest h lt =
    let top : o.ticket ≤ n = rise_top o.ticket n (map (λ (x : Outcome). x.ticket) outs ++ rest) h.1 in
    ap (λ b. cond b (Some o) (outcome_with outs t)) (ne_eqb o.ticket t (λ (e : o.ticket ≡ t). absurd (omega (arith, top, lt, e)))) ∙ none_beyond o.ticket n t outs rest h.1 lt

any_none : (n t : ℕ) (ws : List ℕ) → All (λ u. u ≤ n) ws → n < t → list_any (λ u. t == u) ws ≡ false
any_none n t [] h lt = refl
any_none n t (w ∷ ws) h lt =
    let le : w ≤ n = All-head (λ u. u ≤ n) w ws h in
    ap (λ b. b || list_any (λ u. t == u) ws) (ne_eqb t w (λ (e : t ≡ w). absurd (omega (arith, le, lt, e)))) ∙ any_none n t ws (All-tail (λ u. u ≤ n) w ws h) lt

waits_known : (k n t : ℕ) (queue : List Session) → Rise k (tickets_of queue) n → is_waiting queue t ≡ true → t ≤ n
waits_known k n t [] h w = absurd cc
waits_known k n t (s ∷ queue) h w = go (s.ticket == t) refl w (waits_known s.ticket n t queue h.1)
  where
    go : (b : Bool) → (s.ticket == t) ≡ b → (b || is_waiting queue t) ≡ true → (is_waiting queue t ≡ true → t ≤ n) → t ≤ n
    go true e w rest = let top : s.ticket ≤ n = rise_top s.ticket n (tickets_of queue) h.1 in let same : s.ticket ≡ t = eqb-true s.ticket t e in omega (arith, top, same)
    go false e w rest = rest w

current_known : (n t : ℕ) (m : Bool) (c : Current) (queue : List Session) → Rise 0 (current_tickets c ++ tickets_of queue) n → (is_waiting queue t || (is_gathering c t && m)) ≡ true → t ≤ n
current_known n t m Idle queue h e = waits_known 0 n t queue h (go (is_waiting queue t) e)
  where
    go : (b : Bool) → (b || false) ≡ true → b ≡ true
    go true e = refl
    go false e = absurd cc
current_known n t m (Working s reads done) queue h e = waits_known s.ticket n t queue h.1 (go (is_waiting queue t) e)
  where
    go : (b : Bool) → (b || false) ≡ true → b ≡ true
    go true e = refl
    go false e = absurd cc
current_known n t m (Gathering s) queue h e = go (is_waiting queue t) refl e
  where
    go : (b : Bool) → is_waiting queue t ≡ b → (b || ((s.ticket == t) && m)) ≡ true → t ≤ n
    go true w e = waits_known s.ticket n t queue h.1 w
    go false w e =
        let same : s.ticket ≡ t = eqb-true s.ticket t (and_parts (s.ticket == t) m e).0 in
        let top : s.ticket ≤ n = rise_top s.ticket n (tickets_of queue) h.1 in
        omega (arith, top, same)

-- ---- what is told of an office, by the tickets that were withdrawn and the sessions that were submitted

record Told (o : Office) (ws : List ℕ) (subs : List Session) : Type 0 where
  kept : left_at o ≡ filter (keeps o.agenda.outcomes ws) subs
  known : All (λ t. t ≤ o.agenda.tickets) ws

-- nothing changes
same_told : (o p : Office) (ws : List ℕ) (subs : List Session) → left_at p ≡ left_at o → p.agenda.outcomes ≡ o.agenda.outcomes → p.agenda.tickets ≡ o.agenda.tickets → Told o ws subs → Told p (ws ++ []) (subs ++ [])
same_told o p ws subs same outs tickets h = record {
  kept =
      same ∙ h.kept ∙ ap (λ os. filter (keeps os ws) subs) (sym outs) ∙ ap (λ l. filter (keeps p.agenda.outcomes l) subs) (sym (append-nil ws))
      ∙ ap (filter (keeps p.agenda.outcomes (ws ++ []))) (sym (append-nil subs));
  known = subst (All (λ t. t ≤ p.agenda.tickets)) (sym (append-nil ws)) (subst (λ n. All (λ t. t ≤ n) ws) (sym tickets) h.known);
}

-- a session more
submit_told : (o : Office) (p : ProgramValue) (ws : List ℕ) (subs : List Session) → GoInOrder o.agenda → Told o ws subs →
    Told (record { pairs = o.pairs; agenda = submitted o.agenda p }) (ws ++ []) (subs ++ record { ticket = o.agenda.tickets + 1; program = p } ∷ [])
submit_told o p ws subs order h = record {
  kept =
      sym (append_assoc (current_session o.agenda.current) o.agenda.queue (one ∷ []))
      ∙ ap₂ (λ (k l : List Session). k ++ l) h.kept (sym (ap (λ b. cond b (one ∷ []) []) passes))
      ∙ sym (filter-append (keeps outs ws) subs (one ∷ []))
      ∙ ap (λ l. filter (keeps outs l) (subs ++ one ∷ [])) (sym (append-nil ws));
  known = subst (All (λ t. t ≤ n + 1)) (sym (append-nil ws)) (All-weaker (λ t. t ≤ n) (λ t. t ≤ n + 1) (λ t le. omega (arith, le)) ws h.known);
}
  where
    n : ℕ
    n = o.agenda.tickets

    outs : List Outcome
    outs = o.agenda.outcomes

    one : Session
    one = record { ticket = n + 1; program = p }

    passes : keeps outs ws one ≡ true
    passes =
        ap (λ x. is_none x && not (list_any (λ t. (n + 1) == t) ws)) (none_beyond 0 n (n + 1) outs (current_tickets o.agenda.current ++ tickets_of o.agenda.queue) order (omega arith))
        ∙ ap not (any_none n (n + 1) ws h.known (omega arith))

-- a session less
withdrawal_told : (o : Office) (t : ℕ) (ws : List ℕ) (subs : List Session) → left_at (withdrawn o t) ≡ without (left_at o) t → t ≤ o.agenda.tickets → Told o ws subs → Told (withdrawn o t) (ws ++ t ∷ []) (subs ++ [])
withdrawal_told o t ws subs less le h = record {
  kept =
      less
      ∙ ap (λ l. without l t) h.kept
      ∙ sym (filter_both (keeps outs ws) (λ (x : Session). not (x.ticket == t)) subs)
      ∙ filters_alike (λ (x : Session). keeps outs ws x && not (x.ticket == t)) (keeps outs (ws ++ t ∷ [])) subs (λ x. sym (one_withdrawn outs ws t x))
      ∙ ap (λ os. filter (keeps os (ws ++ t ∷ [])) subs) (sym same_outcomes)
      ∙ ap (filter (keeps (withdrawn o t).agenda.outcomes (ws ++ t ∷ []))) (sym (append-nil subs));
  known = subst (λ n. All (λ u. u ≤ n) (ws ++ t ∷ [])) (sym same_tickets) (All-push (λ u. u ≤ o.agenda.tickets) ws t h.known le);
}
  where
    outs : List Outcome
    outs = o.agenda.outcomes

    same_outcomes : (withdrawn o t).agenda.outcomes ≡ outs
    same_outcomes = either_withdrawn (λ (p : Office). p.agenda.outcomes ≡ outs) o t (λ e. refl) (λ e. refl)

    same_tickets : (withdrawn o t).agenda.tickets ≡ o.agenda.tickets
    same_tickets = either_withdrawn (λ (p : Office). p.agenda.tickets ≡ o.agenda.tickets) o t (λ e. refl) (λ e. refl)

-- the current one finishes
finish_told : (plan : PlanValue) (me : ℕ) (o : Office) (c : Current) (ws : List ℕ) (subs : List Session) → o.agenda.current ≡ c → is_some (writes_of c) ≡ true → GoInOrder o.agenda → Told o ws subs →
    o.agenda.queue ≡ filter (keeps (o.agenda.outcomes ++ outcome_of me c) ws) subs
finish_told plan me o Idle ws subs is m order h = absurd cc
finish_told plan me o (Gathering s) ws subs is m order h = absurd cc
finish_told plan me o (Working s reads done) ws subs is m order h = go (ending_after s.program reads done) m
  where
    outs : List Outcome
    outs = o.agenda.outcomes

    rises : Rise 0 (s.ticket ∷ tickets_of o.agenda.queue) o.agenda.tickets
    rises = subst (λ (c : Current). Rise 0 (current_tickets c ++ tickets_of o.agenda.queue) o.agenda.tickets) is (left_rise o order)

    -- without the first, the others are left
    others : without (s ∷ o.agenda.queue) s.ticket ≡ o.agenda.queue
    others =
        ap (λ b. cond (not b) (s ∷ without o.agenda.queue s.ticket) (without o.agenda.queue s.ticket)) (eq-eqb s.ticket s.ticket refl)
        ∙ all_stay s.ticket o.agenda.queue (not_waiting s.ticket o.agenda.tickets s.ticket o.agenda.queue (omega arith) rises.1)

    first : left_at o ≡ s ∷ o.agenda.queue
    first = ap (λ (c : Current). current_session c ++ o.agenda.queue) is

    go : (e : Option Ending) → is_some (option_map (λ (x : Ending). x.writes) e) ≡ true → o.agenda.queue ≡ filter (keeps (outs ++ outcome_as me s.ticket e) ws) subs
    go None k = absurd cc
    go (Some e) k =
        let x : Outcome = record { office = me; ticket = s.ticket; ending = e } in
        sym others
        ∙ ap (λ l. without l s.ticket) (sym first ∙ h.kept)
        ∙ sym (filter_both (keeps outs ws) (λ (y : Session). not (y.ticket == s.ticket)) subs)
        ∙ filters_alike (λ (y : Session). keeps outs ws y && not (y.ticket == s.ticket)) (keeps (outs ++ x ∷ []) ws) subs (λ y. sym (one_finished outs x ws y))

-- ---- events

start_outcomes : (a : Agenda) (queue : List Session) → (started a queue).outcomes ≡ a.outcomes
start_outcomes a [] = refl
start_outcomes a (s ∷ rest) = refl

start_tickets : (a : Agenda) (queue : List Session) → (started a queue).tickets ≡ a.tickets
start_tickets a [] = refl
start_tickets a (s ∷ rest) = refl

rule_told : (plan : PlanValue) (me : ℕ) (o : Office) (r : Rule) (ws : List ℕ) (subs : List Session) → may plan me o r ≡ true → GoInOrder o.agenda → left_at (act me o r) ≡ after_event (left_at o) (event.Do r) reply.Done → Told o ws subs → Told (act me o r) (ws ++ []) (subs ++ [])
rule_told plan me o rule.Start ws subs m order is h = same_told o (act me o rule.Start) ws subs is (start_outcomes o.agenda o.agenda.queue) (start_tickets o.agenda o.agenda.queue) h
rule_told plan me o rule.Hungry ws subs m order is h = same_told o (act me o rule.Hungry) ws subs is refl refl h
rule_told plan me o (rule.AskFork v) ws subs m order is h = same_told o (act me o (rule.AskFork v)) ws subs is refl refl h
rule_told plan me o (rule.GiveFork v) ws subs m order is h = same_told o (act me o (rule.GiveFork v)) ws subs is refl refl h
rule_told plan me o rule.Eat ws subs m order is h = same_told o (act me o rule.Eat) ws subs is refl refl h
rule_told plan me o rule.Leave ws subs m order is h = same_told o (act me o rule.Leave) ws subs is refl refl h
rule_told plan me o (rule.AskBottle r) ws subs m order is h = same_told o (act me o (rule.AskBottle r)) ws subs is refl refl h
rule_told plan me o (rule.GiveBottle r) ws subs m order is h = same_told o (act me o (rule.GiveBottle r)) ws subs is refl refl h
rule_told plan me o rule.Drink ws subs m order is h = same_told o (act me o rule.Drink) ws subs is refl refl h
rule_told plan me o (rule.Work n) ws subs m order is h = same_told o (act me o (rule.Work n)) ws subs is refl refl h
rule_told plan me o rule.Finish ws subs m order is h = record {
  kept =
      finish_told plan me o o.agenda.current ws subs refl (and_parts (bottles.is_drinking o.pairs.drinker.phase) (is_some (writes_of o.agenda.current)) m).1 order h
      ∙ ap (λ l. filter (keeps (o.agenda.outcomes ++ outcome_of me o.agenda.current) l) subs) (sym (append-nil ws))
      ∙ ap (filter (keeps (o.agenda.outcomes ++ outcome_of me o.agenda.current) (ws ++ []))) (sym (append-nil subs));
  known = subst (All (λ t. t ≤ o.agenda.tickets)) (sym (append-nil ws)) h.known;
}

event_told : (plan : PlanValue) (me : ℕ) (o : Office) (e : Event) (r : Reply) (y : Office) (ws : List ℕ) (subs : List Session) → Rests o → GoInOrder o.agenda → answer plan me o e ≡ Ok (r, y) → Told o ws subs →
    Told (after plan me o e) (ws ++ withdrawn_by e) (subs ++ submitted_by e r)
event_told plan me o (event.Submit p) r y ws subs w order k h = go (is_ours plan me p) (is_full o.agenda) k
  where
    more : Office
    more = record { pairs = o.pairs; agenda = submitted o.agenda p }

    go : (a b : Bool) → cond {A = Answer} a (cond b (Err refusal.QueueFull) (Ok (reply.Ticket (o.agenda.tickets + 1), more))) (Err refusal.NotOurs) ≡ Ok (r, y)
        → Told (next_or o (cond a (cond b (Err refusal.QueueFull) (Ok (reply.Ticket (o.agenda.tickets + 1), more))) (Err refusal.NotOurs))) (ws ++ []) (subs ++ submitted_by (event.Submit p) r)
    go true true k = absurd cc
    go false b k = absurd cc
    go true false k =
        let same : Some (reply.Ticket (o.agenda.tickets + 1)) ≡ Some r = ap said k in
        let is : reply.Ticket (o.agenda.tickets + 1) ≡ r = cc in
        subst (λ x. Told more (ws ++ []) (subs ++ submitted_by (event.Submit p) x)) is (submit_told o p ws subs order h)
event_told plan me o (event.Do rule) r y ws subs w order k h = go (may plan me o rule) refl k
  where
    go : (b : Bool) → may plan me o rule ≡ b → done_if b (act me o rule) ≡ Ok (r, y) → Told (next_or o (done_if b (act me o rule))) (ws ++ []) (subs ++ [])
    go true m k =
        let done : answer plan me o (event.Do rule) ≡ Ok (reply.Done, act me o rule) = ap (λ b. done_if b (act me o rule)) m in
        let left : left_at (act me o rule) ≡ after_event (left_at o) (event.Do rule) reply.Done = sym (ap (λ x. left_at (next_or o x)) done) ∙ by_event plan me o (event.Do rule) reply.Done (act me o rule) w order done in
        rule_told plan me o rule ws subs m order left h
    go false m k = absurd cc
event_told plan me o (event.Send v i) r y ws subs w order k h = go (are_neighbours plan me v)
  where
    made : (f : Option Fields) → Told (next_or o (framed o f)) (ws ++ []) (subs ++ [])
    made None = same_told o o ws subs refl refl refl h
    made (Some f) = same_told o o ws subs refl refl refl h

    go : (b : Bool) → Told (next_or o (cond b (framed o (frame_on (o.pairs.link v) i)) (Err refusal.NotNow))) (ws ++ []) (subs ++ [])
    go true = made (frame_on (o.pairs.link v) i)
    go false = same_told o o ws subs refl refl refl h
event_told plan me o (event.Took f) r y ws subs w order k h = go (frame_fault plan me o.pairs f)
  where
    go : (x : Option ChannelFault) → Told (next_or o (unless_faulty plan me o f x)) (ws ++ []) (subs ++ [])
    go None = same_told o (next_or o (unless_faulty plan me o f None)) ws subs refl refl refl h
    go (Some x) = same_told o o ws subs refl refl refl h
event_told plan me o (event.Withdraw t) r y ws subs w order k h = go (may_withdraw o t) refl k
  where
    go : (b : Bool) → may_withdraw o t ≡ b → done_if b (withdrawn o t) ≡ Ok (r, y) → Told (next_or o (done_if b (withdrawn o t))) (ws ++ t ∷ []) (subs ++ [])
    go true m k =
        let done : answer plan me o (event.Withdraw t) ≡ Ok (reply.Done, withdrawn o t) = ap (λ b. done_if b (withdrawn o t)) m in
        let less : left_at (withdrawn o t) ≡ without (left_at o) t = sym (ap (λ x. left_at (next_or o x)) done) ∙ by_event plan me o (event.Withdraw t) reply.Done (withdrawn o t) w order done in
        let le : t ≤ o.agenda.tickets = current_known o.agenda.tickets t (bottles.may o.pairs.drinker bottles.Withdraw) o.agenda.current o.agenda.queue (left_rise o order) m in
        withdrawal_told o t ws subs less le h
    go false m k = absurd cc

-- ---- journals

withdrawn_more : (es : List Entry) (x : Entry) → withdrawn_in (es ++ x ∷ []) ≡ withdrawn_in es ++ withdrawn_by x.event
withdrawn_more [] x = append-nil (withdrawn_by x.event)
withdrawn_more (e ∷ es) x = ap (λ l. withdrawn_by e.event ++ l) (withdrawn_more es x) ∙ sym (append_assoc (withdrawn_by e.event) (withdrawn_in es) (withdrawn_by x.event))

abbrev TellsAll : Office → List Entry → Type 0
TellsAll o es = Told o (withdrawn_in es) (submitted_in es)

entries_told : SessionsGoInOrder → (s : Site) (xs : List Entry) → Rests (office_of s) → TellsAll (office_of s) s.entries → AreAccepted s.plan s.me (office_of s) xs → TellsAll (run_of s.plan s.me (office_of s) xs) (s.entries ++ xs)
entries_told law s [] w h accepted = subst (TellsAll (office_of s)) (sym (append-nil s.entries)) h
entries_told law s (x ∷ xs) w h (fits, tag, rest) =
    let next : Site = noted s x.tag x.event x.reply in
    let is : office_of next ≡ after s.plan s.me (office_of s) x.event = office_noted s x.tag x.event x.reply in
    let step : Told (after s.plan s.me (office_of s) x.event) (withdrawn_in s.entries ++ withdrawn_by x.event) (submitted_in s.entries ++ submitted_by x.event x.reply) =
    event_told s.plan s.me (office_of s) x.event x.reply _ (withdrawn_in s.entries) (submitted_in s.entries) w (law s) fits h in
    let told : TellsAll (office_of next) (s.entries ++ x ∷ []) =
    subst (λ o. TellsAll o (s.entries ++ x ∷ [])) (sym is)
    (subst (λ ws. Told (after s.plan s.me (office_of s) x.event) ws (submitted_in (s.entries ++ x ∷ []))) (sym (withdrawn_more s.entries x))
    (subst (λ subs. Told (after s.plan s.me (office_of s) x.event) (withdrawn_in s.entries ++ withdrawn_by x.event) subs) (sym (submitted_more s.entries x)) step)) in
    let more : TellsAll (run_of s.plan s.me (office_of next) xs) ((s.entries ++ x ∷ []) ++ xs) =
    entries_told law next xs (subst Rests (sym is) (rests_after s.plan s.me (office_of s) x.event w)) told (subst (λ o. AreAccepted s.plan s.me o xs) (sym is) rest) in
    subst (TellsAll (run_of s.plan s.me (after s.plan s.me (office_of s) x.event) xs)) (append_assoc s.entries (x ∷ []) xs)
    (subst (λ o. TellsAll (run_of s.plan s.me o xs) ((s.entries ++ x ∷ []) ++ xs)) is more)

pub each_once : SessionsGoInOrder → NothingIsLostOrTwice
each_once law s h =
    let none : Site = record { plan = s.plan; me = s.me; entries = [] } in
    let is : office_of none ≡ opened s.plan s.me = office_empty s.plan s.me in
    let nothing : TellsAll (opened s.plan s.me) [] = record { kept = refl; known = All-nil (λ t. t ≤ 0) } in
    let told : TellsAll (run_of s.plan s.me (office_of none) s.entries) s.entries =
    entries_told law none s.entries (subst Rests (sym is) (λ e. refl)) (subst (λ o. TellsAll o []) (sym is) nothing) (subst (λ o. AreAccepted s.plan s.me o s.entries) (sym is) h.accepted) in
    (subst (λ o. TellsAll o s.entries) (at_end s) (subst (λ o. TellsAll (run_of s.plan s.me o s.entries) s.entries) is told)).kept
