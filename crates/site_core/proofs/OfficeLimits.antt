-- What an office can have done by the end of its journal: no link used more numbers than there are entries, no more tickets
-- were given, and the sessions that wait are of the office.
use Rattle.std.proofs.Common.{◌≡◌, ℕ, suc, ◌+◌, ◌≤◌, Bool, true, false, cond, List, [], ◌∷◌, ◌++◌, length, Option, None, Some, Ok, Err, refl, sym, ap, subst, arith, ⊎_elim}
use Rattle.std.specs.Prelude.{◌==◌, nat_lt, not, All}
use Rattle.std.proofs.lemmas.Bool.{eq-eqb, ne_eqb, cases_eq}
use Rattle.std.proofs.lemmas.Bool.Decides.{nat_tests}
use Rattle.std.proofs.lemmas.List.Elements.{All-tail, All-cons, All-append, All-filter}
use Rattle.bottle_values.specs.Maps.{put}
use Rattle.frame_codec.specs.declared.message.Msg.{Msg}
use Rattle.frame_codec.specs.Frame.{Fields}
use Rattle.office_map.specs.PlanValue.{PlanValue, are_neighbours}
use Rattle.window_link.specs.WindowLaws.{known_used}
use Rattle.session_meaning.specs.ProgramValue.{ProgramValue}
use Rattle.window_link.specs.declared.fault.LinkFault.{LinkFault}
use Rattle.window_link.specs.declared.fault.LinkFault.TheVariants.{Stranger, WrongVersion, AckAhead}
use Rattle.window_link.specs.Windows.{used}
use Rattle.window_link.specs.Links.{LinkState, fault_of, is_own, is_of_version, after_arrival}
use Rattle.token_channel.specs.Channels.{link_fault_or, link_then}
use Rattle.dining_core.specs.Diners as forks
use Rattle.drinking_core.specs.Drinkers as bottles
use Rattle.site_core.specs.declared.agendas.session.Session.{Session}
use Rattle.office_journal.specs.declared.rule.Rule.{Rule}
use Rattle.office_journal.specs.declared.rule.Rule.TheVariants as rule
use Rattle.office_journal.specs.declared.event.Event.{Event}
use Rattle.office_journal.specs.declared.event.Event.TheVariants as event
use Rattle.office_journal.specs.declared.event.Entry.{Entry}
use Rattle.office_journal.specs.declared.reply.Reply.TheVariants as reply
use Rattle.office_journal.specs.declared.reply.Refusal.TheVariants as refusal
use Rattle.token_channel.specs.declared.fault.ChannelFault.{ChannelFault}
use Rattle.site_core.specs.neighbours.Pairs.{Pairs, sent, fork_sends, bottle_sends, frame_fault}
use Rattle.site_core.specs.neighbours.Pairs as pairs
use Rattle.site_core.specs.agendas.Agenda.{Agenda, submitted, started}
use Rattle.site_core.specs.agendas.Agenda as agenda
use Rattle.site_core.specs.Offices.{Office, may, act, withdrawn, is_ours, submit, framed, frame_on, unless_faulty, opened}
use Rattle.site_core.specs.Journals.{Site, next_or, after, run_of, office_of}
use Rattle.site_core.specs.neighbours.PairLaws.{passed, through_taking}
use Rattle.site_core.specs.WithdrawalLaws.{either_withdrawn, after_withdrawal}

-- ---- limits

-- so many numbers at most, so many tickets at most, and only sessions of the office
pub record IsWithin (plan : PlanValue) (me n : ℕ) (o : Office) : Type 0 where
  pub numbers : (v : ℕ) → used (o.pairs.link v).sending ≤ n
  pub tickets : o.agenda.tickets ≤ n
  pub ours : All (λ (s : Session). is_ours plan me s.program ≡ true) o.agenda.queue

abbrev Numbers : ℕ → (ℕ → LinkState) → Type 0
Numbers n link = (v : ℕ) → used (link v).sending ≤ n

more : (n : ℕ) (link : ℕ → LinkState) → Numbers n link → Numbers (n + 1) link
more n link h v = omega (arith, h v)

length_one : (ms : List Msg) (m : Msg) → length (ms ++ m ∷ []) ≡ length ms + 1
length_one [] m = refl
length_one (x ∷ xs) m = omega (arith, length_one xs m)

after_put : (n : ℕ) (link : ℕ → LinkState) (v : ℕ) (l : LinkState) → Numbers n link → used l.sending ≤ n → Numbers n (put link v l)
after_put n link v l h lt u = ⊎_elim
    (λ e. subst (λ (x : LinkState). used x.sending ≤ n) (sym (ap (λ b. cond b l (link u)) (eq-eqb u v e))) lt)
    (λ ne. subst (λ (x : LinkState). used x.sending ≤ n) (sym (ap (λ b. cond b l (link u)) (ne_eqb u v ne))) (h u))
    (cases_eq u v)

after_sent : (n : ℕ) (link : ℕ → LinkState) (o : Option (ℕ × Msg)) → Numbers n link → Numbers (n + 1) (sent link o)
after_sent n link None h = more n link h
after_sent n link (Some x) h = after_put (n + 1) link x.0 _ (more n link h) (omega (arith, h x.0, length_one (link x.0).sending.waiting x.1))

-- ---- frames

none_ahead : (l : LinkState) (f : Fields) → fault_of l f ≡ None → f.count ≤ used l.sending
none_ahead l f e = go (is_own l f) (is_of_version l f) (nat_lt (used l.sending) f.count) refl e
  where
    go : (a v b : Bool) → nat_lt (used l.sending) f.count ≡ b → cond (not a) (Some Stranger) (cond (not v) (Some WrongVersion) (cond b (Some AckAhead) None)) ≡ None → f.count ≤ used l.sending
    go false v b h k = absurd cc
    go true false b h k = absurd cc
    go true true true h k = absurd cc
    go true true false h k = grind (arith, nat_tests, h)

no_link_fault : (fault : Option LinkFault) (b : Bool) → link_fault_or fault b ≡ None → fault ≡ None
no_link_fault None b e = refl
no_link_fault (Some x) b e = absurd cc

after_frame : (plan : PlanValue) (me n : ℕ) (p : Pairs) (f : Fields) → Numbers n p.link → frame_fault plan me p f ≡ None → Numbers n (pairs.after_frame p f).link
after_frame plan me n p f h none =
    let fine = no_link_fault (fault_of (p.link f.from) f) _ (passed plan me p f none).1 in
    let same = known_used (p.link f.from).sending f.count (none_ahead (p.link f.from) f fine) in
    after_put n p.link f.from (after_arrival (p.link f.from) f) h (omega (arith, same, h f.from))

after_taking : (plan : PlanValue) (me n : ℕ) (p : Pairs) (f : Fields) → Numbers n p.link → frame_fault plan me p f ≡ None → Numbers n (pairs.after_taking plan me p f).link
after_taking plan me n p f h none =
    through_taking plan me (λ (q : Pairs). Numbers n q.link) f (λ q k. after_put n q.link f.from (link_then (q.link f.from) (pairs.follows plan me f.from q)) k (k f.from)) p (after_frame plan me n p f h none)

-- ---- events

loosen : (plan : PlanValue) (me n m : ℕ) (o : Office) → n ≤ m → IsWithin plan me n o → IsWithin plan me m o
loosen plan me n m o le w = record { numbers = λ v. omega (arith, le, w.numbers v); tickets = omega (arith, le, w.tickets); ours = w.ours }

abbrev pub Ours : PlanValue → ℕ → List Session → Type 0
Ours plan me queue = All (λ (s : Session). is_ours plan me s.program ≡ true) queue

one_ours : (plan : PlanValue) (me : ℕ) (s : Session) → is_ours plan me s.program ≡ true → Ours plan me (s ∷ [])
one_ours plan me s e = All-cons (λ (x : Session). is_ours plan me x.program ≡ true) s [] e (λ i d lt. absurd (omega (arith, lt)))

after_submit : (plan : PlanValue) (me n : ℕ) (o : Office) (p : ProgramValue) → IsWithin plan me n o → IsWithin plan me (n + 1) (next_or o (submit plan me o p))
after_submit plan me n o p w = go (is_ours plan me p) (agenda.is_full o.agenda) refl
  where
    go : (a b : Bool) → is_ours plan me p ≡ a → IsWithin plan me (n + 1) (next_or o (cond a (cond b (Err refusal.QueueFull) (Ok (reply.Ticket (o.agenda.tickets + 1), record { pairs = o.pairs; agenda = submitted o.agenda p }))) (Err refusal.NotOurs)))
    go true true e = loosen plan me n (n + 1) o (omega arith) w
    go false b e = loosen plan me n (n + 1) o (omega arith) w
    go true false e = record {
      numbers = more n o.pairs.link w.numbers;
      tickets = omega (arith, w.tickets);
      ours = All-append (λ (s : Session). is_ours plan me s.program ≡ true) o.agenda.queue (record { ticket = o.agenda.tickets + 1; program = p } ∷ []) w.ours (one_ours plan me (record { ticket = o.agenda.tickets + 1; program = p }) e);
    }

started_tickets : (a : Agenda) (queue : List Session) → (started a queue).tickets ≡ a.tickets
started_tickets a [] = refl
started_tickets a (s ∷ rest) = refl

started_ours : (plan : PlanValue) (me : ℕ) (a : Agenda) (queue : List Session) → a.queue ≡ queue → Ours plan me queue → Ours plan me (started a queue).queue
started_ours plan me a [] is h = subst (Ours plan me) (sym is) h
started_ours plan me a (s ∷ rest) is h = All-tail (λ (x : Session). is_ours plan me x.program ≡ true) s rest h

by_rule : (plan : PlanValue) (me n : ℕ) (o : Office) (r : Rule) → IsWithin plan me n o → IsWithin plan me (n + 1) (act me o r)
by_rule plan me n o rule.Start w = record {
  numbers = more n o.pairs.link w.numbers;
  tickets = omega (arith, w.tickets, started_tickets o.agenda o.agenda.queue);
  ours = started_ours plan me o.agenda o.agenda.queue refl w.ours;
}
by_rule plan me n o rule.Hungry w = record { numbers = more n o.pairs.link w.numbers; tickets = omega (arith, w.tickets); ours = w.ours }
by_rule plan me n o (rule.AskFork v) w = record { numbers = after_sent n o.pairs.link (fork_sends (forks.AskFork v)) w.numbers; tickets = omega (arith, w.tickets); ours = w.ours }
by_rule plan me n o (rule.GiveFork v) w = record { numbers = after_sent n o.pairs.link (fork_sends (forks.GiveFork v)) w.numbers; tickets = omega (arith, w.tickets); ours = w.ours }
by_rule plan me n o rule.Eat w = record { numbers = more n o.pairs.link w.numbers; tickets = omega (arith, w.tickets); ours = w.ours }
by_rule plan me n o rule.Leave w = record { numbers = more n o.pairs.link w.numbers; tickets = omega (arith, w.tickets); ours = w.ours }
by_rule plan me n o (rule.AskBottle r) w = record { numbers = after_sent n o.pairs.link (bottle_sends o.pairs.drinker (bottles.AskBottle r)) w.numbers; tickets = omega (arith, w.tickets); ours = w.ours }
by_rule plan me n o (rule.GiveBottle r) w = record { numbers = after_sent n o.pairs.link (bottle_sends o.pairs.drinker (bottles.GiveBottle r o.pairs.diner.held)) w.numbers; tickets = omega (arith, w.tickets); ours = w.ours }
by_rule plan me n o rule.Drink w = record { numbers = more n o.pairs.link w.numbers; tickets = omega (arith, w.tickets); ours = w.ours }
by_rule plan me n o (rule.Work k) w = record { numbers = more n o.pairs.link w.numbers; tickets = omega (arith, w.tickets); ours = w.ours }
by_rule plan me n o rule.Finish w = record { numbers = more n o.pairs.link w.numbers; tickets = omega (arith, w.tickets); ours = w.ours }

by_withdrawal : (plan : PlanValue) (me n : ℕ) (o : Office) (t : ℕ) → IsWithin plan me n o → IsWithin plan me (n + 1) (withdrawn o t)
by_withdrawal plan me n o t w = either_withdrawn (IsWithin plan me (n + 1)) o t
    (λ e. record {
      numbers = more n o.pairs.link w.numbers;
      tickets = omega (arith, w.tickets);
      ours = All-filter (λ (s : Session). not (s.ticket == t)) (λ (s : Session). is_ours plan me s.program ≡ true) o.agenda.queue w.ours;
    })
    (λ e. record { numbers = more n o.pairs.link w.numbers; tickets = omega (arith, w.tickets); ours = w.ours })

by_event : (plan : PlanValue) (me n : ℕ) (o : Office) (e : Event) → IsWithin plan me n o → IsWithin plan me (n + 1) (after plan me o e)
by_event plan me n o (event.Submit p) w = after_submit plan me n o p w
by_event plan me n o (event.Do r) w = go (may plan me o r)
  where
    go : (b : Bool) → IsWithin plan me (n + 1) (next_or o (cond b (Ok (reply.Done, act me o r)) (Err refusal.NotNow)))
    go true = by_rule plan me n o r w
    go false = loosen plan me n (n + 1) o (omega arith) w
by_event plan me n o (event.Send v i) w = go (are_neighbours plan me v)
  where
    made : (f : Option Fields) → next_or o (framed o f) ≡ o
    made None = refl
    made (Some f) = refl

    go : (b : Bool) → IsWithin plan me (n + 1) (next_or o (cond b (framed o (frame_on (o.pairs.link v) i)) (Err refusal.NotNow)))
    go true = subst (IsWithin plan me (n + 1)) (sym (made (frame_on (o.pairs.link v) i))) (loosen plan me n (n + 1) o (omega arith) w)
    go false = loosen plan me n (n + 1) o (omega arith) w
by_event plan me n o (event.Took f) w = go (frame_fault plan me o.pairs f) refl
  where
    go : (x : Option ChannelFault) → frame_fault plan me o.pairs f ≡ x → IsWithin plan me (n + 1) (next_or o (unless_faulty plan me o f x))
    go None e = record { numbers = more n (pairs.after_taking plan me o.pairs f).link (after_taking plan me n o.pairs f w.numbers e); tickets = omega (arith, w.tickets); ours = w.ours }
    go (Some x) e = loosen plan me n (n + 1) o (omega arith) w
by_event plan me n o (event.Withdraw t) w = after_withdrawal (IsWithin plan me (n + 1)) o t (loosen plan me n (n + 1) o (omega arith) w) (by_withdrawal plan me n o t w)

by_run : (plan : PlanValue) (me n : ℕ) (o : Office) (xs : List Entry) → IsWithin plan me n o → IsWithin plan me (n + length xs) (run_of plan me o xs)
by_run plan me n o [] w = loosen plan me n (n + 0) o (omega arith) w
by_run plan me n o (x ∷ xs) w = loosen plan me (n + 1 + length xs) (n + suc (length xs)) (run_of plan me (after plan me o x.event) xs) (omega arith) (by_run plan me (n + 1) (after plan me o x.event) xs (by_event plan me n o x.event w))

pub within : (s : Site) → IsWithin s.plan s.me (length s.entries) (office_of s)
unfolding office_of
within s = loosen s.plan s.me (0 + length s.entries) (length s.entries) (run_of s.plan s.me (opened s.plan s.me) s.entries) (omega arith) (by_run s.plan s.me 0 (opened s.plan s.me) s.entries (record { numbers = λ v. omega arith; tickets = omega arith; ours = λ i d lt. absurd (omega (arith, lt)) }))
