-- Sessions finish in the order of their tickets.
use Rattle.std.proofs.Common.{◌≡◌, ℕ, zero, suc, ◌+◌, ◌<◌, ◌≤◌, Bool, true, false, cond, List, [], ◌∷◌, ◌++◌, length, map, get_or, Option, None, Some, Result, Ok, Err, refl, sym, ap, subst, ◌∙◌, arith, append_assoc, ⊎_elim, Less, Equal, Greater}
use Rattle.std.specs.Prelude.{◌==◌, ◌&&◌, not, filter, is_some, IfSome, slice_get, option_map, nat_lt}
use Rattle.std.specs.List.{HoldsAt}
use Rattle.std.specs.Option.{option_copied}
use denote.Bor.{Bor}
use Rattle.std.specs.Result.{MatchResult}
use Rattle.std.specs.Ordering.{nat_cmp, ordering_index}
use Rattle.std.specs.List.Sorted.{IsSearchInRange, IsBinarySearchResult, IsPartitionPoint}
use Rattle.std.proofs.lemmas.Cmp.{ranked}
use Rattle.std.proofs.lemmas.Bool.{eq-eqb, ne_eqb, cases_lt}
use Rattle.std.proofs.lemmas.Bool.Decides.{nat_tests}
use Rattle.std.proofs.lemmas.List.{map-append, get_or_default}
use Rattle.std.proofs.lemmas.Option.{slice_get_past, slice_get_read}
use Rattle.bottle_values.specs.declared.Value.{Value}
use Rattle.frame_codec.specs.declared.message.Msg.{Msg}
use Rattle.frame_codec.specs.declared.message.Msg.TheVariants as msg
use Rattle.frame_codec.specs.Frame.{Fields}
use Rattle.office_map.specs.PlanValue.{PlanValue, are_neighbours}
use Rattle.session_meaning.specs.ProgramValue.{ProgramValue}
use Rattle.session_meaning.specs.declared.ending.Ending.{Ending}
use Rattle.session_meaning.specs.declared.ending.Outcome.{Outcome}
use Rattle.session_machine.specs.Pieces.{ending_after}
use Rattle.window_link.specs.declared.arrival.Arrival.{Arrival}
use Rattle.window_link.specs.declared.arrival.Arrival.TheVariants as arrival
use Rattle.token_channel.specs.declared.fault.ChannelFault.{ChannelFault}
use Rattle.drinking_core.specs.Drinkers.{Drinker}
use Rattle.drinking_core.specs.Drinkers as bottles
use Rattle.site_core.specs.declared.agendas.session.Session.{Session}
use Rattle.office_journal.specs.declared.rule.Rule.{Rule}
use Rattle.office_journal.specs.declared.rule.Rule.TheVariants as rule
use Rattle.office_journal.specs.declared.event.Event.{Event}
use Rattle.office_journal.specs.declared.event.Event.TheVariants as event
use Rattle.office_journal.specs.declared.event.Entry.{Entry}
use Rattle.office_journal.specs.declared.reply.Reply.TheVariants as reply
use Rattle.office_journal.specs.declared.reply.Refusal.TheVariants as refusal
use Rattle.site_core.specs.neighbours.Pairs.{Pairs, bottle_came, drinker_after, frame_fault, after_taking}
use Rattle.site_core.specs.agendas.Agenda.{Agenda, Current, Idle, Gathering, Working, submitted, without_waiting, started, first_needs, begun, worked, writes_of, outcome_of, outcome_as, with_current}
use Rattle.site_core.specs.agendas.Agenda as agenda
use Rattle.site_core.specs.Offices.{Office, may, act, withdrawn, is_ours, submit, framed, frame_on, unless_faulty, opened}
use Rattle.site_core.specs.Journals.{next_or, after, run_of, office_of}
use Rattle.site_core.specs.Readers.{outcome_with}
use Rattle.site_core.specs.Tickets.{current_tickets, Rise, GoInOrder, SessionsGoInOrder}
use Rattle.site_core.specs.neighbours.PairLaws.{through_taking}
use Rattle.site_core.specs.WithdrawalLaws.{either_withdrawn, after_withdrawal}

abbrev tickets_of : List Session → List ℕ
tickets_of = map (λ (s : Session). s.ticket)

abbrev finished_tickets : List Outcome → List ℕ
finished_tickets = map (λ (o : Outcome). o.ticket)

-- and an office that neither waits for bottles nor drinks has no session
record IsInOrder (o : Office) : Type 0 where
  order : GoInOrder o.agenda
  idle : bottles.is_tranquil o.pairs.drinker.phase ≡ true → o.agenda.current ≡ Idle

-- ---- tickets that rise

rise_from : (k j n : ℕ) (ts : List ℕ) → j ≤ k → Rise k ts n → Rise j ts n
rise_from k j n [] le h = omega (arith, le, h)
rise_from k j n (t ∷ ts) le h = (omega (arith, le, h.0), h.1)

-- a list whose end is changed, where the new end rises too
rise_behind : (k n m : ℕ) (xs ys zs : List ℕ) → ((j : ℕ) → Rise j ys n → Rise j zs m) → Rise k (xs ++ ys) n → Rise k (xs ++ zs) m
rise_behind k n m [] ys zs f h = f k h
rise_behind k n m (x ∷ xs) ys zs f h = (h.0, rise_behind x n m xs ys zs f h.1)

rise_without : (k n : ℕ) (ts rest : List ℕ) → Rise k (ts ++ rest) n → Rise k rest n
rise_without k n [] rest h = h
rise_without k n (t ∷ ts) rest h = rise_from t k n rest (omega (arith, h.0)) (rise_without t n ts rest h.1)

one_more : (k n : ℕ) (ts : List ℕ) → Rise k ts n → Rise k (ts ++ (n + 1) ∷ []) (n + 1)
one_more k n [] h = (omega (arith, h), omega arith)
one_more k n (t ∷ ts) h = (h.0, one_more t n ts h.1)

one_less : (k n ticket : ℕ) (queue : List Session) → Rise k (tickets_of queue) n → Rise k (tickets_of (filter (λ (s : Session). not (s.ticket == ticket)) queue)) n
one_less k n ticket [] h = h
one_less k n ticket (s ∷ queue) h = go (s.ticket == ticket) (one_less s.ticket n ticket queue h.1)
  where
    others : List Session
    others = filter (λ (s : Session). not (s.ticket == ticket)) queue

    go : (b : Bool) → Rise s.ticket (tickets_of others) n → Rise k (tickets_of (cond (not b) (s ∷ others) others)) n
    go true rest = rise_from s.ticket k n (tickets_of others) (omega (arith, h.0)) rest
    go false rest = (h.0, rest)

-- ---- a session more

order_submitted : (a : Agenda) (p : ProgramValue) → GoInOrder a → GoInOrder (submitted a p)
order_submitted a p h =
    let out = finished_tickets a.outcomes in
    let cur = current_tickets a.current in
    let one : List ℕ = (a.tickets + 1) ∷ [] in
    subst (λ (l : List ℕ). Rise 0 l (a.tickets + 1))
    (append_assoc out (cur ++ tickets_of a.queue) one
    ∙ ap (λ (l : List ℕ). out ++ l) (append_assoc cur (tickets_of a.queue) one)
    ∙ ap (λ (l : List ℕ). out ++ (cur ++ l)) (sym (map-append (λ (s : Session). s.ticket) a.queue (record { ticket = a.tickets + 1; program = p } ∷ []))))
    (one_more 0 a.tickets (out ++ (cur ++ tickets_of a.queue)) h)

by_submit : (plan : PlanValue) (me : ℕ) (o : Office) (p : ProgramValue) → IsInOrder o → IsInOrder (next_or o (submit plan me o p))
by_submit plan me o p w = go (is_ours plan me p) (agenda.is_full o.agenda)
  where
    go : (a b : Bool) → IsInOrder (next_or o (cond a (cond b (Err refusal.QueueFull) (Ok (reply.Ticket (o.agenda.tickets + 1), record { pairs = o.pairs; agenda = submitted o.agenda p }))) (Err refusal.NotOurs)))
    go true true = w
    go false b = w
    go true false = record { order = order_submitted o.agenda p w.order; idle = w.idle }

-- ---- a session less

order_without_waiting : (a : Agenda) (ticket : ℕ) → GoInOrder a → GoInOrder (without_waiting a ticket)
order_without_waiting a ticket h =
    let left : List Session = (without_waiting a ticket).queue in
    rise_behind 0 a.tickets a.tickets (finished_tickets a.outcomes) (current_tickets a.current ++ tickets_of a.queue) (current_tickets a.current ++ tickets_of left)
    (λ j. rise_behind j a.tickets a.tickets (current_tickets a.current) (tickets_of a.queue) (tickets_of left) (λ k. one_less k a.tickets ticket a.queue)) h

order_without_current : (a : Agenda) → GoInOrder a → GoInOrder (with_current a Idle)
order_without_current a h =
    rise_behind 0 a.tickets a.tickets (finished_tickets a.outcomes) (current_tickets a.current ++ tickets_of a.queue) (tickets_of a.queue) (λ j. rise_without j a.tickets (current_tickets a.current) (tickets_of a.queue)) h

by_withdrawal : (o : Office) (ticket : ℕ) → IsInOrder o → IsInOrder (withdrawn o ticket)
by_withdrawal o ticket w = either_withdrawn IsInOrder o ticket
    (λ h. record { order = order_without_waiting o.agenda ticket w.order; idle = w.idle })
    (λ h. record { order = order_without_current o.agenda w.order; idle = λ e. refl })

-- ---- rules

both_true : (a b : Bool) → (a && b) ≡ true → (a ≡ true) × (b ≡ true)
both_true true b e = (refl, e)
both_true false b e = absurd cc

pub tickets_begun : (values : ℕ → Value) (c : Current) → current_tickets (begun values c) ≡ current_tickets c
tickets_begun values Idle = refl
tickets_begun values (Gathering s) = refl
tickets_begun values (Working s reads done) = refl

pub tickets_worked : (n : ℕ) (c : Current) → current_tickets (worked n c) ≡ current_tickets c
tickets_worked n Idle = refl
tickets_worked n (Gathering s) = refl
tickets_worked n (Working s reads done) = refl

order_with : (a : Agenda) (c : Current) → current_tickets c ≡ current_tickets a.current → GoInOrder a → GoInOrder (with_current a c)
order_with a c same h = subst (λ (l : List ℕ). Rise 0 (finished_tickets a.outcomes ++ (l ++ tickets_of a.queue)) a.tickets) (sym same) h

by_start : (o : Office) (queue : List Session) → o.agenda.queue ≡ queue → bottles.may o.pairs.drinker (bottles.Start (first_needs queue)) ≡ true → IsInOrder o →
    GoInOrder (started o.agenda queue) × (bottles.is_tranquil (bottles.started o.pairs.drinker (first_needs queue)).phase ≡ true → (started o.agenda queue).current ≡ Idle)
by_start o [] is m w = (w.order, w.idle)
by_start o (s ∷ rest) is m w =
    let none : o.agenda.current ≡ Idle = w.idle (both_true (bottles.is_tranquil o.pairs.drinker.phase) true m).0 in (
      subst (λ (c : Current). Rise 0 (finished_tickets o.agenda.outcomes ++ (current_tickets c ++ tickets_of (s ∷ rest))) o.agenda.tickets) none
          (subst (λ (q : List Session). Rise 0 (finished_tickets o.agenda.outcomes ++ (current_tickets o.agenda.current ++ tickets_of q)) o.agenda.tickets) is w.order),
      λ e. absurd cc,
    )

order_finished : (me : ℕ) (a : Agenda) (c : Current) → a.current ≡ c → is_some (writes_of c) ≡ true → GoInOrder a → Rise 0 (finished_tickets (a.outcomes ++ outcome_of me c) ++ tickets_of a.queue) a.tickets
order_finished me a Idle is m h = absurd cc
order_finished me a (Gathering s) is m h = absurd cc
order_finished me a (Working s reads done) is m h = go (ending_after s.program reads done) m
  where
    go : (e : Option Ending) → is_some (option_map (λ (x : Ending). x.writes) e) ≡ true → Rise 0 (finished_tickets (a.outcomes ++ outcome_as me s.ticket e) ++ tickets_of a.queue) a.tickets
    go None k = absurd cc
    go (Some e) k =
        subst (λ (l : List ℕ). Rise 0 l a.tickets)
        (ap (λ (c : Current). finished_tickets a.outcomes ++ (current_tickets c ++ tickets_of a.queue)) is
        ∙ sym (append_assoc (finished_tickets a.outcomes) (s.ticket ∷ []) (tickets_of a.queue))
        ∙ ap (λ (l : List ℕ). l ++ tickets_of a.queue) (sym (map-append (λ (o : Outcome). o.ticket) a.outcomes (record { office = me; ticket = s.ticket; ending = e } ∷ [])))) h

by_rule : (plan : PlanValue) (me : ℕ) (o : Office) (r : Rule) → may plan me o r ≡ true → IsInOrder o → IsInOrder (act me o r)
by_rule plan me o rule.Start m w = let s = by_start o o.agenda.queue refl m w in record { order = s.0; idle = s.1 }
by_rule plan me o rule.Hungry m w = record { order = w.order; idle = w.idle }
by_rule plan me o (rule.AskFork v) m w = record { order = w.order; idle = w.idle }
by_rule plan me o (rule.GiveFork v) m w = record { order = w.order; idle = w.idle }
by_rule plan me o rule.Eat m w = record { order = w.order; idle = w.idle }
by_rule plan me o rule.Leave m w = record { order = w.order; idle = w.idle }
by_rule plan me o (rule.AskBottle r) m w = record { order = w.order; idle = w.idle }
by_rule plan me o (rule.GiveBottle r) m w = record { order = w.order; idle = w.idle }
by_rule plan me o rule.Drink m w = record { order = order_with o.agenda (begun _ o.agenda.current) (tickets_begun _ o.agenda.current) w.order; idle = λ e. absurd cc }
by_rule plan me o (rule.Work n) m w = record { order = order_with o.agenda (worked n o.agenda.current) (tickets_worked n o.agenda.current) w.order; idle = λ e. ap (worked n) (w.idle e) }
by_rule plan me o rule.Finish m w = record { order = order_finished me o.agenda o.agenda.current refl (both_true (bottles.is_drinking o.pairs.drinker.phase) (is_some (writes_of o.agenda.current)) m).1 w.order; idle = λ e. refl }

-- ---- what comes

phase_came : (d : Drinker) (m : Msg) → (bottle_came d m).phase ≡ d.phase
phase_came d msg.AskFork = refl
phase_came d msg.Fork = refl
phase_came d (msg.AskBottle r) = refl
phase_came d (msg.Bottle r x) = refl

phase_after : (d : Drinker) (a : Arrival) → (drinker_after d a).phase ≡ d.phase
phase_after d (arrival.Fresh m) = phase_came d m
phase_after d arrival.Acked = refl
phase_after d arrival.Repeat = refl
phase_after d arrival.Kept = refl
phase_after d arrival.Early = refl

phase_taken : (plan : PlanValue) (me : ℕ) (p : Pairs) (f : Fields) → (after_taking plan me p f).drinker.phase ≡ p.drinker.phase
phase_taken plan me p f = through_taking plan me (λ (q : Pairs). q.drinker.phase ≡ p.drinker.phase) f (λ q e. phase_after q.drinker _ ∙ e) p (phase_after p.drinker _)

-- ---- events

by_event : (plan : PlanValue) (me : ℕ) (o : Office) (e : Event) → IsInOrder o → IsInOrder (after plan me o e)
by_event plan me o (event.Submit p) w = by_submit plan me o p w
by_event plan me o (event.Do r) w = go (may plan me o r) refl
  where
    go : (b : Bool) → may plan me o r ≡ b → IsInOrder (next_or o (cond b (Ok (reply.Done, act me o r)) (Err refusal.NotNow)))
    go true m = by_rule plan me o r m w
    go false m = w
by_event plan me o (event.Send v i) w = go (are_neighbours plan me v)
  where
    made : (f : Option Fields) → next_or o (framed o f) ≡ o
    made None = refl
    made (Some f) = refl

    go : (b : Bool) → IsInOrder (next_or o (cond b (framed o (frame_on (o.pairs.link v) i)) (Err refusal.NotNow)))
    go true = subst IsInOrder (sym (made (frame_on (o.pairs.link v) i))) w
    go false = w
by_event plan me o (event.Took f) w = go (frame_fault plan me o.pairs f)
  where
    go : (x : Option ChannelFault) → IsInOrder (next_or o (unless_faulty plan me o f x))
    go None = record { order = w.order; idle = λ e. w.idle (sym (ap bottles.is_tranquil (phase_taken plan me o.pairs f)) ∙ e) }
    go (Some x) = w
by_event plan me o (event.Withdraw t) w = after_withdrawal IsInOrder o t w (by_withdrawal o t w)

by_run : (plan : PlanValue) (me : ℕ) (o : Office) (xs : List Entry) → IsInOrder o → IsInOrder (run_of plan me o xs)
by_run plan me o [] w = w
by_run plan me o (x ∷ xs) w = by_run plan me (after plan me o x.event) xs (by_event plan me o x.event w)

pub in_order : SessionsGoInOrder
unfolding office_of
in_order s = (by_run s.plan s.me (opened s.plan s.me) s.entries (record { order = omega arith; idle = λ e. refl })).order

-- ---- the outcome of a ticket

module _ (n : ℕ) (rest : List ℕ) where
  -- the tickets of those that finished rise
  above : (k : ℕ) (os : List Outcome) → Rise k (finished_tickets os ++ rest) n → (i : ℕ) (d : Outcome) → i < length os → k < (get_or os i d).ticket
  above k [] h i d lt = absurd (omega (arith, lt))
  above k (o ∷ os) h zero d lt = h.0
  above k (o ∷ os) h (suc i) d lt = let later : o.ticket < (get_or os i d).ticket = above o.ticket os h.1 i d (omega (arith, lt)) in omega (arith, h.0, later)

  rising : (k : ℕ) (os : List Outcome) → Rise k (finished_tickets os ++ rest) n → (i j : ℕ) (d : Outcome) → i ≤ j → j < length os → (get_or os i d).ticket ≤ (get_or os j d).ticket
  rising k [] h i j d le lt = absurd (omega (arith, lt))
  rising k (o ∷ os) h zero zero d le lt = omega arith
  rising k (o ∷ os) h zero (suc j) d le lt = let later : o.ticket < (get_or os j d).ticket = above o.ticket os h.1 j d (omega (arith, lt)) in omega (arith, later)
  rising k (o ∷ os) h (suc i) zero d le lt = absurd (omega (arith, le))
  rising k (o ∷ os) h (suc i) (suc j) d le lt = rising o.ticket os h.1 i j d (omega (arith, le)) (omega (arith, lt))

  -- so an outcome is the first with its ticket
  first_with : (k : ℕ) (os : List Outcome) → Rise k (finished_tickets os ++ rest) n → (i : ℕ) (d : Outcome) → i < length os → outcome_with os (get_or os i d).ticket ≡ Some (get_or os i d)
  first_with k [] h i d lt = absurd (omega (arith, lt))
  first_with k (o ∷ os) h zero d lt = ap (λ b. cond b (Some o) (outcome_with os o.ticket)) (eq-eqb o.ticket o.ticket refl)
  first_with k (o ∷ os) h (suc i) d lt =
      let x : Outcome = get_or os i d in
      let later : o.ticket < x.ticket = above o.ticket os h.1 i d (omega (arith, lt)) in
      ap (λ b. cond b (Some o) (outcome_with os x.ticket)) (ne_eqb o.ticket x.ticket (λ (same : o.ticket ≡ x.ticket). absurd (omega (arith, later, same)))) ∙ first_with o.ticket os h.1 i d (omega (arith, lt))

none_with : (os : List Outcome) (t : ℕ) → ((i : ℕ) (d : Outcome) → i < length os → (get_or os i d).ticket ≡ t → ⊥) → outcome_with os t ≡ None
none_with [] t h = refl
none_with (o ∷ os) t h = ap (λ b. cond b (Some o) (outcome_with os t)) (ne_eqb o.ticket t (h 0 o (omega arith))) ∙ none_with os t (λ i d lt. h (suc i) d (omega (arith, lt)))

higher : (a b t : ℕ) → a ≤ b → ordering_index (nat_cmp a t) ≤ ordering_index (nat_cmp b t)
higher a b t le = grind (arith, nat_tests, le)

found_at : (k n : ℕ) (os : List Outcome) (rest : List ℕ) (t i : ℕ) → Rise k (finished_tickets os ++ rest) n → i < length os → HoldsAt (λ (o : Outcome). nat_cmp o.ticket t ≡ Equal) os i → slice_get os i ≡ outcome_with os t
found_at k n [] rest t i h lt there = absurd (omega (arith, lt))
found_at k n (o ∷ os) rest t i h lt there =
    let x : Outcome = get_or (o ∷ os) i o in
    let same : x.ticket ≡ t = ranked x.ticket t Equal (sym (there o)) in
    slice_get_read (o ∷ os) (length (o ∷ os)) i x refl lt (get_or_default (o ∷ os) i o x lt) ∙ sym (first_with n rest k (o ∷ os) h i o lt) ∙ ap (outcome_with (o ∷ os)) same

found_or_none : (a : Agenda) (t : ℕ) (r : Result ℕ ℕ) → GoInOrder a → IsSearchInRange r (length a.outcomes) → IsBinarySearchResult (λ (o : Outcome). nat_cmp o.ticket t) a.outcomes r →
    MatchResult r (λ i. slice_get a.outcomes i ≡ outcome_with a.outcomes t) (λ i. None ≡ outcome_with a.outcomes t)
found_or_none a t (Ok i) h lt there = found_at 0 a.tickets a.outcomes _ t i h lt there
found_or_none a t (Err i) h le parted = sym (none_with a.outcomes t neither)
  where
    ticket_at : ℕ → Outcome → ℕ
    ticket_at j d = (get_or a.outcomes j d).ticket

    parts : IsPartitionPoint (λ (o : Outcome). nat_cmp o.ticket t ≡ Less) (λ (o : Outcome). nat_cmp o.ticket t ≡ Greater) a.outcomes i
    parts = parted (λ j k d below lt. higher (ticket_at j d) (ticket_at k d) t (rising a.tickets _ 0 a.outcomes h j k d below lt))

    neither : (j : ℕ) (d : Outcome) → j < length a.outcomes → ticket_at j d ≡ t → ⊥
    neither j d lt same = ⊎_elim
        (λ before. let less : ticket_at j d < t = ranked (ticket_at j d) t Less (sym (parts.0 j d (omega arith) before)) in omega (arith, less, same))
        (λ behind. let more : t < ticket_at j d = ranked (ticket_at j d) t Greater (sym (parts.1 j d behind lt)) in omega (arith, more, same))
        (cases_lt j i)

-- what a binary search by tickets finds
pub searched : (os : List Outcome) (a : Agenda) (t : ℕ) (r : Result ℕ ℕ) → os ≡ a.outcomes → GoInOrder a → IsSearchInRange r (length os) → IsBinarySearchResult (λ (o : Outcome). nat_cmp o.ticket t) os r →
    MatchResult r (λ i. slice_get os i ≡ outcome_with a.outcomes t) (λ i. None ≡ outcome_with a.outcomes t)
searched os a t r same h = subst (λ (l : List Outcome). IsSearchInRange r (length l) → IsBinarySearchResult (λ (o : Outcome). nat_cmp o.ticket t) l r → MatchResult r (λ i. slice_get l i ≡ outcome_with a.outcomes t) (λ i. None ≡ outcome_with a.outcomes t))
    (sym same) (found_or_none a t r h)

-- what a slice tells of its i-th element
pub looked_up : (outcomes : List Outcome) (i : ℕ) (found : Option (Bor Outcome)) → is_some found ≡ nat_lt i (length outcomes) → IfSome found (λ (x : Bor Outcome). x.now ≡ get_or outcomes i x.now) → option_copied found ≡ slice_get outcomes i
looked_up outcomes i None there is = let past : length outcomes ≤ i = grind (arith, nat_tests, there) in sym (slice_get_past outcomes i past)
looked_up outcomes i (Some x) there is = let within : i < length outcomes = grind (arith, nat_tests, there) in sym (slice_get_read outcomes (length outcomes) i x.now refl within is)
