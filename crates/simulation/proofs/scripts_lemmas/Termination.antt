-- A world that settles comes to its end: each step uses up work, and takes an entry of a journal.
use Rattle.std.proofs.Common.{◌≡◌, ◌≢◌, ℕ, zero, suc, ◌+◌, ◌*◌, ◌<◌, ◌≤◌, Bool, true, false, cond, List, [], ◌∷◌, ◌++◌, length, get_or, set, sum_by, Option, None, Some, Ok, Err, refl, sym, ap, ap₂, subst, ◌∙◌, arith, inl, inr, ⊎_elim}
use Rattle.std.specs.Prelude.{IsOk, nat_lt, nat_le, slice_get, unwrap_or, ◌⊎◌}
use Rattle.std.specs.List.{range_with_len}
use Rattle.std.proofs.lemmas.Bool.{cases_eq, cases_lt, ltb-true, leb-false}
use Rattle.std.proofs.lemmas.List.{get_or-set_same, get_or-set_other, get_or_past}
use Rattle.std.proofs.lemmas.List.Sums.{sum_by-cons, sum_by-set, get_or-le-sum_by}
use Rattle.std.proofs.lemmas.List.FromFn.{length-range_with_len, get_or-range_with_len}
use Rattle.frame_codec.specs.Frame.{Fields}
use Rattle.office_map.specs.PlanValue.{PlanValue, are_neighbours}
use Rattle.office_map.specs.Consistency.{IsConsistent, IsAccepted}
use Rattle.office_map.specs.NeighbourLaws.{neighbours_apart}
use Rattle.office_journal.specs.declared.event.Event as office
use Rattle.office_journal.specs.declared.event.Event.TheVariants as event
use Rattle.office_journal.specs.declared.event.Entry.{Entry}
use Rattle.office_journal.specs.declared.rule.Rule.{Rule}
use Rattle.office_journal.specs.declared.reply.Reply.{Reply}
use Rattle.office_journal.specs.declared.reply.Reply.TheVariants as reply
use Rattle.office_journal.specs.declared.reply.Refusal.TheVariants as refused
use Rattle.window_link.specs.Links.{LinkState, frame_of, ack_frame_of}
use Rattle.site_core.specs.declared.agendas.session.Session.{Session}
use Rattle.site_core.specs.Limits.{most_entries}
use Rattle.site_core.specs.agendas.Agenda.{Current, Idle, Gathering, Working, unfinished, unfinished_current}
use Rattle.site_core.specs.Offices.{Office, frame_on, framed, answer}
use Rattle.site_core.specs.Offices as site
use Rattle.site_core.specs.Journals.{Site, office_of, noted, recorded, step}
use Rattle.site_core.specs.JournalLaws.{office_empty}
use Rattle.site_core.specs.RuleOrder.{next_rule}
use Rattle.frame_world.specs.declared.event.WorldEvent.{WorldEvent}
use Rattle.frame_world.specs.declared.event.WorldEvent.TheVariants as happening
use Rattle.frame_world.specs.declared.refusal.WorldRefusal.{WorldRefusal}
use Rattle.frame_world.specs.declared.refusal.WorldRefusal.TheVariants as refusal
use Rattle.frame_world.specs.declared.next_step.NextStep.{NextStep}
use Rattle.frame_world.specs.declared.next_step.NextStep.TheVariants as next
use Rattle.frame_world.specs.Worlds.{World, Answer, opening, silent, site_at, office_at, frame_at, told, handed, delivered, happens, run_of, replies_of, AreAccepted}
use Rattle.frame_world.specs.WorldStates.{IsSeated, State}
use Rattle.frame_world.specs.WorldLaws.{seated, state_opening}
use Rattle.frame_world.specs.Headline.{Always, IsReached}
use Rattle.frame_world.specs.Standstill.{next_step, place_of, AllAreFinished, HasRoom, IsStep, MayDo, IsNextMessage, IsSentAndTaken, NeverStuck, RulesAreDone, MessagesAreTaken}
use Rattle.frame_world.specs.WorkLeft.{work_left, office_work, session_work, current_work}
use Rattle.frame_world.specs.Termination.{steps_in, RunsEnd, EveryRunEnds}
use Rattle.frame_world.proofs.Following.{follows}
use Rattle.simulation.specs.declared.scripts.said.Said.TheVariants.{Replied, Rules, Settled, Open}
use Rattle.simulation.specs.scripts.Script.{Act}
use Rattle.simulation.specs.scripts.Script as scripts
use Rattle.simulation.specs.scripts.Runs.{Told, advanced, stepped, settled, does}
use Rattle.simulation.specs.scripts.Runs as runs
use Rattle.simulation.specs.scripts.Settling.{events_of, IsRefused, Lead, Ends, Settles, WorldsSettleByTheirNextSteps}
use Rattle.simulation.specs.scripts.Termination.{IsFinishedWithin, IsAtItsEnd, AreEnough, SettleEnds, SettleFinishes, EndsWhereItSettles, EachSettleEnds, ScriptsSettleToTheirEnds}
use Rattle.simulation.proofs.scripts_lemmas.Settling.{next_if_finished}

-- the entries of an office, and of all
abbrev entries_at : World → ℕ → ℕ
entries_at w a = length (site_at w a).entries

abbrev entries_in : World → ℕ
entries_in w = sum_by (λ (s : Site). length s.entries) w.sites

-- ---- what an event leaves of the journals

-- one entry more at one office, whose journal had room
record Grows (w v : World) (a : ℕ) : Type 0 where
  room : HasRoom w a
  here : entries_at v a ≡ suc (entries_at w a)
  others : (x : ℕ) → x ≢ a → entries_at v x ≡ entries_at w x
  together : entries_in v ≡ suc (entries_in w)

-- or the world as it was, where the event isn't accepted
abbrev Leaves : World → ℕ → Answer → Type 0
Leaves w a x = ((x.1 ≡ w) × (IsOk x.0 → ⊥)) ⊎ Grows w x.1 a

length_one : (xs : List Entry) (x : Entry) → length (xs ++ x ∷ []) ≡ suc (length xs)
length_one [] x = refl
length_one (y ∷ ys) x = ap suc (length_one ys x)

not_accepted : (w : World) (a : ℕ) (r : WorldRefusal) → Leaves w a (Err r, w)
not_accepted w a r = inl (refl, λ h. absurd (let clash : ◌≡◌ {A = Bool} false true = h in cc))

is_noted : (w : World) (a : ℕ) (e : office.Event) (r : Reply) → a < length w.sites → HasRoom w a → Grows w (told w a e (Ok r, noted (site_at w a) 0 e r)).1 a
is_noted w a e r inside room = record {
  room = room;
  here = ap (λ (s : Site). length s.entries) (get_or-set_same w.sites a new (silent w.plan a) inside) ∙ longer;
  others = λ x apart. ap (λ (s : Site). length s.entries) (get_or-set_other w.sites a x new (silent w.plan x) apart);
  together = omega (arith, sum_by-set (λ (s : Site). length s.entries) w.sites a new (silent w.plan a) inside, longer);
}
  where
    new : Site
    new = noted (site_at w a) 0 e r

    longer : length new.entries ≡ suc (entries_at w a)
    longer = length_one (site_at w a).entries (record { tag = 0; event = e; reply = r })

handed_leaves : (w : World) (a : ℕ) (e : office.Event) → Leaves w a (handed w a e)
handed_leaves w a e = by_place (nat_lt a (length w.sites)) refl
  where
    s : Site
    s = site_at w a

    by_room : (r : Reply) → nat_lt a (length w.sites) ≡ true → (full : Bool) → nat_le most_entries (length s.entries) ≡ full → Leaves w a (told w a e (cond full (Err refused.JournalFull, s) (Ok r, noted s 0 e r)))
    by_room r inside true is = not_accepted w a (refusal.Office refused.JournalFull)
    by_room r inside false is = inr (is_noted w a e r (ltb-true a (length w.sites) inside) (leb-false most_entries (length s.entries) is))

    by_answer : (x : site.Answer) → nat_lt a (length w.sites) ≡ true → Leaves w a (told w a e (recorded s 0 e x))
    by_answer (Ok x) inside = by_room x.0 inside (nat_le most_entries (length s.entries)) refl
    by_answer (Err r) inside = not_accepted w a (refusal.Office r)

    by_place : (b : Bool) → nat_lt a (length w.sites) ≡ b → Leaves w a (cond b (told w a e (step s 0 e)) (Err refusal.NoOffice, w))
    by_place true inside = by_answer (answer s.plan s.me (office_of s) e) inside
    by_place false inside = not_accepted w a refusal.NoOffice

happens_leaves : (w : World) (e : WorldEvent) → (a : ℕ) × Leaves w a (happens w e)
happens_leaves w (happening.Submit a p) = (a, handed_leaves w a (event.Submit p))
happens_leaves w (happening.Withdraw a t) = (a, handed_leaves w a (event.Withdraw t))
happens_leaves w (happening.Do a r) = (a, handed_leaves w a (event.Do r))
happens_leaves w (happening.Send a v i) = (a, handed_leaves w a (event.Send v i))
happens_leaves w (happening.Deliver k) = of (frame_at w k)
  where
    of : (f : Option Fields) → (a : ℕ) × Leaves w a (delivered w f)
    of None = (0, not_accepted w 0 refusal.NoFrame)
    of (Some f) = (f.to, handed_leaves w f.to (event.Took f))

-- journals only grow
grown : (w : World) (a : ℕ) (y : Answer) → Leaves w a y → (x : ℕ) → entries_at w x ≤ entries_at y.1 x
grown w a y (inl same) x = omega (arith, ap (λ v. entries_at v x) same.0)
grown w a y (inr g) x = ⊎_elim
    (λ is. omega (arith, g.here, ap (entries_at w) is, ap (entries_at y.1) is))
    (λ apart. omega (arith, g.others x apart))
    (cases_eq x a)

grows : (w : World) (e : WorldEvent) (x : ℕ) → entries_at w x ≤ entries_at (happens w e).1 x
grows w e x = let l = happens_leaves w e in grown w l.0 (happens w e) l.1 x

-- and by what was done before an event is refused
refused_grows : (w : World) (es : List WorldEvent) (r : WorldRefusal) (v : World) → IsRefused w es r v → (x : ℕ) → entries_at w x ≤ entries_at v x
refused_grows w [] r v h x = absurd h
refused_grows w (e ∷ es) r v (inl is) x = omega (arith, grows w e x, ap (λ (y : Answer). entries_at y.1 x) is)
refused_grows w (e ∷ es) r v (inr h) x = omega (arith, grows w e x, refused_grows (happens w e).1 es r v h.1 x)

-- ---- no journal is longer than it may be

abbrev AreFew : World → Type 0
AreFew w = (x : ℕ) → entries_at w x ≤ most_entries

few_left : (w : World) (a : ℕ) (y : Answer) → Leaves w a y → AreFew w → AreFew y.1
few_left w a y (inl same) few x = omega (arith, few x, ap (λ v. entries_at v x) same.0)
few_left w a y (inr g) few x = ⊎_elim
    (λ is. omega (arith, g.here, g.room, ap (entries_at y.1) is))
    (λ apart. omega (arith, few x, g.others x apart))
    (cases_eq x a)

few_after : (w : World) (es : List WorldEvent) → AreFew w → AreFew (run_of w es)
few_after w [] few = few
few_after w (e ∷ es) few = let l = happens_leaves w e in few_after (happens w e).1 es (few_left w l.0 (happens w e) l.1 few)

few_first : (plan : PlanValue) → AreFew (opening plan)
few_first plan x = omega (arith, ap (λ (s : State). length (s.journal x)) (state_opening plan))

few_together : (xs : List Site) (d : ℕ → Site) → ((i : ℕ) → length (get_or xs i (d i)).entries ≤ 1000000) → sum_by (λ (s : Site). length s.entries) xs ≤ 1000000 * length xs
few_together [] d h = omega arith
few_together (x ∷ xs) d h =
    omega (
      arith,
      sum_by-cons (λ (s : Site). length s.entries) x xs,
      h 0,
      few_together xs (λ i. d (suc i)) (λ i. h (suc i)),
    )

-- ---- worlds that events lead to

abbrev Reached : PlanValue → World → Type 0
Reached plan w = (es : List WorldEvent) × (run_of (opening plan) es ≡ w)

run_append : (w : World) (es fs : List WorldEvent) → run_of (run_of w es) fs ≡ run_of w (es ++ fs)
run_append w [] fs = refl
run_append w (e ∷ es) fs = run_append (happens w e).1 es fs

further : (plan : PlanValue) (w : World) (fs : List WorldEvent) → Reached plan w → Reached plan (run_of w fs)
further plan w fs r = (r.0 ++ fs, sym (run_append (opening plan) r.0 fs) ∙ ap (λ v. run_of v fs) r.1)

record Laws (plan : PlanValue) : Type 0 where
  consistent : IsConsistent plan
  rules : (w : World) → Reached plan w → RulesAreDone w
  messages : (w : World) → Reached plan w → MessagesAreTaken w
  ends : (w : World) → Reached plan w → RunsEnd w
  seats : (w : World) → Reached plan w → IsSeated plan w
  peers : (w : World) → Reached plan w → (a b : ℕ) → ((office_at w a).pairs.link b).peer ≡ b
  few : (w : World) → Reached plan w → AreFew w

-- ---- one step

-- it uses up work, and adds an entry, of which no journal gets two
record Goes (w v : World) : Type 0 where
  used : suc (work_left v) ≤ work_left w
  more : suc (entries_in w) ≤ entries_in v
  few : (x : ℕ) → entries_at v x ≤ suc (entries_at w x)

few_more : (w v : World) (a : ℕ) → Grows w v a → (x : ℕ) → entries_at v x ≤ suc (entries_at w x)
few_more w v a g x = ⊎_elim
    (λ is. omega (arith, g.here, ap (entries_at w) is, ap (entries_at v) is))
    (λ apart. omega (arith, g.others x apart))
    (cases_eq x a)

-- an accepted event adds an entry
accepted_grows : (w : World) (a : ℕ) (y : Answer) → Leaves w a y → IsOk y.0 → Grows w y.1 a
accepted_grows w a y (inl same) ok = absurd (same.1 ok)
accepted_grows w a y (inr g) ok = g

-- the frame that is made goes to whom it is sent
record IsMade (w v : World) (a b : ℕ) : Type 0 where
  frame : Fields
  frames : v.frames ≡ w.frames ++ frame ∷ []
  to : frame.to ≡ ((office_at w a).pairs.link b).peer

peer_of : (l : LinkState) (f g : Fields) → g.to ≡ l.peer → ◌≡◌ {A = Option Fields} (Some g) (Some f) → f.to ≡ l.peer
peer_of l f g to same = ap (λ (o : Option Fields). (unwrap_or o g).to) (sym same) ∙ to

frame_to : (l : LinkState) (i : ℕ) (f : Fields) → frame_on l i ≡ Some f → f.to ≡ l.peer
frame_to l zero f is = peer_of l f (ack_frame_of l) refl is
frame_to l (suc i) f is = by_place (nat_le (suc i) (length l.sending.waiting)) is
  where
    by_place : (b : Bool) → cond b (Some (frame_of l (suc i))) None ≡ Some f → f.to ≡ l.peer
    by_place true same = peer_of l f (frame_of l (suc i)) refl same
    by_place false same = absurd cc

abbrev Made : World → ℕ → ℕ → Answer → Type 0
Made w a b y = IsOk y.0 → IsMade w y.1 a b

is_made : (w : World) (a b i : ℕ) → IsOk (happens w (happening.Send a b i)).0 → IsMade w (happens w (happening.Send a b i)).1 a b
is_made w a b i = by_place (nat_lt a (length w.sites))
  where
    s : Site
    s = site_at w a

    none : (r : WorldRefusal) (v : World) → Made w a b (Err r, v)
    none r v ok = absurd (let clash : ◌≡◌ {A = Bool} false true = ok in cc)

    by_room : (f : Fields) → f.to ≡ ((office_at w a).pairs.link b).peer → (full : Bool) → Made w a b (told w a (event.Send b i) (cond full (Err refused.JournalFull, s) (Ok (reply.Frame f), noted s 0 (event.Send b i) (reply.Frame f))))
    by_room f to true = none (refusal.Office refused.JournalFull) w
    by_room f to false = λ ok. record { frame = f; frames = refl; to = to }

    by_frame : (o : Option Fields) → ((f : Fields) → o ≡ Some f → f.to ≡ ((office_at w a).pairs.link b).peer) → Made w a b (told w a (event.Send b i) (recorded s 0 (event.Send b i) (framed (office_of s) o)))
    by_frame None h = none (refusal.Office refused.NotNow) w
    by_frame (Some f) h = by_room f (h f refl) (nat_le most_entries (length s.entries))

    by_near : (near : Bool) → Made w a b (told w a (event.Send b i) (recorded s 0 (event.Send b i) (cond near (framed (office_of s) (frame_on ((office_of s).pairs.link b) i)) (Err refused.NotNow))))
    by_near true = by_frame (frame_on ((office_of s).pairs.link b) i) (frame_to ((office_of s).pairs.link b) i)
    by_near false = none (refusal.Office refused.NotNow) w

    by_place : (inside : Bool) → Made w a b (cond inside (told w a (event.Send b i) (step s 0 (event.Send b i))) (Err refusal.NoOffice, w))
    by_place true = by_near (are_neighbours s.plan s.me b)
    by_place false = none refusal.NoOffice w

last_of : (xs : List Fields) (f : Fields) → slice_get (xs ++ f ∷ []) (length xs) ≡ Some f
last_of [] f = refl
last_of (x ∷ xs) f = last_of xs f

module _ (plan : PlanValue) (laws : Laws plan) (w : World) (reached : Reached plan w) where
  rule_goes : (a : ℕ) (r : Rule) → MayDo w a r → AreAccepted w (events_of w (next.Rule a r)) → Goes w (run_of w (events_of w (next.Rule a r)))
  rule_goes a r may ok =
      let e : WorldEvent = happening.Do a r in
      let g : Grows w (happens w e).1 a = accepted_grows w a (happens w e) (handed_leaves w a (event.Do r)) ok.0 in
      let one : steps_in (replies_of w (e ∷ [])) ≡ 1 = ap (λ x. steps_in (x ∷ [])) (laws.rules w reached a r may g.room) in
      record {
        used = omega (arith, laws.ends w reached (e ∷ []), one);
        more = omega (arith, g.together);
        few = few_more w (happens w e).1 a g;
      }

  module _ (a b number : ℕ) (m : IsNextMessage w a b number) (ok : AreAccepted w (events_of w (next.Message a b number))) where
    abbrev sending : WorldEvent
    sending = happening.Send a b (place_of w a b number)

    abbrev coming : WorldEvent
    coming = happening.Deliver (suc (length w.frames))

    abbrev mid : World
    mid = (happens w sending).1

    abbrev end : World
    end = (happens mid coming).1

    sends : Grows w mid a
    sends = accepted_grows w a (happens w sending) (handed_leaves w a (event.Send b (place_of w a b number))) ok.0

    made : IsMade w mid a b
    made = is_made w a b (place_of w a b number) ok.0

    goes_to : made.frame.to ≡ b
    goes_to = made.to ∙ laws.peers w reached a b

    comes : happens mid coming ≡ handed mid b (event.Took made.frame)
    comes = ap (λ fs. delivered mid (slice_get fs (length w.frames))) made.frames ∙ ap (delivered mid) (last_of w.frames made.frame) ∙ ap (λ x. handed mid x (event.Took made.frame)) goes_to

    takes : Grows mid end b
    takes = accepted_grows mid b (happens mid coming) (subst (Leaves mid b) (sym comes) (handed_leaves mid b (event.Took made.frame))) ok.1.0

    apart : b ≢ a
    apart same = neighbours_apart plan a b laws.consistent (ap (λ p. are_neighbours p a b) (sym (laws.seats w reached).planned) ∙ m.near) (sym same)

    room_there : HasRoom w b
    room_there = omega (arith, takes.room, sends.others b apart)

    taken : IsSentAndTaken w a b number
    taken = laws.messages w reached a b number m sends.room room_there

    one : steps_in (replies_of w (events_of w (next.Message a b number))) ≡ 1
    one = ap₂ (λ x y. steps_in (x ∷ y ∷ [])) taken.sent taken.taken

    few_there : (x : ℕ) → entries_at end x ≤ suc (entries_at w x)
    few_there x = ⊎_elim
        (λ is. omega (arith, ap (entries_at end) is, ap (entries_at w) is, takes.here, sends.others b apart))
        (λ not_b. omega (arith, takes.others x not_b, few_more w mid a sends x))
        (cases_eq x b)

    message_goes : Goes w (run_of w (events_of w (next.Message a b number)))
    message_goes = record {
      used = omega (arith, laws.ends w reached (events_of w (next.Message a b number)), one);
      more = omega (arith, sends.together, takes.together);
      few = few_there;
    }

  step_goes : (s : NextStep) → IsStep w s → s ≢ next.AllFinished → AreAccepted w (events_of w s) → Goes w (run_of w (events_of w s))
  step_goes (next.Rule a r) may done ok = rule_goes a r may ok
  step_goes (next.Message a b number) m done ok = message_goes a b number m ok
  step_goes next.AllFinished h done ok = absurd (done refl)

-- ---- all steps

-- so many steps
record GoesOn (plan : PlanValue) (w v : World) (n : ℕ) : Type 0 where
  reached : Reached plan v
  used : n + work_left v ≤ work_left w
  more : n + entries_in w ≤ entries_in v
  few : (x : ℕ) → entries_at v x ≤ n + entries_at w x

one_more : (plan : PlanValue) (w u v : World) (n : ℕ) → Goes w u → GoesOn plan u v n → GoesOn plan w v (suc n)
one_more plan w u v n g rest = record {
  reached = rest.reached;
  used = omega (arith, g.used, rest.used);
  more = omega (arith, g.more, rest.more);
  few = λ x. omega (arith, g.few x, rest.few x);
}

goes_on : (plan : PlanValue) (laws : Laws plan) (w v : World) (steps : List NextStep) → ((u : World) → Reached plan u → IsStep u (next_step u)) → Reached plan w → Lead w steps v → GoesOn plan w v (length steps)
goes_on plan laws w v [] stuck reached is = record {
  reached = subst (Reached plan) (sym is) reached;
  used = omega (arith, ap work_left is);
  more = omega (arith, ap entries_in is);
  few = λ x. omega (arith, ap (λ u. entries_at u x) is);
}
goes_on plan laws w v (s ∷ steps) stuck reached (is, done, ok, lead) =
    let u : World = run_of w (events_of w s) in
    one_more plan w u v (length steps) (step_goes plan laws w reached s (subst (IsStep w) is (stuck w reached)) done ok)
    (goes_on plan laws u v steps stuck (further plan w (events_of w s) reached) lead)

-- ---- no work is left where all are finished

waiting : (plan : PlanValue) (a : ℕ) (q : List Session) → length q ≤ sum_by (λ (s : Session). session_work plan a s.program) q
waiting plan a [] = omega arith
waiting plan a (s ∷ q) = omega (arith, sum_by-cons (λ (x : Session). session_work plan a x.program) s q, waiting plan a q)

current : (plan : PlanValue) (a : ℕ) (c : Current) → unfinished_current c ≤ current_work plan a c
current plan a Idle = omega arith
current plan a (Gathering s) = omega arith
current plan a (Working s reads done) = omega arith

unfinished_is_work : (plan : PlanValue) (a : ℕ) (o : Office) → unfinished o.agenda ≤ office_work plan a o
unfinished_is_work plan a o = omega (arith, waiting plan a o.agenda.queue, current plan a o.agenda.current)

office_is_work : (w : World) (a : ℕ) → a < length w.plan.offices → office_work w.plan a (office_at w a) ≤ work_left w
office_is_work w a lt =
    let n = length w.plan.offices in
    let f : ℕ → ℕ = λ x. office_work w.plan x (office_at w x) in
    let one : f (get_or (range_with_len 0 n) a 0) ≤ sum_by f (range_with_len 0 n) = get_or-le-sum_by f (range_with_len 0 n) a 0 (omega (arith, lt, length-range_with_len 0 n)) in
    let same : get_or (range_with_len 0 n) a 0 ≡ a = get_or-range_with_len 0 n a 0 lt ∙ omega arith in
    omega (arith, one, ap f same)

all_are_finished : (plan : PlanValue) (w : World) → IsSeated plan w → work_left w ≡ 0 → AllAreFinished w
all_are_finished plan w seat none a = ⊎_elim
    (λ lt. omega (arith, none, unfinished_is_work w.plan a (office_at w a), office_is_work w a lt))
    (λ past.
    ap (λ x. unfinished (office_of x).agenda) (get_or_past w.sites a (silent w.plan a) (omega (arith, past, seat.size, ap (λ (p : PlanValue). length p.offices) seat.planned)))
    ∙ ap (λ (o : Office). unfinished o.agenda) (office_empty w.plan a))
    (cases_lt a (length w.plan.offices))

-- where a step is refused some is left
work_is_left : (plan : PlanValue) (w : World) (r : WorldRefusal) (v : World) → IsSeated plan w → IsRefused w (events_of w (next_step w)) r v → (n : ℕ) → work_left w ≡ n → 0 < n
work_is_left plan w r v seat h zero is = absurd (subst (λ s. IsRefused w (events_of w s) r v) (next_if_finished w (all_are_finished plan w seat is)) h)
work_is_left plan w r v seat h (suc n) is = omega arith

-- ---- how it ends

ends_so : (bound most n : ℕ) (w : World) (t : Told) → n ≤ bound → (n ≡ most → ⊥) → Ends most n w t → IsAtItsEnd bound t
ends_so bound most n w (Ok (Settled k), v) few never (same, count, within, all) = (omega (arith, few, count), subst AllAreFinished (sym same) all)
ends_so bound most n w (Ok (Open k), v) few never (same, count, full, some) = never (sym count ∙ full)
ends_so bound most n w (Ok (Replied r), v) few never h = h
ends_so bound most n w (Ok (Rules k), v) few never h = h
ends_so bound most n w (Err r, v) few never (less, is, full) = λ room. full (λ a. omega (arith, room a, refused_grows w (events_of w (next_step w)) r v is a))

-- and in the first way where no step can be refused
finishes_so : (bound most n : ℕ) (w : World) (t : Told) → n ≤ bound → (n ≡ most → ⊥) → ((r : WorldRefusal) (v : World) → IsRefused w (events_of w (next_step w)) r v → (a : ℕ) → HasRoom w a) → Ends most n w t → IsFinishedWithin bound t
finishes_so bound most n w (Ok (Settled k), v) few never room (same, count, within, all) = (omega (arith, few, count), subst AllAreFinished (sym same) all)
finishes_so bound most n w (Ok (Open k), v) few never room (same, count, full, some) = never (sym count ∙ full)
finishes_so bound most n w (Ok (Replied r), v) few never room h = h
finishes_so bound most n w (Ok (Rules k), v) few never room h = h
finishes_so bound most n w (Err r, v) few never room (less, is, full) = full (room r v is)

module _ (stuck : NeverStuck) (rules : Always RulesAreDone) (messages : Always MessagesAreTaken) (ends : EveryRunEnds) (settling : WorldsSettleByTheirNextSteps) (w : World) (most : ℕ) (reached : IsReached w) (plan : IsAccepted w.plan) where
  laws : Laws w.plan
  laws = record {
    consistent = plan.consistent;
    rules = λ v r. subst RulesAreDone r.1 (rules w.plan r.0 plan.consistent);
    messages = λ v r. subst MessagesAreTaken r.1 (messages w.plan r.0 plan.consistent);
    ends = λ v r. subst RunsEnd r.1 (ends w.plan r.0 plan.consistent);
    seats = λ v r. subst (IsSeated w.plan) r.1 (seated w.plan r.0);
    peers = λ v r. subst (λ u. (a b : ℕ) → ((office_at u a).pairs.link b).peer ≡ b) r.1 ((follows w.plan r.0).linked.peer);
    few = λ v r. subst AreFew r.1 (few_after (opening w.plan) r.0 (few_first w.plan));
  }

  settles : Settles w most (does w (scripts.Settles most))
  settles = settling w most reached plan

  abbrev last : World
  last = settles.world

  abbrev n : ℕ
  n = length settles.steps

  went : GoesOn w.plan w last n
  went = goes_on w.plan laws w last settles.steps (λ v r. subst (λ u. IsStep u (next_step u)) r.1 (stuck w.plan r.0 plan)) (reached.events, reached.leads) settles.lead

  -- all journals together have no more entries than these
  together : entries_in last ≤ 16000000
  together =
      omega (
        arith,
        few_together last.sites (silent last.plan) (laws.few last went.reached),
        (laws.seats last went.reached).size,
        plan.consistent.offices_fit,
      )

  not_all : AreEnough w most → n ≡ most → ⊥
  not_all (inl less) all = absurd (omega (arith, all, less, went.used))
  not_all (inr much) all = let many : 16000001 ≤ most = much in absurd (omega (arith, all, many, together, went.more))

  ended : AreEnough w most → IsAtItsEnd (work_left w) (does w (scripts.Settles most))
  ended enough = ends_so (work_left w) most n last (does w (scripts.Settles most)) (omega (arith, went.used)) (not_all enough) settles.ends

  finished : AreEnough w most → ((a : ℕ) → length (site_at w a).entries + work_left w ≤ most_entries) → IsFinishedWithin (work_left w) (does w (scripts.Settles most))
  finished enough room =
      finishes_so (work_left w) most n last (does w (scripts.Settles most)) (omega (arith, went.used)) (not_all enough)
      (λ r v is a. omega (arith, room a, went.few a, went.used, work_is_left w.plan last r v (laws.seats last went.reached) is (work_left last) refl)) settles.ends

pub settle_ends : NeverStuck → Always RulesAreDone → Always MessagesAreTaken → EveryRunEnds → WorldsSettleByTheirNextSteps → SettleEnds
settle_ends stuck rules messages ends settling w most reached plan enough = ended stuck rules messages ends settling w most reached plan enough

pub settle_finishes : NeverStuck → Always RulesAreDone → Always MessagesAreTaken → EveryRunEnds → WorldsSettleByTheirNextSteps → SettleFinishes
settle_finishes stuck rules messages ends settling w most reached plan enough room = finished stuck rules messages ends settling w most reached plan enough room

-- ---- scripts

module _ (plan : PlanValue) where
  reached_by : (w : World) (e : WorldEvent) → Reached plan w → Reached plan (happens w e).1
  reached_by w e r = further plan w (e ∷ []) r

  -- each of these leads on by events
  ruled : (on : World → Told) → ((v : World) → Reached plan v → Reached plan (on v).1) → (x : Answer) → Reached plan x.1 → Reached plan (runs.further on x).1
  ruled on h (Ok r, v) reached = h v reached
  ruled on h (Err r, v) reached = reached

  advanced_leads : (w : World) (a done left : ℕ) → Reached plan w → Reached plan (advanced w a done left).1
  advanced_leads w a done zero reached = reached
  advanced_leads w a done (suc left) reached = by_rule (next_rule w.plan a (office_at w a)) (λ v. advanced_leads v a (done + 1) left)
    where
      by_rule : (o : Option Rule) → ((v : World) → Reached plan v → Reached plan (advanced v a (done + 1) left).1) → Reached plan (runs.by_rule (λ v. advanced v a (done + 1) left) w a done o).1
      by_rule None h = reached
      by_rule (Some r) h = ruled (λ v. advanced v a (done + 1) left) h (happens w (happening.Do a r)) (reached_by w (happening.Do a r) reached)

  delivered_leads : (x : Answer) → Reached plan x.1 → Reached plan (runs.delivered x).1
  delivered_leads (Ok r, v) reached = reached_by v (happening.Deliver (length v.frames)) reached
  delivered_leads (Err r, v) reached = reached

  settled_leads : (w : World) (done left : ℕ) → Reached plan w → Reached plan (settled w done left).1
  settled_leads w done zero reached = reached
  settled_leads w done (suc left) reached = by_step (next_step w) (λ v. settled_leads v (done + 1) left)
    where
      by_step : (s : NextStep) → ((v : World) → Reached plan v → Reached plan (settled v (done + 1) left).1) → Reached plan (runs.by_step (λ v. settled v (done + 1) left) w done (stepped w s)).1
      by_step (next.Rule a r) h = ruled (λ v. settled v (done + 1) left) h (happens w (happening.Do a r)) (reached_by w (happening.Do a r) reached)
      by_step (next.Message a b number) h =
          let sent : Answer = happens w (happening.Send a b (place_of w a b number)) in
          ruled (λ v. settled v (done + 1) left) h (runs.delivered sent) (delivered_leads sent (reached_by w (happening.Send a b (place_of w a b number)) reached))
      by_step next.AllFinished h = reached

  act_leads : (w : World) (x : Act) → Reached plan w → Reached plan (does w x).1
  act_leads w (scripts.Happens e) reached = reached_by w e reached
  act_leads w (scripts.Settles most) reached = settled_leads w 0 most reached
  act_leads w (scripts.Advances a most) reached = by_place (nat_lt a (length w.plan.offices))
    where
      by_place : (b : Bool) → Reached plan (cond {A = Told} b (advanced w a 0 most) (Err refusal.NoOffice, w)).1
      by_place true = advanced_leads w a 0 most reached
      by_place false = reached

  each_ends : SettleEnds → IsAccepted plan → (w : World) (acts : List Act) → Reached plan w → EachSettleEnds w acts
  each_ends ends accepted w [] reached = tt
  each_ends ends accepted w (x ∷ xs) reached = (here x, each_ends ends accepted (does w x).1 xs (act_leads w x reached))
    where
      planned : w.plan ≡ plan
      planned = ap (λ (u : World). u.plan) (sym reached.1) ∙ (seated plan reached.0).planned

      here : (y : Act) → EndsWhereItSettles w y
      here (scripts.Happens e) = tt
      here (scripts.Advances a n) = tt
      here (scripts.Settles most) = ends w most (record { events = reached.0; leads = ap (λ p. run_of (opening p) reached.0) planned ∙ reached.1 }) (subst IsAccepted (sym planned) accepted)

pub scripts_settle_to_their_ends : SettleEnds → ScriptsSettleToTheirEnds
scripts_settle_to_their_ends ends plan acts accepted = each_ends plan ends accepted (opening plan) acts ([], refl)
