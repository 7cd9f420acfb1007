-- No more sessions have finished than were submitted, so those that are left are counted exactly.
use Rattle.std.proofs.Common.{◌≡◌, ℕ, zero, suc, ◌==◌, ◌+◌, ◌-◌, ◌<◌, ◌≤◌, Bool, true, false, cond, List, [], ◌∷◌, ◌++◌, length, get_or, drop, map, Option, None, Some, Ok, Err, refl, ap, subst, ◌∙◌, arith, length-append, ne_eqb, eqb-true}
use Rattle.std.specs.Prelude.{All}
use Rattle.std.specs.List.{range_with_len}
use Rattle.std.proofs.lemmas.List.{length-map}
use Rattle.std.proofs.lemmas.List.Elements.{All-head, All-tail}
use Rattle.office_map.specs.PlanValue.{PlanValue, are_neighbours}
use Rattle.session_meaning.specs.ProgramValue.{ProgramValue}
use Rattle.session_meaning.specs.declared.ending.Outcome.{Outcome}
use Rattle.token_channel.specs.declared.fault.ChannelFault.{ChannelFault}
use Rattle.frame_codec.specs.Frame.{Fields}
use Rattle.own_lock.specs.Entries.{tagged}
use Rattle.office_journal.specs.declared.rule.Rule.{Rule}
use Rattle.office_journal.specs.declared.rule.Rule.TheVariants as rule
use Rattle.office_journal.specs.declared.event.Event.{Event}
use Rattle.office_journal.specs.declared.event.Event.TheVariants.{Submit, Do, Send, Took, Withdraw}
use Rattle.office_journal.specs.declared.event.Entry.{Entry}
use Rattle.office_journal.specs.declared.reply.Reply.TheVariants as reply
use Rattle.office_journal.specs.declared.reply.Refusal.TheVariants as refusal
use Rattle.site_core.specs.declared.agendas.session.Session.{Session}
use Rattle.site_core.specs.Pairs.{frame_fault}
use Rattle.site_core.specs.Agenda.{Agenda, is_full, submitted, started}
use Rattle.site_core.specs.Offices.{Office, may, act, withdrawn, is_ours, framed, frame_on, unless_faulty, opened}
use Rattle.site_core.specs.Journals.{Site, next_or, after, run_of, office_of}
use Rattle.site_core.specs.Tickets.{Rise, SessionsGoInOrder, current_tickets}
use Rattle.site_core.specs.WithdrawalLaws.{either_withdrawn, after_withdrawal}
use Rattle.locked_office.specs.Calls.{Key, tag_of}
use Rattle.office_stations.specs.Rounds.{of_office}
use Rattle.office_stations.specs.Sessions.{finished_of}
use Rattle.office_runs.specs.Runs.{all_finished, key_of}
use Rattle.office_runs.specs.Threads.{IsNoSubmit, IsWrittenBy}

-- ---- tickets

-- 1 where a session is submitted
abbrev submits_of : Event → ℕ
submits_of (Submit p) = 1
submits_of (Do r) = 0
submits_of (Send v i) = 0
submits_of (Took f) = 0
submits_of (Withdraw t) = 0

abbrev submits_in : List Entry → ℕ
submits_in [] = 0
submits_in (x ∷ xs) = submits_of x.event + submits_in xs

by_submit : (plan : PlanValue) (me : ℕ) (o : Office) (p : ProgramValue) → (after plan me o (Submit p)).agenda.tickets ≤ o.agenda.tickets + 1
by_submit plan me o p = go (is_ours plan me p) (is_full o.agenda)
  where
    go : (a b : Bool) → (next_or o (cond a (cond b (Err refusal.QueueFull) (Ok (reply.Ticket (o.agenda.tickets + 1), record { pairs = o.pairs; agenda = submitted o.agenda p }))) (Err refusal.NotOurs))).agenda.tickets ≤ o.agenda.tickets + 1
    go true true = omega arith
    go true false = omega arith
    go false b = omega arith

by_rule : (me : ℕ) (o : Office) (r : Rule) → (act me o r).agenda.tickets ≡ o.agenda.tickets
by_rule me o rule.Start = go o.agenda.queue
  where
    go : (queue : List Session) → (started o.agenda queue).tickets ≡ o.agenda.tickets
    go [] = refl
    go (s ∷ rest) = refl
by_rule me o rule.Hungry = refl
by_rule me o (rule.AskFork v) = refl
by_rule me o (rule.GiveFork v) = refl
by_rule me o rule.Eat = refl
by_rule me o rule.Leave = refl
by_rule me o (rule.AskBottle r) = refl
by_rule me o (rule.GiveBottle r) = refl
by_rule me o rule.Drink = refl
by_rule me o (rule.Work n) = refl
by_rule me o rule.Finish = refl

by_withdrawal : (o : Office) (t : ℕ) → (withdrawn o t).agenda.tickets ≡ o.agenda.tickets
by_withdrawal o t = either_withdrawn (λ (x : Office). x.agenda.tickets ≡ o.agenda.tickets) o t (λ h. refl) (λ h. refl)

-- an event gives a ticket only where it submits a session
by_event : (plan : PlanValue) (me : ℕ) (o : Office) (e : Event) → (after plan me o e).agenda.tickets ≤ o.agenda.tickets + submits_of e
by_event plan me o (Submit p) = by_submit plan me o p
by_event plan me o (Do r) = go (may plan me o r)
  where
    go : (b : Bool) → (next_or o (cond b (Ok (reply.Done, act me o r)) (Err refusal.NotNow))).agenda.tickets ≤ o.agenda.tickets + 0
    go true = omega (arith, by_rule me o r)
    go false = omega arith
by_event plan me o (Send v i) = go (are_neighbours plan me v)
  where
    made : (f : Option Fields) → (next_or o (framed o f)).agenda.tickets ≤ o.agenda.tickets + 0
    made None = omega arith
    made (Some f) = omega arith

    go : (b : Bool) → (next_or o (cond b (framed o (frame_on (o.pairs.link v) i)) (Err refusal.NotNow))).agenda.tickets ≤ o.agenda.tickets + 0
    go true = made (frame_on (o.pairs.link v) i)
    go false = omega arith
by_event plan me o (Took f) = go (frame_fault plan me o.pairs f)
  where
    go : (x : Option ChannelFault) → (next_or o (unless_faulty plan me o f x)).agenda.tickets ≤ o.agenda.tickets + 0
    go None = omega arith
    go (Some x) = omega arith
by_event plan me o (Withdraw t) = after_withdrawal (λ (x : Office). x.agenda.tickets ≤ o.agenda.tickets + 0) o t (omega arith) (omega (arith, by_withdrawal o t))

by_run : (plan : PlanValue) (me : ℕ) (o : Office) (es : List Entry) → (run_of plan me o es).agenda.tickets ≤ o.agenda.tickets + submits_in es
by_run plan me o [] = omega arith
by_run plan me o (x ∷ xs) = omega (arith, by_event plan me o x.event, by_run plan me (after plan me o x.event) xs)

tickets_of : (s : Site) → (office_of s).agenda.tickets ≤ submits_in s.entries
unfolding office_of
tickets_of s = omega (arith, by_run s.plan s.me (opened s.plan s.me) s.entries)

as_many : (k : ℕ) (ts : List ℕ) (n : ℕ) → Rise k ts n → k + length ts ≤ n
as_many k [] n h = omega (arith, h)
as_many k (t ∷ ts) n h = omega (arith, h.0, as_many t ts n h.1)

few_finished : SessionsGoInOrder → (s : Site) → length (finished_of s) ≤ submits_in s.entries
few_finished law s =
    let a : Agenda = (office_of s).agenda in
    let done : List ℕ = map (λ (o : Outcome). o.ticket) a.outcomes in
    let others : List ℕ = current_tickets a.current ++ map (λ (x : Session). x.ticket) a.queue in
    omega (arith, as_many 0 (done ++ others) a.tickets (law s), length-append done others, length-map a.outcomes (λ (o : Outcome). o.ticket), tickets_of s)

-- ---- sessions that were submitted

once : (e : Event) → submits_of e ≤ 1
once (Submit p) = omega arith
once (Do r) = omega arith
once (Send v i) = omega arith
once (Took f) = omega arith
once (Withdraw t) = omega arith

never : (e : Event) → ((s : ProgramValue) → e ≡ Submit s → ⊥) → submits_of e ≡ 0
never (Submit p) h = absurd (h p refl)
never (Do r) h = refl
never (Send v i) h = refl
never (Took f) h = refl
never (Withdraw t) h = refl

no_third_tag : (t : ℕ) → (t == 0) ≡ false → (t == 1) ≡ false → t < 2 → ⊥
no_third_tag zero a b lt = cc a
no_third_tag (suc zero) a b lt = cc b
no_third_tag (suc (suc t)) a b lt = omega (arith, lt)

by_tag : (e : Entry) (es : List Entry) (a b : Bool) → (e.tag == 0) ≡ a → (e.tag == 1) ≡ b → e.tag < 2 → (All IsNoSubmit (tagged tag_of 0 es) → submits_in es ≤ length (tagged tag_of 1 es)) → All IsNoSubmit (cond a (e ∷ tagged tag_of 0 es) (tagged tag_of 0 es)) →
    submits_of e.event + submits_in es ≤ length (cond b (e ∷ tagged tag_of 1 es) (tagged tag_of 1 es))
by_tag e es true true is0 is1 lt rest none = omega (arith, once e.event, rest (All-tail IsNoSubmit e (tagged tag_of 0 es) none))
by_tag e es true false is0 is1 lt rest none = omega (arith, never e.event (All-head IsNoSubmit e (tagged tag_of 0 es) none), rest (All-tail IsNoSubmit e (tagged tag_of 0 es) none))
by_tag e es false true is0 is1 lt rest none = omega (arith, once e.event, rest none)
by_tag e es false false is0 is1 lt rest none = absurd (no_third_tag e.tag is0 is1 lt)

few_submits : (es : List Entry) → All (λ (e : Entry). e.tag < 2) es → All IsNoSubmit (tagged tag_of 0 es) → submits_in es ≤ length (tagged tag_of 1 es)
few_submits [] below none = omega arith
few_submits (e ∷ es) below none = by_tag e es (e.tag == 0) (e.tag == 1) refl refl (All-head (λ (x : Entry). x.tag < 2) e es below) (few_submits es (All-tail (λ (x : Entry). x.tag < 2) e es below)) none

few_of_site : SessionsGoInOrder → (sessions : List ProgramValue) (s : Site) → IsWrittenBy sessions s → length (finished_of s) ≤ length sessions
few_of_site law sessions s w =
    let own : List Entry = tagged tag_of 1 s.entries in
    let same : length (map (λ (e : Entry). e.event) own) ≡ length (map Submit w.given) = ap length w.submits in
    let all : length (w.given ++ w.left) ≡ length sessions = ap length w.are in
    omega (arith, few_finished law s, few_submits s.entries w.tags w.turns, length-map own (λ (e : Entry). e.event), length-map w.given Submit, length-append w.given w.left, same, all)

-- ---- sessions of several offices

-- how many are of n offices, from i on
abbrev many : ℕ → ℕ → List ProgramValue → ℕ
many i zero ps = 0
many i (suc n) ps = length (of_office i ps) + many (i + 1) n ps

many_of_none : (i n : ℕ) → many i n [] ≡ 0
many_of_none i zero = refl
many_of_none i (suc n) = omega (arith, many_of_none (i + 1) n)

many_after : (i n : ℕ) (p : ProgramValue) (ps : List ProgramValue) → p.office < i → many i n (p ∷ ps) ≡ many i n ps
many_after i zero p ps lt = refl
many_after i (suc n) p ps lt =
    let other : (p.office == i) ≡ false = ne_eqb p.office i (λ same. absurd (omega (arith, same, lt))) in
    ap (λ b. length (cond b (p ∷ of_office i ps) (of_office i ps)) + many (i + 1) n (p ∷ ps)) other ∙ ap (λ m. length (of_office i ps) + m) (many_after (i + 1) n p ps (omega (arith, lt)))

one_in_many : (i n : ℕ) (p : ProgramValue) (ps : List ProgramValue) (b : Bool) → (p.office == i) ≡ b → many (i + 1) n (p ∷ ps) ≤ many (i + 1) n ps + 1 → length (cond b (p ∷ of_office i ps) (of_office i ps)) + many (i + 1) n (p ∷ ps) ≤ length (of_office i ps) + many (i + 1) n ps + 1
one_in_many i n p ps false is h = omega (arith, h)
one_in_many i n p ps true is h = let same : p.office ≡ i = eqb-true p.office i is in omega (arith, many_after (i + 1) n p ps (omega (arith, same)))

many_with_one : (i n : ℕ) (p : ProgramValue) (ps : List ProgramValue) → many i n (p ∷ ps) ≤ many i n ps + 1
many_with_one i zero p ps = omega arith
many_with_one i (suc n) p ps = one_in_many i n p ps (p.office == i) refl (many_with_one (i + 1) n p ps)

many_of_all : (i n : ℕ) (ps : List ProgramValue) → many i n ps ≤ length ps
many_of_all i n [] = omega (arith, many_of_none i n)
many_of_all i n (p ∷ ps) = omega (arith, many_with_one i n p ps, many_of_all i n ps)

abbrev AllWritten : List ProgramValue → List Site → Type 0
AllWritten programs = All (λ (s : Site). IsWrittenBy (of_office s.me programs) s)

few_of_sites : SessionsGoInOrder → (p : PlanValue) (programs : List ProgramValue) (i n : ℕ) (sites : List Site) → map key_of sites ≡ map (λ (me : ℕ). (p, me)) (range_with_len i n) → AllWritten programs sites → length (all_finished sites) ≤ many i n programs
few_of_sites law p programs i n [] keys all = omega arith
few_of_sites law p programs i zero (s ∷ ss) keys all = absurd (cc keys)
few_of_sites law p programs i (suc n) (s ∷ ss) keys all =
    let first : s.me ≡ i = ap (λ (k : Key). k.1) (ap (λ (l : List Key). get_or l 0 (key_of s)) keys) in
    let others : map key_of ss ≡ map (λ (me : ℕ). (p, me)) (range_with_len (i + 1) n) = ap (drop 1) keys in
    let own : length (finished_of s) ≤ length (of_office s.me programs) = few_of_site law (of_office s.me programs) s (All-head (λ (x : Site). IsWrittenBy (of_office x.me programs) x) s ss all) in
    let here : length (finished_of s) ≤ length (of_office i programs) = subst (λ (me : ℕ). length (finished_of s) ≤ length (of_office me programs)) first own in
    omega (arith, here, length-append (finished_of s) (all_finished ss), few_of_sites law p programs (i + 1) n ss others (All-tail (λ (x : Site). IsWrittenBy (of_office x.me programs) x) s ss all))

-- with those that are left they are all
pub left_exactly : SessionsGoInOrder → (p : PlanValue) (programs : List ProgramValue) (n : ℕ) (sites : List Site) (left : ℕ) → map key_of sites ≡ map (λ (me : ℕ). (p, me)) (range_with_len 0 n) → AllWritten programs sites →
    left ≡ length programs - length (all_finished sites) → left + length (all_finished sites) ≡ length programs
left_exactly law p programs n sites left keys all is = omega (arith, is, few_of_sites law p programs 0 n sites keys all, many_of_all 0 n programs)
