-- What an office knows of its links only grows along its journal.
use Rattle.std.proofs.Common.{◌≡◌, ℕ, ◌+◌, ◌-◌, ◌≤◌, Bool, true, false, cond, List, [], ◌∷◌, ◌++◌, Option, None, Some, Ok, Err, refl, sym, subst, arith, ⊎_elim}
use Rattle.std.proofs.lemmas.Bool.{cases_lt}
use Rattle.std.proofs.lemmas.List.{length-drop, length-append}
use Rattle.bottle_values.specs.MapLaws.{put_cases}
use Rattle.frame_codec.specs.declared.message.Msg.{Msg}
use Rattle.frame_codec.specs.declared.message.Msg.TheVariants as msg
use Rattle.frame_codec.specs.Frame.{Fields}
use Rattle.office_map.specs.PlanValue.{PlanValue, are_neighbours}
use Rattle.window_link.specs.declared.arrival.Arrival.{Arrival}
use Rattle.window_link.specs.declared.arrival.Arrival.TheVariants.{Acked, Fresh, Repeat, Kept, Early}
use Rattle.window_link.specs.Windows.{Sending, Receiving, used, queued, acknowledged, arrival, after_message}
use Rattle.window_link.specs.Links.{LinkState, received_from, after_arrival}
use Rattle.token_channel.specs.declared.fault.ChannelFault.{ChannelFault}
use Rattle.token_channel.specs.Channels.{link_then}
use Rattle.drinking_core.specs.Drinkers as bottles
use Rattle.office_journal.specs.declared.rule.Rule.{Rule}
use Rattle.office_journal.specs.declared.rule.Rule.TheVariants as rule
use Rattle.office_journal.specs.declared.event.Event.{Event}
use Rattle.office_journal.specs.declared.event.Event.TheVariants as event
use Rattle.office_journal.specs.declared.event.Entry.{Entry}
use Rattle.office_journal.specs.declared.reply.Reply.TheVariants as reply
use Rattle.office_journal.specs.declared.reply.Refusal.TheVariants as refusal
use Rattle.site_core.specs.neighbours.Pairs.{Pairs, queued_to, sent, bottle_sends, frame_fault, after_frame, follows, after_kept, after_taking}
use Rattle.site_core.specs.agendas.Agenda.{is_full, submitted}
use Rattle.site_core.specs.Offices.{Office, Answer, may, act, is_ours, framed, frame_on, unless_faulty, opened}
use Rattle.site_core.specs.Journals.{next_or, after, run_of, office_of}
use Rattle.site_core.specs.Growing.{Grows, LinksOnlyGrow}
use Rattle.site_core.specs.neighbours.PairLaws.{through_taking}
use Rattle.site_core.specs.WithdrawalLaws.{either_withdrawn, after_withdrawal}

same : (l : LinkState) → Grows l l
same l = record { acked = omega arith; used = omega arith; taken = omega arith }

both : (a b c : LinkState) → Grows a b → Grows b c → Grows a c
both a b c x y = record { acked = omega (arith, x.acked, y.acked); used = omega (arith, x.used, y.used); taken = omega (arith, x.taken, y.taken) }

-- ---- what is sent

queued_grows : (link : ℕ → LinkState) (x : ℕ) (m : Msg) (v : ℕ) → Grows (link v) (queued_to link x m v)
queued_grows link x m v = put_cases link x new v (Grows (link v)) (λ e. subst (λ k. Grows (link k) new) (sym e) direct) (λ ne. same (link v))
  where
    new : LinkState
    new = record { run = (link x).run; me = (link x).me; peer = (link x).peer; sending = queued (link x).sending m; receiving = (link x).receiving; version = (link x).version }

    direct : Grows (link x) new
    direct = record { acked = omega arith; used = omega (arith, length-append (link x).sending.waiting (m ∷ [])); taken = omega arith }

sent_grows : (link : ℕ → LinkState) (m : Option (ℕ × Msg)) (v : ℕ) → Grows (link v) (sent link m v)
sent_grows link None v = same (link v)
sent_grows link (Some x) v = queued_grows link x.0 x.1 v

rule_grows : (me : ℕ) (o : Office) (r : Rule) (v : ℕ) → Grows (o.pairs.link v) ((act me o r).pairs.link v)
rule_grows me o rule.Start v = same (o.pairs.link v)
rule_grows me o rule.Hungry v = same (o.pairs.link v)
rule_grows me o (rule.AskFork u) v = queued_grows o.pairs.link u msg.AskFork v
rule_grows me o (rule.GiveFork u) v = queued_grows o.pairs.link u msg.Fork v
rule_grows me o rule.Eat v = same (o.pairs.link v)
rule_grows me o rule.Leave v = same (o.pairs.link v)
rule_grows me o (rule.AskBottle r) v = queued_grows o.pairs.link (o.pairs.drinker.peer r) (msg.AskBottle r) v
rule_grows me o (rule.GiveBottle r) v = sent_grows o.pairs.link (bottle_sends o.pairs.drinker (bottles.GiveBottle r o.pairs.diner.held)) v
rule_grows me o rule.Drink v = same (o.pairs.link v)
rule_grows me o (rule.Work n) v = same (o.pairs.link v)
rule_grows me o rule.Finish v = same (o.pairs.link v)

-- ---- what comes

used_acknowledged : (s : Sending) (count : ℕ) → used s ≤ used (acknowledged s count)
used_acknowledged s count =
    let left = length-drop (count - s.acked) s.waiting in
    ⊎_elim (λ lt. omega (arith, left, lt)) (λ ge. omega (arith, left, ge)) (cases_lt s.acked count)

taken_received : (r : Receiving) (number : ℕ) (m : Option Msg) → r.taken ≤ (received_from r number m).taken
taken_received r number None = omega arith
taken_received r number (Some m) = go (arrival r.taken number m)
  where
    go : (a : Arrival) → r.taken ≤ (after_message r number m a).taken
    go (Fresh x) = omega arith
    go Acked = omega arith
    go Repeat = omega arith
    go Kept = omega arith
    go Early = omega arith

frame_grows : (p : Pairs) (f : Fields) (v : ℕ) → Grows (p.link v) ((after_frame p f).link v)
frame_grows p f v = put_cases p.link f.from new v (Grows (p.link v)) (λ e. subst (λ k. Grows (p.link k) new) (sym e) direct) (λ ne. same (p.link v))
  where
    l : LinkState
    l = p.link f.from

    new : LinkState
    new = after_arrival l f

    direct : Grows l new
    direct = record { acked = omega arith; used = used_acknowledged l.sending f.count; taken = taken_received l.receiving f.number f.msg }

-- ---- what was kept

kept_grows : (plan : PlanValue) (me x : ℕ) (p : Pairs) (v : ℕ) → Grows (p.link v) ((after_kept plan me x p).link v)
kept_grows plan me x p v = put_cases p.link x new v (Grows (p.link v)) (λ e. subst (λ k. Grows (p.link k) new) (sym e) (direct (follows plan me x p))) (λ ne. same (p.link v))
  where
    new : LinkState
    new = link_then (p.link x) (follows plan me x p)

    direct : (o : Option Msg) → Grows (p.link x) (link_then (p.link x) o)
    direct None = record { acked = omega arith; used = omega arith; taken = omega arith }
    direct (Some m) = record { acked = omega arith; used = omega arith; taken = omega arith }

taking_grows : (plan : PlanValue) (me : ℕ) (p : Pairs) (f : Fields) (v : ℕ) → Grows (p.link v) ((after_taking plan me p f).link v)
taking_grows plan me p f v =
    through_taking plan me (λ (q : Pairs). Grows (p.link v) (q.link v)) f (λ q g. both (p.link v) (q.link v) ((after_kept plan me f.from q).link v) g (kept_grows plan me f.from q v)) p (frame_grows p f v)

-- ---- events

abbrev Onward : Office → ℕ → Answer → Type 0
Onward o v a = Grows (o.pairs.link v) ((next_or o a).pairs.link v)

event_grows : (plan : PlanValue) (me : ℕ) (o : Office) (e : Event) (v : ℕ) → Grows (o.pairs.link v) ((after plan me o e).pairs.link v)
event_grows plan me o (event.Submit p) v = go (is_ours plan me p) (is_full o.agenda)
  where
    go : (b full : Bool) → Onward o v (cond {A = Answer} b (cond full (Err refusal.QueueFull) (Ok (reply.Ticket (o.agenda.tickets + 1), record { pairs = o.pairs; agenda = submitted o.agenda p }))) (Err refusal.NotOurs))
    go false full = same (o.pairs.link v)
    go true true = same (o.pairs.link v)
    go true false = same (o.pairs.link v)
event_grows plan me o (event.Do r) v = go (may plan me o r)
  where
    go : (b : Bool) → Onward o v (cond {A = Answer} b (Ok (reply.Done, act me o r)) (Err refusal.NotNow))
    go true = rule_grows me o r v
    go false = same (o.pairs.link v)
event_grows plan me o (event.Send u i) v = go (are_neighbours plan me u) (frame_on (o.pairs.link u) i)
  where
    go : (b : Bool) (f : Option Fields) → Onward o v (cond {A = Answer} b (framed o f) (Err refusal.NotNow))
    go false f = same (o.pairs.link v)
    go true None = same (o.pairs.link v)
    go true (Some f) = same (o.pairs.link v)
event_grows plan me o (event.Took f) v = go (frame_fault plan me o.pairs f)
  where
    go : (x : Option ChannelFault) → Onward o v (unless_faulty plan me o f x)
    go None = taking_grows plan me o.pairs f v
    go (Some fault) = same (o.pairs.link v)
event_grows plan me o (event.Withdraw t) v =
    let l = o.pairs.link v in
    after_withdrawal (λ (x : Office). Grows l (x.pairs.link v)) o t (same l) (either_withdrawn (λ (x : Office). Grows l (x.pairs.link v)) o t (λ e. same l) (λ e. same l))

-- ---- journals

run_grows : (plan : PlanValue) (me : ℕ) (o : Office) (es : List Entry) (v : ℕ) → Grows (o.pairs.link v) ((run_of plan me o es).pairs.link v)
run_grows plan me o [] v = same (o.pairs.link v)
run_grows plan me o (x ∷ xs) v =
    let o' = after plan me o x.event in
    both (o.pairs.link v) (o'.pairs.link v) ((run_of plan me o' xs).pairs.link v) (event_grows plan me o x.event v) (run_grows plan me o' xs v)

run_on : (plan : PlanValue) (me : ℕ) (o : Office) (xs ys : List Entry) → run_of plan me o (xs ++ ys) ≡ run_of plan me (run_of plan me o xs) ys
run_on plan me o [] ys = refl
run_on plan me o (x ∷ xs) ys = run_on plan me (after plan me o x.event) xs ys

pub links_only_grow : LinksOnlyGrow
unfolding office_of
links_only_grow plan me es more v =
    let o = run_of plan me (opened plan me) es in
    subst (λ (z : Office). Grows (o.pairs.link v) (z.pairs.link v)) (sym (run_on plan me (opened plan me) es more)) (run_grows plan me o more v)
