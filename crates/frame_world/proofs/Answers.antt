-- What an accepted event leaves of an office, and what of it is a row of the forks or of the bottles.
use Rattle.std.proofs.Common.{◌≡◌, ℕ, Bool, true, false, cond, Option, None, Some, Ok, Err, refl, sym, ap, ◌∙◌}
use Rattle.std.specs.Prelude.{◌+◌, ◌&&◌, ◌||◌}
use Rattle.std.proofs.lemmas.Bool.{and_parts}
use Rattle.frame_codec.specs.declared.message.Msg.{Msg}
use Rattle.frame_codec.specs.Frame.{Fields}
use Rattle.office_map.specs.PlanValue.{PlanValue, are_neighbours, is_end}
use Rattle.session_meaning.specs.ProgramValue.{ProgramValue}
use Rattle.token_channel.specs.declared.fault.ChannelFault.{ChannelFault}
use Rattle.token_channel.specs.Channels.{link_then}
use Rattle.dining_core.specs.Diners.{ForkRule}
use Rattle.dining_core.specs.Diners as forks
use Rattle.drinking_core.specs.Drinkers.{BottleRule}
use Rattle.drinking_core.specs.Drinkers as bottles
use Rattle.office_journal.specs.declared.rule.Rule.{Rule}
use Rattle.office_journal.specs.declared.rule.Rule.TheVariants as rule
use Rattle.office_journal.specs.declared.event.Event as office
use Rattle.office_journal.specs.declared.event.Event.TheVariants as event
use Rattle.office_journal.specs.declared.reply.Reply.{Reply}
use Rattle.office_journal.specs.declared.reply.Reply.TheVariants as reply
use Rattle.office_journal.specs.declared.reply.Refusal.TheVariants as refused
use Rattle.site_core.specs.Replies.{reply_to}
use Rattle.site_core.specs.Pairs.{Pairs, is_thirsty, after_fork_rule, after_bottle_rule, frame_fault, arrival_of, arrived, after_frame, follows, as_arrival, after_taking}
use Rattle.site_core.specs.Agenda.{Idle, is_full, submitted, first_needs, writes_of, is_waiting, is_gathering, without_waiting, with_current}
use Rattle.site_core.specs.neighbours.PairLaws.{through_taking}
use Rattle.site_core.specs.Offices.{Office, Answer, may, act, is_ours, submit, do_rule, framed, frame_on, send, unless_faulty, with_pairs, may_withdraw, withdrawn, withdraw, done_if, answer}

-- what an event is to an office's pairs: nothing, a row of the forks or of the bottles, or a frame's own message, after
-- which each kept one is a step of its own: it follows, or nothing does and what is kept is thrown out
pub data PairStep : Type 0 where
  Stays : PairStep
  ByFork : (rule : ForkRule) → PairStep
  ByBottle : (rule : BottleRule) → PairStep
  ByFrame : (f : Fields) → PairStep
  ByKept : (v : ℕ) (o : Option Msg) → PairStep

abbrev pub rule_step : Office → Rule → PairStep
rule_step o rule.Start = ByBottle (bottles.Start (first_needs o.agenda.queue))
rule_step o rule.Hungry = ByFork (forks.BecomeHungry (is_thirsty o.pairs))
rule_step o (rule.AskFork v) = ByFork (forks.AskFork v)
rule_step o (rule.GiveFork v) = ByFork (forks.GiveFork v)
rule_step o rule.Eat = ByFork forks.Eat
rule_step o rule.Leave = ByFork (forks.Leave (is_thirsty o.pairs))
rule_step o (rule.AskBottle r) = ByBottle (bottles.AskBottle r)
rule_step o (rule.GiveBottle r) = ByBottle (bottles.GiveBottle r o.pairs.diner.held)
rule_step o rule.Drink = ByBottle bottles.Drink
rule_step o (rule.Work n) = Stays
rule_step o rule.Finish = ByBottle (bottles.Finish (writes_of o.agenda.current))

-- a session that is withdrawn as it waits is nothing to the pairs; of the current one the bar becomes tranquil
abbrev pub withdrawal_step : Bool → PairStep
withdrawal_step true = Stays
withdrawal_step false = ByBottle bottles.Withdraw

abbrev pub step_of : Office → office.Event → PairStep
step_of o (event.Submit p) = Stays
step_of o (event.Do rule) = rule_step o rule
step_of o (event.Send v i) = Stays
step_of o (event.Took f) = ByFrame f
step_of o (event.Withdraw t) = withdrawal_step (is_waiting o.agenda.queue t)

abbrev pub pair_after : Pairs → PairStep → Pairs
pair_after p Stays = p
pair_after p (ByFork rule) = after_fork_rule p rule
pair_after p (ByBottle rule) = after_bottle_rule p rule
pair_after p (ByFrame f) = after_frame p f
pair_after p (ByKept v o) = arrived p v (link_then (p.link v) o) (as_arrival o)

-- and with all that follows
abbrev pub all_after : PlanValue → ℕ → Pairs → PairStep → Pairs
all_after plan a p Stays = p
all_after plan a p (ByFork rule) = after_fork_rule p rule
all_after plan a p (ByBottle rule) = after_bottle_rule p rule
all_after plan a p (ByFrame f) = after_taking plan a p f
all_after plan a p (ByKept v o) = pair_after p (ByKept v o)

abbrev pub MayStep : PlanValue → ℕ → Pairs → PairStep → Type 0
MayStep plan a p Stays = Unit {0}
MayStep plan a p (ByFork rule) = forks.may p.diner rule ≡ true
MayStep plan a p (ByBottle rule) = bottles.may p.drinker rule ≡ true
MayStep plan a p (ByFrame f) = frame_fault plan a p f ≡ None
MayStep plan a p (ByKept v o) = follows plan a v p ≡ o

-- what the step and each kept message leaves, all of it leaves
pub through_all : (plan : PlanValue) (a : ℕ) (P : Pairs → Type 0) → ((p : Pairs) (v : ℕ) (o : Option Msg) → follows plan a v p ≡ o → P p → P (pair_after p (ByKept v o))) → (p : Pairs) (step : PairStep) → P (pair_after p step) → P (all_after plan a p step)
through_all plan a P keeps p Stays h = h
through_all plan a P keeps p (ByFork rule) h = h
through_all plan a P keeps p (ByBottle rule) h = h
through_all plan a P keeps p (ByFrame f) h = through_taking plan a P f (λ q k. keeps q f.from (follows plan a f.from q) refl k) p h
through_all plan a P keeps p (ByKept v o) h = h

-- ---- each kind of event

-- the reply and the office are those that were answered
same_answer : (x : Reply × Office) (r : Reply) (o' : Office) → ◌≡◌ {A = Answer} (Ok x) (Ok (r, o')) → (r ≡ x.0) × (o' ≡ x.1)
same_answer x r o' e = let same : ◌≡◌ {A = Reply × Office} x (r, o') = cc in (ap (λ (z : Reply × Office). z.0) (sym same), ap (λ (z : Reply × Office). z.1) (sym same))

pub record Submitted (plan : PlanValue) (a : ℕ) (o : Office) (p : ProgramValue) (r : Reply) (o' : Office) : Type 0 where
  pub ours : is_ours plan a p ≡ true
  pub told : r ≡ reply.Ticket (o.agenda.tickets + 1)
  pub after : o' ≡ record { pairs = o.pairs; agenda = submitted o.agenda p }

pub was_submitted : (plan : PlanValue) (a : ℕ) (o : Office) (p : ProgramValue) (r : Reply) (o' : Office) → submit plan a o p ≡ Ok (r, o') → Submitted plan a o p r o'
was_submitted plan a o p r o' e = go (is_ours plan a p) (is_full o.agenda) refl e
  where
    go : (b full : Bool) → is_ours plan a p ≡ b → cond {A = Answer} b (cond full (Err refused.QueueFull) (Ok (reply.Ticket (o.agenda.tickets + 1), record { pairs = o.pairs; agenda = submitted o.agenda p }))) (Err refused.NotOurs) ≡ Ok (r, o') → Submitted plan a o p r o'
    go false full h k = absurd cc
    go true true h k = absurd cc
    go true false h k = let x = same_answer _ r o' k in record { ours = h; told = x.0; after = x.1 }

pub record Done (plan : PlanValue) (a : ℕ) (o : Office) (rule : Rule) (r : Reply) (o' : Office) : Type 0 where
  pub guard : may plan a o rule ≡ true
  pub told : r ≡ reply.Done
  pub after : o' ≡ act a o rule

pub was_done : (plan : PlanValue) (a : ℕ) (o : Office) (rule : Rule) (r : Reply) (o' : Office) → do_rule plan a o rule ≡ Ok (r, o') → Done plan a o rule r o'
was_done plan a o rule r o' e = go (may plan a o rule) refl e
  where
    go : (b : Bool) → may plan a o rule ≡ b → cond {A = Answer} b (Ok (reply.Done, act a o rule)) (Err refused.NotNow) ≡ Ok (r, o') → Done plan a o rule r o'
    go false h k = absurd cc
    go true h k = let x = same_answer _ r o' k in record { guard = h; told = x.0; after = x.1 }

pub record Withdrawn (o : Office) (t : ℕ) (r : Reply) (o' : Office) : Type 0 where
  pub guard : may_withdraw o t ≡ true
  pub told : r ≡ reply.Done
  pub after : o' ≡ withdrawn o t

pub was_withdrawn : (o : Office) (t : ℕ) (r : Reply) (o' : Office) → withdraw o t ≡ Ok (r, o') → Withdrawn o t r o'
was_withdrawn o t r o' e = go (may_withdraw o t) refl e
  where
    go : (b : Bool) → may_withdraw o t ≡ b → done_if b (withdrawn o t) ≡ Ok (r, o') → Withdrawn o t r o'
    go false h k = absurd cc
    go true h k = let x = same_answer (reply.Done, withdrawn o t) r o' k in record { guard = h; told = x.0; after = x.1 }

pub record Sent (plan : PlanValue) (a : ℕ) (o : Office) (v i : ℕ) (r : Reply) (o' : Office) : Type 0 where
  pub near : are_neighbours plan a v ≡ true
  pub frame : Fields
  pub made : frame_on (o.pairs.link v) i ≡ Some frame
  pub told : r ≡ reply.Frame frame
  pub after : o' ≡ o

pub was_sent : (plan : PlanValue) (a : ℕ) (o : Office) (v i : ℕ) (r : Reply) (o' : Office) → send plan a o v i ≡ Ok (r, o') → Sent plan a o v i r o'
was_sent plan a o v i r o' e = go (are_neighbours plan a v) (frame_on (o.pairs.link v) i) refl refl e
  where
    go : (b : Bool) (f : Option Fields) → are_neighbours plan a v ≡ b → frame_on (o.pairs.link v) i ≡ f → cond {A = Answer} b (framed o f) (Err refused.NotNow) ≡ Ok (r, o') → Sent plan a o v i r o'
    go false f h m k = absurd cc
    go true None h m k = absurd cc
    go true (Some f) h m k = let x = same_answer (reply.Frame f, o) r o' k in record { near = h; frame = f; made = m; told = x.0; after = x.1 }

pub record Taken (plan : PlanValue) (a : ℕ) (o : Office) (f : Fields) (r : Reply) (o' : Office) : Type 0 where
  pub fine : frame_fault plan a o.pairs f ≡ None
  pub told : r ≡ reply_to (arrival_of o.pairs f)
  pub after : o' ≡ with_pairs o (after_taking plan a o.pairs f)

pub was_taken : (plan : PlanValue) (a : ℕ) (o : Office) (f : Fields) (r : Reply) (o' : Office) → unless_faulty plan a o f (frame_fault plan a o.pairs f) ≡ Ok (r, o') → Taken plan a o f r o'
was_taken plan a o f r o' e = go (frame_fault plan a o.pairs f) refl e
  where
    go : (x : Option ChannelFault) → frame_fault plan a o.pairs f ≡ x → unless_faulty plan a o f x ≡ Ok (r, o') → Taken plan a o f r o'
    go None h k = let x = same_answer (reply_to (arrival_of o.pairs f), with_pairs o (after_taking plan a o.pairs f)) r o' k in record { fine = h; told = x.0; after = x.1 }
    go (Some fault) h k = absurd cc

-- ---- of each its row

pub record IsStepOf (plan : PlanValue) (a : ℕ) (o : Office) (e : office.Event) (o' : Office) : Type 0 where
  pub may : MayStep plan a o.pairs (step_of o e)
  pub after : o'.pairs ≡ all_after plan a o.pairs (step_of o e)

rule_may : (plan : PlanValue) (a : ℕ) (o : Office) (rule : Rule) → may plan a o rule ≡ true → MayStep plan a o.pairs (rule_step o rule)
rule_may plan a o rule.Start h = h
rule_may plan a o rule.Hungry h = h
rule_may plan a o (rule.AskFork v) h = (and_parts (are_neighbours plan a v) (forks.may o.pairs.diner (forks.AskFork v)) h).1
rule_may plan a o (rule.GiveFork v) h = (and_parts (are_neighbours plan a v) (forks.may o.pairs.diner (forks.GiveFork v)) h).1
rule_may plan a o rule.Eat h = h
rule_may plan a o rule.Leave h = h
rule_may plan a o (rule.AskBottle r) h = (and_parts (is_end plan r a) (bottles.may o.pairs.drinker (bottles.AskBottle r)) h).1
rule_may plan a o (rule.GiveBottle r) h = (and_parts (is_end plan r a) (bottles.may o.pairs.drinker (bottles.GiveBottle r o.pairs.diner.held)) h).1
rule_may plan a o rule.Drink h = h
rule_may plan a o (rule.Work n) h = tt
rule_may plan a o rule.Finish h = h

rule_after : (plan : PlanValue) (a : ℕ) (o : Office) (rule : Rule) → (act a o rule).pairs ≡ all_after plan a o.pairs (rule_step o rule)
rule_after plan a o rule.Start = refl
rule_after plan a o rule.Hungry = refl
rule_after plan a o (rule.AskFork v) = refl
rule_after plan a o (rule.GiveFork v) = refl
rule_after plan a o rule.Eat = refl
rule_after plan a o rule.Leave = refl
rule_after plan a o (rule.AskBottle r) = refl
rule_after plan a o (rule.GiveBottle r) = refl
rule_after plan a o rule.Drink = refl
rule_after plan a o (rule.Work n) = refl
rule_after plan a o rule.Finish = refl

-- nothing follows a rule
pub rule_alone : (plan : PlanValue) (a : ℕ) (o : Office) (rule : Rule) → all_after plan a o.pairs (rule_step o rule) ≡ pair_after o.pairs (rule_step o rule)
rule_alone plan a o rule.Start = refl
rule_alone plan a o rule.Hungry = refl
rule_alone plan a o (rule.AskFork v) = refl
rule_alone plan a o (rule.GiveFork v) = refl
rule_alone plan a o rule.Eat = refl
rule_alone plan a o rule.Leave = refl
rule_alone plan a o (rule.AskBottle r) = refl
rule_alone plan a o (rule.GiveBottle r) = refl
rule_alone plan a o rule.Drink = refl
rule_alone plan a o (rule.Work n) = refl
rule_alone plan a o rule.Finish = refl

-- nor a withdrawal
pub withdrawal_alone : (plan : PlanValue) (a : ℕ) (p : Pairs) (waiting : Bool) → all_after plan a p (withdrawal_step waiting) ≡ pair_after p (withdrawal_step waiting)
withdrawal_alone plan a p true = refl
withdrawal_alone plan a p false = refl

withdrawal_may : (plan : PlanValue) (a : ℕ) (p : Pairs) (waiting gathering : Bool) → (waiting || (gathering && bottles.may p.drinker bottles.Withdraw)) ≡ true → MayStep plan a p (withdrawal_step waiting)
withdrawal_may plan a p true gathering h = tt
withdrawal_may plan a p false gathering h = (and_parts gathering (bottles.may p.drinker bottles.Withdraw) h).1

-- what the pairs are then
withdrawal_after : (plan : PlanValue) (a : ℕ) (o : Office) (t : ℕ) → (withdrawn o t).pairs ≡ all_after plan a o.pairs (withdrawal_step (is_waiting o.agenda.queue t))
withdrawal_after plan a o t = of (is_waiting o.agenda.queue t)
  where
    of : (b : Bool) → (cond {A = Office} b (record { pairs = o.pairs; agenda = without_waiting o.agenda t }) (record { pairs = after_bottle_rule o.pairs bottles.Withdraw; agenda = with_current o.agenda Idle })).pairs ≡ all_after plan a o.pairs (withdrawal_step b)
    of true = refl
    of false = refl

pub is_step : (plan : PlanValue) (a : ℕ) (o : Office) (e : office.Event) (r : Reply) (o' : Office) → answer plan a o e ≡ Ok (r, o') → IsStepOf plan a o e o'
is_step plan a o (event.Submit p) r o' e = record { may = tt; after = ap (λ (x : Office). x.pairs) (was_submitted plan a o p r o' e).after }
is_step plan a o (event.Do rule) r o' e =
    let d = was_done plan a o rule r o' e in
    record { may = rule_may plan a o rule d.guard; after = ap (λ (x : Office). x.pairs) d.after ∙ rule_after plan a o rule }
is_step plan a o (event.Send v i) r o' e = record { may = tt; after = ap (λ (x : Office). x.pairs) (was_sent plan a o v i r o' e).after }
is_step plan a o (event.Took f) r o' e =
    let t = was_taken plan a o f r o' e in
    record { may = t.fine; after = ap (λ (x : Office). x.pairs) t.after }
is_step plan a o (event.Withdraw t) r o' e =
    let x = was_withdrawn o t r o' e in
    record {
      may = withdrawal_may plan a o.pairs (is_waiting o.agenda.queue t) (is_gathering o.agenda.current t) x.guard;
      after = ap (λ (q : Office). q.pairs) x.after ∙ withdrawal_after plan a o t;
    }
