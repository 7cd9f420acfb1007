-- An office, the guard and the effect of each of its rules, and what it answers to an event.
use Rattle.std.specs.Prelude.{ℕ, ◌+◌, Bool, ◌==◌, ◌&&◌, ◌||◌, if◌then◌else◌, Option, None, Some, Result, Ok, Err, unwrap_or}
use Rattle.bottle_values.specs.declared.Value.{Value}
use Rattle.bottle_values.specs.Operations.{nought}
use Rattle.frame_codec.specs.Frame.{Fields}
use Rattle.office_map.specs.PlanValue.{PlanValue, are_neighbours, is_end}
use Rattle.session_meaning.specs.ProgramValue.{ProgramValue}
use Rattle.session_programs.specs.Program.{fits}
use Rattle.token_channel.specs.declared.fault.ChannelFault.{ChannelFault}
use Rattle.dining_core.specs.Diners as forks
use Rattle.drinking_core.specs.Drinkers.{Drinker}
use Rattle.drinking_core.specs.Drinkers as bottles
use Rattle.office_journal.specs.declared.rule.Rule.{Rule}
use Rattle.office_journal.specs.declared.rule.Rule.TheVariants as rule
use Rattle.office_journal.specs.declared.event.Event.{Event}
use Rattle.office_journal.specs.declared.event.Event.TheVariants as event
use Rattle.office_journal.specs.declared.reply.Reply.{Reply}
use Rattle.office_journal.specs.declared.reply.Reply.TheVariants as reply
use Rattle.office_journal.specs.declared.reply.Refusal.{Refusal}
use Rattle.office_journal.specs.declared.reply.Refusal.TheVariants as refusal
use Rattle.office_journal.specs.Replies.{reply_to}
pub use Rattle.site_core.specs.neighbours.Pairs.{frame_on}
use Rattle.site_core.specs.neighbours.Pairs.{Pairs, is_thirsty, after_fork_rule, after_bottle_rule, frame_fault, arrival_of, after_taking}
use Rattle.site_core.specs.neighbours.Pairs as pairs
use Rattle.site_core.specs.agendas.Agenda.{Agenda, Idle, is_full, submitted, is_waiting, is_gathering, without_waiting, first_needs, started, begun, may_work, worked, writes_of, with_current, finished}
use Rattle.site_core.specs.agendas.Agenda as agenda

-- what it shares with its neighbours, and its sessions
pub record Office : Type 0 where
  pub pairs : Pairs
  pub agenda : Agenda

abbrev pub opened : PlanValue → ℕ → Office
opened plan me = record { pairs = pairs.opened plan me; agenda = agenda.empty }

-- ---- rules

-- the values of the bottles that are here
abbrev pub value_in : Drinker → ℕ → Value
value_in d r = unwrap_or (d.bottle r) nought

-- whether the rule may be done now
abbrev pub may : PlanValue → ℕ → Office → Rule → Bool
may plan me o rule.Start = bottles.may o.pairs.drinker (bottles.Start (first_needs o.agenda.queue))
may plan me o rule.Hungry = forks.may o.pairs.diner (forks.BecomeHungry (is_thirsty o.pairs))
may plan me o (rule.AskFork v) = are_neighbours plan me v && forks.may o.pairs.diner (forks.AskFork v)
may plan me o (rule.GiveFork v) = are_neighbours plan me v && forks.may o.pairs.diner (forks.GiveFork v)
may plan me o rule.Eat = forks.may o.pairs.diner forks.Eat
may plan me o rule.Leave = forks.may o.pairs.diner (forks.Leave (is_thirsty o.pairs))
may plan me o (rule.AskBottle r) = is_end plan r me && bottles.may o.pairs.drinker (bottles.AskBottle r)
may plan me o (rule.GiveBottle r) = is_end plan r me && bottles.may o.pairs.drinker (bottles.GiveBottle r o.pairs.diner.held)
may plan me o rule.Drink = bottles.may o.pairs.drinker bottles.Drink
may plan me o (rule.Work n) = may_work o.agenda.current n
may plan me o rule.Finish = bottles.may o.pairs.drinker (bottles.Finish (writes_of o.agenda.current))

abbrev pub with_pairs : Office → Pairs → Office
with_pairs o p = record { pairs = p; agenda = o.agenda }

-- what it does then
abbrev pub act : ℕ → Office → Rule → Office
act me o rule.Start = record { pairs = after_bottle_rule o.pairs (bottles.Start (first_needs o.agenda.queue)); agenda = started o.agenda o.agenda.queue }
act me o rule.Hungry = with_pairs o (after_fork_rule o.pairs (forks.BecomeHungry (is_thirsty o.pairs)))
act me o (rule.AskFork v) = with_pairs o (after_fork_rule o.pairs (forks.AskFork v))
act me o (rule.GiveFork v) = with_pairs o (after_fork_rule o.pairs (forks.GiveFork v))
act me o rule.Eat = with_pairs o (after_fork_rule o.pairs forks.Eat)
act me o rule.Leave = with_pairs o (after_fork_rule o.pairs (forks.Leave (is_thirsty o.pairs)))
act me o (rule.AskBottle r) = with_pairs o (after_bottle_rule o.pairs (bottles.AskBottle r))
act me o (rule.GiveBottle r) = with_pairs o (after_bottle_rule o.pairs (bottles.GiveBottle r o.pairs.diner.held))
act me o rule.Drink = record { pairs = after_bottle_rule o.pairs bottles.Drink; agenda = with_current o.agenda (begun (value_in o.pairs.drinker) o.agenda.current) }
act me o (rule.Work n) = record { pairs = o.pairs; agenda = with_current o.agenda (worked n o.agenda.current) }
act me o rule.Finish = record { pairs = after_bottle_rule o.pairs (bottles.Finish (writes_of o.agenda.current)); agenda = finished me o.agenda }

-- ---- events

-- the reply to an accepted event and the office after it, or why the event is refused
abbrev pub Answer : Type 0
Answer = Result (Reply × Office) Refusal

-- the program is of this office, and needs no record of another
abbrev pub is_ours : PlanValue → ℕ → ProgramValue → Bool
is_ours plan me p = p.office == me && fits plan p

abbrev pub submit : PlanValue → ℕ → Office → ProgramValue → Answer
submit plan me o p =
    if is_ours plan me p then (if is_full o.agenda then Err refusal.QueueFull
    else Ok (reply.Ticket (o.agenda.tickets + 1), record { pairs = o.pairs; agenda = submitted o.agenda p }))
    else Err refusal.NotOurs

-- Done, and this office after it, where the guard holds
abbrev pub done_if : Bool → Office → Answer
done_if guard o = if guard then Ok (reply.Done, o) else Err refusal.NotNow

abbrev pub do_rule : PlanValue → ℕ → Office → Rule → Answer
do_rule plan me o rule = done_if (may plan me o rule) (act me o rule)

-- the session with the ticket waits, or it is the current one and its office is thirsty
abbrev pub may_withdraw : Office → ℕ → Bool
may_withdraw o ticket = is_waiting o.agenda.queue ticket || (is_gathering o.agenda.current ticket && bottles.may o.pairs.drinker bottles.Withdraw)

-- it waits no more, or the office is tranquil and has no current session
abbrev pub withdrawn : Office → ℕ → Office
withdrawn o ticket =
    if is_waiting o.agenda.queue ticket then record { pairs = o.pairs; agenda = without_waiting o.agenda ticket }
    else record { pairs = after_bottle_rule o.pairs bottles.Withdraw; agenda = with_current o.agenda Idle }

abbrev pub withdraw : Office → ℕ → Answer
withdraw o ticket = done_if (may_withdraw o ticket) (withdrawn o ticket)

-- sending a frame changes nothing
abbrev pub framed : Office → Option Fields → Answer
framed o None = Err refusal.NotNow
framed o (Some f) = Ok (reply.Frame f, o)

abbrev pub send : PlanValue → ℕ → Office → ℕ → ℕ → Answer
send plan me o v i = if are_neighbours plan me v then framed o (frame_on (o.pairs.link v) i) else Err refusal.NotNow

abbrev pub unless_faulty : PlanValue → ℕ → Office → Fields → Option ChannelFault → Answer
unless_faulty plan me o f None = Ok (reply_to (arrival_of o.pairs f), with_pairs o (after_taking plan me o.pairs f))
unless_faulty plan me o f (Some fault) = Err (refusal.Channel fault)

abbrev pub take : PlanValue → ℕ → Office → Fields → Answer
take plan me o f = unless_faulty plan me o f (frame_fault plan me o.pairs f)

-- the reply to an event and the office after it, or why it is refused
abbrev pub answer : PlanValue → ℕ → Office → Event → Answer
answer plan me o (event.Submit p) = submit plan me o p
answer plan me o (event.Do rule) = do_rule plan me o rule
answer plan me o (event.Send v i) = send plan me o v i
answer plan me o (event.Took f) = take plan me o f
answer plan me o (event.Withdraw ticket) = withdraw o ticket
