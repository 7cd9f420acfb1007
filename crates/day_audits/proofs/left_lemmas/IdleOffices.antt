-- An office that neither waits for bottles nor drinks has no session.
use Rattle.std.proofs.Common.{◌≡◌, ℕ, ◌+◌, Bool, true, false, cond, List, [], ◌∷◌, Option, None, Some, Ok, Err, refl, sym, ap, subst, ◌∙◌}
use Rattle.frame_codec.specs.Frame.{Fields}
use Rattle.frame_codec.specs.declared.message.Msg.{Msg}
use Rattle.frame_codec.specs.declared.message.Msg.TheVariants as msg
use Rattle.office_map.specs.PlanValue.{PlanValue, are_neighbours}
use Rattle.window_link.specs.declared.arrival.Arrival.{Arrival}
use Rattle.window_link.specs.declared.arrival.Arrival.TheVariants as arrival
use Rattle.token_channel.specs.declared.fault.ChannelFault.{ChannelFault}
use Rattle.drinking_core.specs.Drinkers.{Drinker}
use Rattle.drinking_core.specs.Drinkers as bottles
use Rattle.site_core.specs.declared.agendas.session.Session.{Session}
use Rattle.site_core.specs.agendas.Agenda.{Idle, first_needs, started, submitted, worked, is_full}
use Rattle.office_journal.specs.declared.rule.Rule.{Rule}
use Rattle.office_journal.specs.declared.rule.Rule.TheVariants as rule
use Rattle.office_journal.specs.declared.event.Event.{Event}
use Rattle.office_journal.specs.declared.event.Event.TheVariants as event
use Rattle.office_journal.specs.declared.reply.Reply.TheVariants as reply
use Rattle.office_journal.specs.declared.reply.Refusal.TheVariants as refusal
use Rattle.site_core.specs.neighbours.Pairs.{Pairs, bottle_came, drinker_after, frame_fault, after_taking}
use Rattle.site_core.specs.neighbours.PairLaws.{through_taking}
use Rattle.site_core.specs.Offices.{Office, may, act, is_ours, framed, frame_on, unless_faulty}
use Rattle.site_core.specs.Journals.{next_or, after}
use Rattle.site_core.specs.WithdrawalLaws.{either_withdrawn, after_withdrawal}

abbrev pub Rests : Office → Type 0
Rests o = bottles.is_tranquil o.pairs.drinker.phase ≡ true → o.agenda.current ≡ Idle

-- ---- rules

by_start : (o : Office) (queue : List Session) → Rests o → bottles.is_tranquil (bottles.started o.pairs.drinker (first_needs queue)).phase ≡ true → (started o.agenda queue).current ≡ Idle
by_start o [] w e = w e
by_start o (s ∷ rest) w e = absurd cc

by_rule : (me : ℕ) (o : Office) (r : Rule) → Rests o → Rests (act me o r)
by_rule me o rule.Start w = by_start o o.agenda.queue w
by_rule me o rule.Hungry w = w
by_rule me o (rule.AskFork v) w = w
by_rule me o (rule.GiveFork v) w = w
by_rule me o rule.Eat w = w
by_rule me o rule.Leave w = w
by_rule me o (rule.AskBottle r) w = w
by_rule me o (rule.GiveBottle r) w = w
by_rule me o rule.Drink w = λ e. absurd cc
by_rule me o (rule.Work n) w = λ e. ap (worked n) (w e)
by_rule me o rule.Finish w = λ e. refl

-- ---- what comes

phase_came : (d : Drinker) (m : Msg) → (bottle_came d m).phase ≡ d.phase
phase_came d msg.AskFork = refl
phase_came d msg.Fork = refl
phase_came d (msg.AskBottle r) = refl
phase_came d (msg.Bottle r x) = refl

phase_after : (d : Drinker) (a : Arrival) → (drinker_after d a).phase ≡ d.phase
phase_after d (arrival.Fresh m) = phase_came d m
phase_after d arrival.Acked = refl
phase_after d arrival.Repeat = refl
phase_after d arrival.Kept = refl
phase_after d arrival.Early = refl

phase_taken : (plan : PlanValue) (me : ℕ) (p : Pairs) (f : Fields) → (after_taking plan me p f).drinker.phase ≡ p.drinker.phase
phase_taken plan me p f = through_taking plan me (λ (q : Pairs). q.drinker.phase ≡ p.drinker.phase) f (λ q e. phase_after q.drinker _ ∙ e) p (phase_after p.drinker _)

-- ---- events

pub rests_after : (plan : PlanValue) (me : ℕ) (o : Office) (e : Event) → Rests o → Rests (after plan me o e)
rests_after plan me o (event.Submit p) w = go (is_ours plan me p) (is_full o.agenda)
  where
    go : (a b : Bool) → Rests (next_or o (cond a (cond b (Err refusal.QueueFull) (Ok (reply.Ticket (o.agenda.tickets + 1), record { pairs = o.pairs; agenda = submitted o.agenda p }))) (Err refusal.NotOurs)))
    go true true = w
    go false b = w
    go true false = w
rests_after plan me o (event.Do r) w = go (may plan me o r)
  where
    go : (b : Bool) → Rests (next_or o (cond b (Ok (reply.Done, act me o r)) (Err refusal.NotNow)))
    go true = by_rule me o r w
    go false = w
rests_after plan me o (event.Send v i) w = go (are_neighbours plan me v)
  where
    made : (f : Option Fields) → next_or o (framed o f) ≡ o
    made None = refl
    made (Some f) = refl

    go : (b : Bool) → Rests (next_or o (cond b (framed o (frame_on (o.pairs.link v) i)) (Err refusal.NotNow)))
    go true = subst Rests (sym (made (frame_on (o.pairs.link v) i))) w
    go false = w
rests_after plan me o (event.Took f) w = go (frame_fault plan me o.pairs f)
  where
    go : (x : Option ChannelFault) → Rests (next_or o (unless_faulty plan me o f x))
    go None = λ e. w (sym (ap bottles.is_tranquil (phase_taken plan me o.pairs f)) ∙ e)
    go (Some x) = w
rests_after plan me o (event.Withdraw t) w = after_withdrawal Rests o t w (either_withdrawn Rests o t (λ h. w) (λ h e. refl))
