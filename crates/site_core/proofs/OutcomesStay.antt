-- What an office tells of its finished sessions begins all that it tells later.
use Rattle.std.proofs.Common.{◌≡◌, ℕ, ◌+◌, Bool, true, false, cond, List, [], ◌∷◌, Option, None, Some, Ok, Err, refl, sym, subst, append-nil}
use mathlib.Core.List.{IsPrefix}
use Rattle.office_map.specs.PlanValue.{PlanValue, are_neighbours}
use Rattle.frame_codec.specs.Frame.{Fields}
use Rattle.session_meaning.specs.ProgramValue.{ProgramValue}
use Rattle.session_meaning.specs.declared.ending.Outcome.{Outcome}
use Rattle.token_channel.specs.declared.fault.ChannelFault.{ChannelFault}
use Rattle.office_journal.specs.declared.rule.Rule.{Rule}
use Rattle.office_journal.specs.declared.rule.Rule.TheVariants as rule
use Rattle.office_journal.specs.declared.event.Event.{Event}
use Rattle.office_journal.specs.declared.event.Event.TheVariants as event
use Rattle.office_journal.specs.declared.reply.Reply.TheVariants as reply
use Rattle.office_journal.specs.declared.reply.Refusal.TheVariants as refusal
use Rattle.site_core.specs.declared.agendas.session.Session.{Session}
use Rattle.site_core.specs.neighbours.Pairs.{frame_fault}
use Rattle.site_core.specs.agendas.Agenda.{Agenda, started, submitted, is_full, outcome_of}
use Rattle.site_core.specs.Offices.{Office, may, act, withdrawn, is_ours, submit, framed, frame_on, unless_faulty}
use Rattle.site_core.specs.Journals.{next_or, after}
use Rattle.site_core.specs.WithdrawalLaws.{either_withdrawn, after_withdrawal}

module _ (o : Office) where
  -- it tells at least what this one tells
  abbrev TellsMore : Office → Type 0
  TellsMore q = IsPrefix o.agenda.outcomes q.agenda.outcomes

  same : TellsMore o
  same = ([], append-nil o.agenda.outcomes)

  by_submit : (plan : PlanValue) (me : ℕ) (p : ProgramValue) → TellsMore (next_or o (submit plan me o p))
  by_submit plan me p = go (is_ours plan me p) (is_full o.agenda)
    where
      go : (a b : Bool) → TellsMore (next_or o (cond a (cond b (Err refusal.QueueFull) (Ok (reply.Ticket (o.agenda.tickets + 1), record { pairs = o.pairs; agenda = submitted o.agenda p }))) (Err refusal.NotOurs)))
      go true true = same
      go false b = same
      go true false = same

  by_start : (queue : List Session) → IsPrefix o.agenda.outcomes (started o.agenda queue).outcomes
  by_start [] = same
  by_start (s ∷ rest) = same

  by_rule : (me : ℕ) (r : Rule) → TellsMore (act me o r)
  by_rule me rule.Start = by_start o.agenda.queue
  by_rule me rule.Hungry = same
  by_rule me (rule.AskFork v) = same
  by_rule me (rule.GiveFork v) = same
  by_rule me rule.Eat = same
  by_rule me rule.Leave = same
  by_rule me (rule.AskBottle r) = same
  by_rule me (rule.GiveBottle r) = same
  by_rule me rule.Drink = same
  by_rule me (rule.Work n) = same
  by_rule me rule.Finish = (outcome_of me o.agenda.current, refl)

  -- a refused event changes nothing, and of the accepted ones only the end of a session tells more
  pub outcomes_stay : (plan : PlanValue) (me : ℕ) (e : Event) → TellsMore (after plan me o e)
  outcomes_stay plan me (event.Submit p) = by_submit plan me p
  outcomes_stay plan me (event.Do r) = go (may plan me o r)
    where
      go : (b : Bool) → TellsMore (next_or o (cond b (Ok (reply.Done, act me o r)) (Err refusal.NotNow)))
      go true = by_rule me r
      go false = same
  outcomes_stay plan me (event.Send v i) = go (are_neighbours plan me v)
    where
      made : (f : Option Fields) → next_or o (framed o f) ≡ o
      made None = refl
      made (Some f) = refl

      go : (b : Bool) → TellsMore (next_or o (cond b (framed o (frame_on (o.pairs.link v) i)) (Err refusal.NotNow)))
      go true = subst TellsMore (sym (made (frame_on (o.pairs.link v) i))) same
      go false = same
  outcomes_stay plan me (event.Took f) = go (frame_fault plan me o.pairs f)
    where
      go : (x : Option ChannelFault) → TellsMore (next_or o (unless_faulty plan me o f x))
      go None = same
      go (Some x) = same
  outcomes_stay plan me (event.Withdraw t) = after_withdrawal TellsMore o t same (either_withdrawn TellsMore o t (λ h. same) (λ h. same))
