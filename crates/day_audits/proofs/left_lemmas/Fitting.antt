-- The sessions that a walk keeps fit the office's plan.
use Rattle.std.proofs.Common.{◌≡◌, ℕ, ◌+◌, Bool, true, false, cond, List, [], ◌∷◌, Ok, Err, refl}
use Rattle.std.specs.Prelude.{◌==◌, not, All, IsTrue}
use Rattle.std.proofs.lemmas.Bool.{and_parts}
use Rattle.std.proofs.lemmas.List.Elements.{All-drop, All-filter, All-nil, All-push}
use Rattle.office_map.specs.PlanValue.{PlanValue}
use Rattle.session_meaning.specs.ProgramValue.{ProgramValue}
use Rattle.session_programs.specs.Program.{fits}
use Rattle.site_core.specs.declared.agendas.session.Session.{Session}
use Rattle.site_core.specs.agendas.Agenda.{is_full, submitted}
use Rattle.office_journal.specs.declared.rule.Rule.{Rule}
use Rattle.office_journal.specs.declared.rule.Rule.TheVariants as rule
use Rattle.office_journal.specs.declared.event.Event.{Event}
use Rattle.office_journal.specs.declared.event.Event.TheVariants as event
use Rattle.office_journal.specs.declared.event.Entry.{Entry}
use Rattle.office_journal.specs.declared.reply.Reply.{Reply}
use Rattle.office_journal.specs.declared.reply.Reply.TheVariants as reply
use Rattle.office_journal.specs.declared.reply.Refusal.TheVariants as refusal
use Rattle.site_core.specs.Offices.{Office, Answer, answer, is_ours, submit, opened}
use Rattle.site_core.specs.Journals.{Site, after, AreAccepted, IsLegal}
use Rattle.day_audits.specs.left.refinement.Walks.{with_submitted, after_rule, after_event, left_after}

module _ (plan : PlanValue) (me : ℕ) where
  abbrev Fits : Session → Type 0
  Fits s = IsTrue (fits plan s.program)

  submitted_fits : (o : Office) (p : ProgramValue) (r : Reply) (y : Office) → submit plan me o p ≡ Ok (r, y) → fits plan p ≡ true
  submitted_fits o p r y = go (is_ours plan me p) refl
    where
      go : (a : Bool) → is_ours plan me p ≡ a → cond {A = Answer} a (cond (is_full o.agenda) (Err refusal.QueueFull) (Ok (reply.Ticket (o.agenda.tickets + 1), record { pairs = o.pairs; agenda = submitted o.agenda p }))) (Err refusal.NotOurs) ≡ Ok (r, y) → fits plan p ≡ true
      go true is k = (and_parts (p.office == me) (fits plan p) is).1
      go false is k = absurd cc

  by_submit : (left : List Session) (p : ProgramValue) (r : Reply) → fits plan p ≡ true → All Fits left → All Fits (with_submitted left p r)
  by_submit left p (reply.Ticket t) is h = All-push Fits left (record { ticket = t; program = p }) h is
  by_submit left p reply.Done is h = h
  by_submit left p (reply.Frame f) is h = h
  by_submit left p reply.Acked is h = h
  by_submit left p reply.Taken is h = h
  by_submit left p reply.Repeat is h = h
  by_submit left p reply.Kept is h = h
  by_submit left p reply.Early is h = h

  by_rule : (left : List Session) (r : Rule) → All Fits left → All Fits (after_rule left r)
  by_rule left rule.Start h = h
  by_rule left rule.Hungry h = h
  by_rule left (rule.AskFork v) h = h
  by_rule left (rule.GiveFork v) h = h
  by_rule left rule.Eat h = h
  by_rule left rule.Leave h = h
  by_rule left (rule.AskBottle r) h = h
  by_rule left (rule.GiveBottle r) h = h
  by_rule left rule.Drink h = h
  by_rule left (rule.Work n) h = h
  by_rule left rule.Finish h = All-drop Fits 1 left h

  by_event : (o : Office) (left : List Session) (e : Event) (r : Reply) (y : Office) → answer plan me o e ≡ Ok (r, y) → All Fits left → All Fits (after_event left e r)
  by_event o left (event.Submit p) r y k h = by_submit left p r (submitted_fits o p r y k) h
  by_event o left (event.Do rule) r y k h = by_rule left rule h
  by_event o left (event.Send v i) r y k h = h
  by_event o left (event.Took f) r y k h = h
  by_event o left (event.Withdraw t) r y k h = All-filter (λ (s : Session). not (s.ticket == t)) Fits left h

  by_entries : (o : Office) (left : List Session) (xs : List Entry) → AreAccepted plan me o xs → All Fits left → All Fits (left_after left xs)
  by_entries o left [] h all = all
  by_entries o left (x ∷ xs) (answered, tag, rest) all = by_entries (after plan me o x.event) (after_event left x.event x.reply) xs rest (by_event o left x.event x.reply _ answered all)

pub all_fit : (s : Site) → IsLegal s → All (λ (x : Session). IsTrue (fits s.plan x.program)) (left_after [] s.entries)
all_fit s h = by_entries s.plan s.me (opened s.plan s.me) [] s.entries h.accepted (All-nil (λ (x : Session). IsTrue (fits s.plan x.program)))
