-- What follows of finished sessions, and of an office's own tickets.
use Rattle.std.proofs.Common.{◌≡◌, ℕ, ◌<◌, List, [], ◌∷◌, ◌++◌, map, Option, None, Some, refl, arith}
use Rattle.std.specs.Prelude.{All, AllPairs}
use Rattle.std.proofs.lemmas.List.Elements.{All-nil, All-cons, All-weaker}
use Rattle.std.proofs.lemmas.List.Kept.{AllPairs-cons}
use Rattle.session_meaning.specs.declared.ending.Ending.{Ending}
use Rattle.session_meaning.specs.declared.ending.Outcome.{Outcome}
use Rattle.session_machine.specs.Pieces.{ending_after}
use Rattle.site_core.specs.declared.agendas.session.Session.{Session}
use Rattle.office_journal.specs.declared.rule.Rule.{Rule}
use Rattle.office_journal.specs.declared.rule.Rule.TheVariants as rule
use Rattle.office_journal.specs.declared.event.Event as office
use Rattle.office_journal.specs.declared.event.Event.TheVariants as event
use Rattle.site_core.specs.Agenda.{Agenda, Current, Idle, Gathering, Working}
use Rattle.site_core.specs.Journals.{Site, office_of}
use Rattle.site_core.specs.Tickets.{current_tickets, Rise, SessionsGoInOrder}
use Rattle.frame_world.specs.Worlds.{Finished, ended_as, ended, finished_by}
use Rattle.frame_world.specs.Tickets.{IsBelow}

-- ---- what finishes is of the office

abbrev pub IsAt : ℕ → Finished → Type 0
IsAt a f = f.outcome.office ≡ a

ended_at : (a : ℕ) (c : Current) → All (IsAt a) (ended a c)
ended_at a Idle = All-nil (IsAt a)
ended_at a (Gathering s) = All-nil (IsAt a)
ended_at a (Working s reads done) = of (ending_after s.program reads done)
  where
    of : (x : Option Ending) → All (IsAt a) (ended_as a s x)
    of None = All-nil (IsAt a)
    of (Some e) = All-cons (IsAt a) (record { program = s.program; outcome = record { office = a; ticket = s.ticket; ending = e } }) [] refl (All-nil (IsAt a))

rule_at : (a : ℕ) (c : Current) (r : Rule) → All (IsAt a) (finished_by a c (event.Do r))
rule_at a c rule.Start = All-nil (IsAt a)
rule_at a c rule.Hungry = All-nil (IsAt a)
rule_at a c (rule.AskFork v) = All-nil (IsAt a)
rule_at a c (rule.GiveFork v) = All-nil (IsAt a)
rule_at a c rule.Eat = All-nil (IsAt a)
rule_at a c rule.Leave = All-nil (IsAt a)
rule_at a c (rule.AskBottle r) = All-nil (IsAt a)
rule_at a c (rule.GiveBottle r) = All-nil (IsAt a)
rule_at a c rule.Drink = All-nil (IsAt a)
rule_at a c (rule.Work n) = All-nil (IsAt a)
rule_at a c rule.Finish = ended_at a c

pub finished_at : (a : ℕ) (c : Current) (e : office.Event) → All (λ (f : Finished). f.outcome.office ≡ a) (finished_by a c e)
finished_at a c (event.Submit p) = All-nil (IsAt a)
finished_at a c (event.Do r) = rule_at a c r
finished_at a c (event.Send v i) = All-nil (IsAt a)
finished_at a c (event.Took f) = All-nil (IsAt a)
finished_at a c (event.Withdraw t) = All-nil (IsAt a)

-- ---- an office's own tickets rise

-- tickets above k
record RiseFrom (k : ℕ) (os : List Outcome) : Type 0 where
  above : All (λ (o : Outcome). k < o.ticket) os
  rise : AllPairs IsBelow os

rise_from : (k n : ℕ) (os : List Outcome) (rest : List ℕ) → Rise k (map (λ (o : Outcome). o.ticket) os ++ rest) n → RiseFrom k os
rise_from k n [] rest h = record { above = All-nil (λ (o : Outcome). k < o.ticket); rise = λ i j d lt within. absurd (omega (arith, within)) }
rise_from k n (o ∷ os) rest h =
    let later : RiseFrom o.ticket os = rise_from o.ticket n os rest h.1 in
    record {
      above = All-cons (λ (x : Outcome). k < x.ticket) o os h.0 (All-weaker (IsBelow o) (λ (x : Outcome). k < x.ticket) (λ x lt. omega (arith, lt, h.0)) os later.above);
      rise = AllPairs-cons IsBelow o os later.above later.rise;
    }

pub office_tickets_rise : SessionsGoInOrder → (s : Site) → AllPairs IsBelow (office_of s).agenda.outcomes
office_tickets_rise law s =
    let a : Agenda = (office_of s).agenda in
    (rise_from 0 a.tickets a.outcomes (current_tickets a.current ++ map (λ (x : Session). x.ticket) a.queue) (law s)).rise
