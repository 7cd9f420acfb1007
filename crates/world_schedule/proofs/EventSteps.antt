-- What each kind of event leaves beside the offices.
use Rattle.std.proofs.Common.{◌≡◌, ℕ, ◌+◌, ◌<◌, Bool, true, false, cond, List, [], ◌∷◌, ◌++◌, length, map, get_or, set, Option, None, Some, option_map, Ok, Err, refl, sym, ap, subst, ◌∙◌, arith, append-nil}
use Rattle.std.specs.Prelude.{Result, All, AllPairs, IfOk, OnErr, is_some}
use Rattle.std.specs.List.{range_with_len}
use Rattle.std.proofs.lemmas.Bool.{and_parts}
use Rattle.std.proofs.lemmas.List.{map-append, get_or-set_same}
use Rattle.std.proofs.lemmas.List.Elements.{All-nil, All-tail}
use Rattle.std.proofs.lemmas.List.FromFn.{length-map-range_with_len, get_or-map-range_with_len}
use Rattle.frame_codec.specs.Frame.{Fields, IsFrame}
use Rattle.window_link.specs.declared.arrival.Arrival.{Arrival}
use Rattle.window_link.specs.declared.arrival.Arrival.TheVariants as arrival
use Rattle.office_map.specs.PlanValue.{PlanValue}
use Rattle.office_map.specs.Consistency.{IsAccepted}
use Rattle.session_meaning.specs.declared.ending.Ending.{Ending}
use Rattle.session_meaning.specs.ProgramValue.{ProgramValue}
use Rattle.session_machine.specs.Pieces.{ending_after}
use Rattle.token_channel.specs.declared.fault.ChannelFault.{ChannelFault}
use Rattle.office_journal.specs.declared.rule.Rule.{Rule}
use Rattle.office_journal.specs.declared.rule.Rule.TheVariants as rule
use Rattle.office_journal.specs.declared.event.Event.{Event}
use Rattle.office_journal.specs.declared.event.Event.TheVariants as event
use Rattle.office_journal.specs.declared.reply.Reply.{Reply}
use Rattle.office_journal.specs.declared.reply.Reply.TheVariants as reply
use Rattle.office_journal.specs.declared.reply.Refusal.{Refusal}
use Rattle.office_journal.specs.declared.reply.Refusal.TheVariants as refused
use Rattle.site_core.specs.Replies.{reply_to}
use Rattle.site_core.specs.Pairs.{frame_fault, arrival_of}
use Rattle.site_core.specs.Agenda.{Current, Idle, Gathering, Working, writes_of, is_full, submitted}
use Rattle.site_core.specs.Offices.{Office, Answer, may, act, is_ours, answer, unless_faulty, may_withdraw, withdrawn, withdraw, done_if}
use Rattle.site_core.specs.Journals.{Site, next_or, office_of, noted, Steps, IsLegal}
use Rattle.site_core.specs.Tickets.{SessionsGoInOrder}
use Rattle.site_core.specs.JournalLaws.{legal_empty, office_noted}
use Rattle.frame_world.specs.declared.refusal.WorldRefusal.{WorldRefusal}
use Rattle.frame_world.specs.Worlds.{Finished, silent, frames_of, finished_by, ended, ended_as}
use Rattle.frame_world.specs.Tickets.{IsBelow}
use Rattle.frame_world.specs.TicketLaws.{office_tickets_rise}
use Rattle.frame_world.proofs.Tickets.{outcomes_grow}
use Rattle.world_schedule.specs.declared.finished.Finished as mark
use Rattle.world_schedule.specs.Readers.{listed_as}
use Rattle.world_schedule.specs.refinement.WorldOfCode.{finishes, finished_of, IsSiteOf, IsKnown, IsWorld}
use Rattle.world_schedule.proofs.FinishedSessions.{outcomes_in, outcomes_told, finished_noted, IsFoundIn, each_is_found}
use Rattle.world_schedule.proofs.SiteSteps.{Stepped, Refused, OutOfMemory, Accepted, stepped}
use Rattle.world_schedule.proofs.WorldSteps.{Accepts, Lists, Beside}

-- ---- replies

-- the frame in an answer
abbrev frames_in : Answer → List Fields
frames_in (Ok x) = frames_of x.0
frames_in (Err e) = []

submit_tells : (plan : PlanValue) (me : ℕ) (o : Office) (p : ProgramValue) (r : Reply) (o' : Office) → answer plan me o (event.Submit p) ≡ Ok (r, o') → frames_of r ≡ []
submit_tells plan me o p r o' h = go (is_ours plan me p) (is_full o.agenda) h
  where
    go : (a b : Bool) → cond {A = Answer} a (cond b (Err refused.QueueFull) (Ok (reply.Ticket (o.agenda.tickets + 1), record { pairs = o.pairs; agenda = submitted o.agenda p }))) (Err refused.NotOurs) ≡ Ok (r, o') → frames_of r ≡ []
    go true true e = absurd cc
    go false b e = absurd cc
    go true false e = sym (ap frames_in e)

pub rule_holds : (plan : PlanValue) (me : ℕ) (o : Office) (x : Rule) (r : Reply) (o' : Office) → answer plan me o (event.Do x) ≡ Ok (r, o') → (may plan me o x ≡ true) × (frames_of r ≡ [])
rule_holds plan me o x r o' h = go (may plan me o x) refl h
  where
    go : (b : Bool) → may plan me o x ≡ b → cond {A = Answer} b (Ok (reply.Done, act me o x)) (Err refused.NotNow) ≡ Ok (r, o') → (may plan me o x ≡ true) × (frames_of r ≡ [])
    go true is e = (is, sym (ap frames_in e))
    go false is e = absurd cc

withdraw_tells : (o : Office) (ticket : ℕ) (r : Reply) (o' : Office) → withdraw o ticket ≡ Ok (r, o') → frames_of r ≡ []
withdraw_tells o ticket r o' h = go (may_withdraw o ticket) h
  where
    go : (b : Bool) → done_if b (withdrawn o ticket) ≡ Ok (r, o') → frames_of r ≡ []
    go true e = sym (ap frames_in e)
    go false e = absurd cc

arrival_tells : (a : Arrival) → frames_of (reply_to a) ≡ []
arrival_tells arrival.Acked = refl
arrival_tells (arrival.Fresh m) = refl
arrival_tells arrival.Repeat = refl
arrival_tells arrival.Kept = refl
arrival_tells arrival.Early = refl

take_tells : (plan : PlanValue) (me : ℕ) (o : Office) (f : Fields) (r : Reply) (o' : Office) → answer plan me o (event.Took f) ≡ Ok (r, o') → frames_of r ≡ []
take_tells plan me o f r o' h = go (frame_fault plan me o.pairs f) h
  where
    go : (x : Option ChannelFault) → unless_faulty plan me o f x ≡ Ok (r, o') → frames_of r ≡ []
    go None e = sym (ap frames_in e) ∙ arrival_tells (arrival_of o.pairs f)
    go (Some fault) e = absurd cc

-- ---- what an office finishes it finds

found_then : SessionsGoInOrder → (s : Site) (e : Event) (r : Reply) (o : Office) → IsLegal s → Accepts s e r o → All (IsFoundIn (finished_of (noted s 0 e r))) (finishes s e)
found_then law s e r o legal accepts =
    let s' : Site = noted s 0 e r in
    let now : office_of s' ≡ o = office_noted s 0 e r ∙ ap (next_or (office_of s)) accepts in
    let told : (office_of s').agenda.outcomes ≡ outcomes_in (finished_of s') =
    ap (λ (k : Office). k.agenda.outcomes) now ∙ outcomes_grow s.plan s.me (office_of s) e r o accepts ∙ ap (λ l. l ++ outcomes_in (finishes s e)) (outcomes_told s legal)
    ∙ sym (map-append (λ (f : Finished). f.outcome) (finished_of s) (finishes s e)) ∙ ap outcomes_in (sym (finished_noted s 0 e r)) in
    let found : All (IsFoundIn (finished_of s')) (finished_of s') = each_is_found (finished_of s') (subst (λ l. AllPairs IsBelow l) told (office_tickets_rise law s')) in
    all_right (IsFoundIn (finished_of s')) (finished_of s) (finishes s e) (subst (λ l. All (IsFoundIn (finished_of s')) l) (finished_noted s 0 e r) found)
  where
    all_right : (P : Finished → Type 0) (fs more : List Finished) → All P (fs ++ more) → All P more
    all_right P [] more h = h
    all_right P (f ∷ fs) more h = all_right P fs more (All-tail P f (fs ++ more) h)

-- ---- what is beside

lists_nothing : (s : Site) (e : Event) (r : Reply) (marks : List mark.Finished) → finishes s e ≡ [] → Lists s e r marks marks
lists_nothing s e r marks nothing = record {
  pushed = sym (append-nil marks) ∙ ap (λ l. marks ++ map listed_as l) (sym nothing);
  found = subst (All (IsFoundIn (finished_of (noted s 0 e r)))) (sym nothing) (All-nil (IsFoundIn (finished_of (noted s 0 e r))));
}

-- nothing is added
unmoved : (plan : PlanValue) (sites : List Site) (a : ℕ) (e : Event) (result : Result Reply WorldRefusal) (sites' : List Site) (frames : List Fields) (marks : List mark.Finished) →
    ((r : Reply) (o : Office) → Accepts (get_or sites a (silent plan a)) e r o → frames_of r ≡ []) → finishes (get_or sites a (silent plan a)) e ≡ [] → Beside plan sites a e result sites' frames frames marks marks
unmoved plan sites a e result sites' frames marks tells nothing = record {
  kept = λ r o h is. sym (append-nil frames) ∙ ap (λ l. frames ++ l) (sym (tells r o h));
  unsent = λ x is. refl;
  fit = λ r o h is. subst (All IsFrame) (sym (tells r o h)) (All-nil IsFrame);
  listed = λ r o lt h is. lists_nothing (get_or sites a (silent plan a)) e r marks nothing;
  unlisted = λ x is. refl;
}

pub beside_submit : (plan : PlanValue) (sites : List Site) (a : ℕ) (p : ProgramValue) (result : Result Reply WorldRefusal) (sites' : List Site) (frames : List Fields) (marks : List mark.Finished) → Beside plan sites a (event.Submit p) result sites' frames frames marks marks
beside_submit plan sites a p result sites' frames marks =
    let s = get_or sites a (silent plan a) in
    unmoved plan sites a (event.Submit p) result sites' frames marks (λ r o h. submit_tells s.plan s.me (office_of s) p r o h) refl

pub beside_withdraw : (plan : PlanValue) (sites : List Site) (a ticket : ℕ) (result : Result Reply WorldRefusal) (sites' : List Site) (frames : List Fields) (marks : List mark.Finished) → Beside plan sites a (event.Withdraw ticket) result sites' frames frames marks marks
beside_withdraw plan sites a ticket result sites' frames marks =
    let s = get_or sites a (silent plan a) in
    unmoved plan sites a (event.Withdraw ticket) result sites' frames marks (λ r o h. withdraw_tells (office_of s) ticket r o h) refl

pub beside_take : (plan : PlanValue) (sites : List Site) (a : ℕ) (f : Fields) (result : Result Reply WorldRefusal) (sites' : List Site) (frames : List Fields) (marks : List mark.Finished) → Beside plan sites a (event.Took f) result sites' frames frames marks marks
beside_take plan sites a f result sites' frames marks =
    let s = get_or sites a (silent plan a) in
    unmoved plan sites a (event.Took f) result sites' frames marks (λ r o h. take_tells s.plan s.me (office_of s) f r o h) refl

quiet_rule : (a : ℕ) (c : Current) (x : Rule) → (x ≡ rule.Finish → ⊥) → finished_by a c (event.Do x) ≡ []
quiet_rule a c rule.Start n = refl
quiet_rule a c rule.Hungry n = refl
quiet_rule a c (rule.AskFork v) n = refl
quiet_rule a c (rule.GiveFork v) n = refl
quiet_rule a c rule.Eat n = refl
quiet_rule a c rule.Leave n = refl
quiet_rule a c (rule.AskBottle r) n = refl
quiet_rule a c (rule.GiveBottle r) n = refl
quiet_rule a c rule.Drink n = refl
quiet_rule a c (rule.Work k) n = refl
quiet_rule a c rule.Finish n = absurd (n refl)

pub beside_rule : (plan : PlanValue) (sites : List Site) (a : ℕ) (x : Rule) (result : Result Reply WorldRefusal) (sites' : List Site) (frames : List Fields) (marks : List mark.Finished) → (x ≡ rule.Finish → ⊥) → Beside plan sites a (event.Do x) result sites' frames frames marks marks
beside_rule plan sites a x result sites' frames marks n =
    let s = get_or sites a (silent plan a) in
    unmoved plan sites a (event.Do x) result sites' frames marks (λ r o h. (rule_holds s.plan s.me (office_of s) x r o h).1) (quiet_rule s.me (office_of s).agenda.current x n)

-- a session finishes where its work has ended
one_ended : (a : ℕ) (c : Current) → is_some (writes_of c) ≡ true → (f : Finished) × (ended a c ≡ f ∷ [])
one_ended a Idle h = absurd cc
one_ended a (Gathering s) h = absurd cc
one_ended a (Working s reads done) h = go (ending_after s.program reads done) refl h
  where
    go : (x : Option Ending) → ending_after s.program reads done ≡ x → is_some (option_map (λ (e : Ending). e.writes) x) ≡ true → (f : Finished) × (ended a (Working s reads done) ≡ f ∷ [])
    go None is e = absurd cc
    go (Some x) is e = (record { program = s.program; outcome = record { office = a; ticket = s.ticket; ending = x } }, ap (ended_as a s) is)

-- an office that finishes a session finishes one, whose outcome comes last
pub record FinishesOne (s s' : Site) : Type 0 where
  pub session : Finished
  pub one : finishes s (event.Do rule.Finish) ≡ session ∷ []
  pub last : (office_of s').agenda.outcomes ≡ (office_of s).agenda.outcomes ++ session.outcome ∷ []

finishes_one : (s s' : Site) (r : Reply) → Steps s 0 (event.Do rule.Finish) (Ok r) s' → FinishesOne s s'
finishes_one s s' r steps = go (stepped s (event.Do rule.Finish) (Ok r) s' steps)
  where
    go : Stepped s (event.Do rule.Finish) (Ok r) s' → FinishesOne s s'
    go (Refused x told kept is) = absurd cc
    go (OutOfMemory told kept ok) = absurd cc
    go (Accepted x o accepts told grown is) =
        let one = one_ended s.me (office_of s).agenda.current (and_parts _ _ (rule_holds s.plan s.me (office_of s) rule.Finish x o accepts).0).1 in
        let now : office_of s' ≡ o = ap office_of grown ∙ office_noted s 0 (event.Do rule.Finish) x ∙ ap (next_or (office_of s)) accepts in
        record {
          session = one.0;
          one = one.1;
          last = ap (λ (k : Office). k.agenda.outcomes) now ∙ outcomes_grow s.plan s.me (office_of s) (event.Do rule.Finish) x o accepts ∙ ap (λ l. (office_of s).agenda.outcomes ++ outcomes_in l) one.1;
        }

-- so one of several offices does
pub finishes_there : (sites : List Site) (i k : ℕ) (s next s' : Site) (answer : Result Reply Refusal) (r : Reply) → i < length sites → k ≡ i → s' ≡ get_or (set sites i next) k s' → Steps s 0 (event.Do rule.Finish) answer next → answer ≡ Ok r → FinishesOne s s'
finishes_there sites i k s next s' answer r lt same there steps is =
    subst (FinishesOne s) (sym (there ∙ ap (λ x. get_or (set sites i next) x s') same ∙ get_or-set_same sites i next s' lt))
    (finishes_one s next r (subst (λ x. Steps s 0 (event.Do rule.Finish) x next) is steps))

pub beside_finish : (plan : PlanValue) (sites : List Site) (a : ℕ) (result : Result Reply WorldRefusal) (sites' : List Site) (frames : List Fields) (marks marks' : List mark.Finished) → SessionsGoInOrder → (a < length sites → IsLegal (get_or sites a (silent plan a))) →
    ((r : Reply) → result ≡ Ok r → marks' ≡ marks ++ map listed_as (finishes (get_or sites a (silent plan a)) (event.Do rule.Finish))) → ((x : WorldRefusal) → result ≡ Err x → marks' ≡ marks) →
    Beside plan sites a (event.Do rule.Finish) result sites' frames frames marks marks'
beside_finish plan sites a result sites' frames marks marks' law legal pushed same =
    let s = get_or sites a (silent plan a) in
    record {
      kept = λ r o h is. sym (append-nil frames) ∙ ap (λ l. frames ++ l) (sym (rule_holds s.plan s.me (office_of s) rule.Finish r o h).1);
      unsent = λ x is. refl;
      fit = λ r o h is. subst (All IsFrame) (sym (rule_holds s.plan s.me (office_of s) rule.Finish r o h).1) (All-nil IsFrame);
      listed = λ r o lt h is. record { pushed = pushed r is; found = found_then law s (event.Do rule.Finish) r o (legal lt) h };
      unlisted = same;
    }

pub beside_send : (plan : PlanValue) (sites : List Site) (a v i : ℕ) (result : Result Reply WorldRefusal) (sites' : List Site) (frames frames' : List Fields) (marks : List mark.Finished) →
    ((r : Reply) → result ≡ Ok r → frames' ≡ frames ++ frames_of r) → ((r : Reply) → result ≡ Ok r → All IsFrame (frames_of r)) → ((x : WorldRefusal) → result ≡ Err x → frames' ≡ frames) →
    Beside plan sites a (event.Send v i) result sites' frames frames' marks marks
beside_send plan sites a v i result sites' frames frames' marks sent fit same = record {
  kept = λ r o h is. sent r is;
  unsent = same;
  fit = λ r o h is. fit r is;
  listed = λ r o lt h is. lists_nothing (get_or sites a (silent plan a)) (event.Send v i) r marks refl;
  unlisted = λ x is. refl;
}

-- ---- what the calls tell

pub of_ok : (P : Reply → Type 0) (result : Result Reply WorldRefusal) → IfOk result P → (r : Reply) → result ≡ Ok r → P r
of_ok P result h r e = subst (λ x. IfOk x P) e h

pub of_err : (P : Type 0) (result : Result Reply WorldRefusal) → OnErr result P → (x : WorldRefusal) → result ≡ Err x → P
of_err P result h x e = subst (λ y. OnErr y P) e h

-- ---- the opening

pub opens : (plan : PlanValue) (sites : List Site) → IsAccepted plan → sites ≡ map (silent plan) (range_with_len 0 (length plan.offices)) → IsWorld plan sites [] []
opens plan sites accepted is =
    let count : length sites ≡ length plan.offices = ap length is ∙ length-map-range_with_len (silent plan) 0 (length plan.offices) in
    record {
      accepted = accepted;
      count = count;
      each = λ a lt. subst (IsSiteOf plan a) (sym (ap (λ l. get_or l a (silent plan a)) is ∙ get_or-map-range_with_len (silent plan) 0 (length plan.offices) a a (silent plan a) (omega (arith, lt, count)) (omega arith))) (refl, refl, legal_empty plan a);
      known = All-nil (IsKnown plan sites);
      fit = All-nil IsFrame;
      reached = record { events = []; leads = ap (λ l. record { plan = plan; sites = l; frames = []; finished = [] }) (sym is) };
    }
