-- The sessions that an office finished: their outcomes are the office's, and each is found by its ticket.
use Rattle.std.proofs.Common.{◌≡◌, ℕ, suc, ◌+◌, ◌<◌, ◌≤◌, Bool, true, false, cond, List, [], ◌∷◌, ◌++◌, length, map, get_or, Option, None, Some, option_map, refl, sym, ap, subst, ◌∙◌, arith, append_assoc, append-nil}
use Rattle.std.specs.Prelude.{◌==◌, All, AllPairs, find, is_some, unwrap_or}
use Rattle.std.proofs.lemmas.Bool.{eq-eqb, ne_eqb}
use Rattle.std.proofs.lemmas.List.{map-append, length-append, length-map}
use Rattle.std.proofs.lemmas.List.Elements.{All-nil, All-cons, All-head, All-tail, All-append}
use Rattle.office_map.specs.PlanValue.{PlanValue}
use Rattle.session_meaning.specs.declared.ending.Outcome.{Outcome}
use Rattle.site_core.specs.declared.agendas.session.Session.{Session}
use Rattle.office_journal.specs.declared.event.Event.{Event}
use Rattle.office_journal.specs.declared.event.Entry.{Entry}
use Rattle.office_journal.specs.declared.reply.Reply.{Reply}
use Rattle.site_core.specs.Agenda.{Agenda, Current, Idle, Gathering, Working, unfinished, unfinished_current}
use Rattle.site_core.specs.Offices.{Office, opened}
use Rattle.site_core.specs.Journals.{Site, after, run_of, office_of, noted, AreAccepted, IsLegal}
use Rattle.site_core.specs.Readers.{outcome_with}
use Rattle.site_core.specs.Tickets.{current_tickets, Rise, SessionsGoInOrder}
use Rattle.frame_world.specs.Worlds.{Finished, finished_by}
use Rattle.frame_world.specs.Tickets.{IsBelow}
use Rattle.frame_world.specs.TicketLaws.{finished_at}
use Rattle.frame_world.proofs.Tickets.{outcomes_grow}
use Rattle.world_schedule.specs.refinement.WorldOfCode.{finishes, finished_from, finished_of, has_ticket}

abbrev pub outcomes_in : List Finished → List Outcome
outcomes_in fs = map (λ (f : Finished). f.outcome) fs

-- ---- what one entry more finishes

pub from_append : (plan : PlanValue) (me : ℕ) (o : Office) (xs : List Entry) (x : Entry) → finished_from plan me o (xs ++ x ∷ []) ≡ finished_from plan me o xs ++ finished_by me (run_of plan me o xs).agenda.current x.event
from_append plan me o [] x = append-nil (finished_by me o.agenda.current x.event)
from_append plan me o (y ∷ ys) x =
    ap (λ l. finished_by me o.agenda.current y.event ++ l) (from_append plan me (after plan me o y.event) ys x)
    ∙ sym (append_assoc (finished_by me o.agenda.current y.event) (finished_from plan me (after plan me o y.event) ys) _)

pub finished_noted : (s : Site) (tag : ℕ) (e : Event) (r : Reply) → finished_of (noted s tag e r) ≡ finished_of s ++ finishes s e
unfolding finished_of office_of
finished_noted s tag e r = from_append s.plan s.me (opened s.plan s.me) s.entries _

-- ---- their outcomes and offices

outcomes_from : (plan : PlanValue) (me : ℕ) (o : Office) (xs : List Entry) → AreAccepted plan me o xs → (run_of plan me o xs).agenda.outcomes ≡ o.agenda.outcomes ++ outcomes_in (finished_from plan me o xs)
outcomes_from plan me o [] h = sym (append-nil o.agenda.outcomes)
outcomes_from plan me o (x ∷ xs) (ok, tag, rest) =
    let o' : Office = after plan me o x.event in
    let here : List Finished = finished_by me o.agenda.current x.event in
    let later : List Finished = finished_from plan me o' xs in
    outcomes_from plan me o' xs rest ∙ ap (λ l. l ++ outcomes_in later) (outcomes_grow plan me o x.event x.reply o' ok) ∙ append_assoc o.agenda.outcomes (outcomes_in here) (outcomes_in later)
    ∙ ap (λ l. o.agenda.outcomes ++ l) (sym (map-append (λ (f : Finished). f.outcome) here later))

pub outcomes_told : (s : Site) → IsLegal s → (office_of s).agenda.outcomes ≡ outcomes_in (finished_of s)
unfolding finished_of office_of
outcomes_told s h = outcomes_from s.plan s.me (opened s.plan s.me) s.entries h.accepted

abbrev IsBy : ℕ → Finished → Type 0
IsBy me f = f.outcome.office ≡ me

from_here : (plan : PlanValue) (me : ℕ) (o : Office) (xs : List Entry) → All (IsBy me) (finished_from plan me o xs)
from_here plan me o [] = All-nil (IsBy me)
from_here plan me o (x ∷ xs) = All-append (IsBy me) (finished_by me o.agenda.current x.event) (finished_from plan me (after plan me o x.event) xs) (finished_at me o.agenda.current x.event) (from_here plan me (after plan me o x.event) xs)

pub finished_here : (s : Site) → All (λ (f : Finished). f.outcome.office ≡ s.me) (finished_of s)
unfolding finished_of
finished_here s = from_here s.plan s.me (opened s.plan s.me) s.entries

-- ---- what is found

-- what is found passes, and what holds of each holds of it
pub found_passes : (p : Finished → Bool) (fs : List Finished) (f : Finished) → find p fs ≡ Some f → p f ≡ true
found_passes p [] f e = absurd cc
found_passes p (x ∷ fs) f e = by (p x) refl e (λ k. found_passes p fs f k)
  where
    by : (b : Bool) → p x ≡ b → cond b (Some x) (find p fs) ≡ Some f → (find p fs ≡ Some f → p f ≡ true) → p f ≡ true
    by true is k later = let same : x ≡ f = cc in ap p (sym same) ∙ is
    by false is k later = later k

pub found_all : (P : Finished → Type 0) (p : Finished → Bool) (fs : List Finished) (f : Finished) → All P fs → find p fs ≡ Some f → P f
found_all P p [] f h e = absurd cc
found_all P p (x ∷ fs) f h e = by (p x) e (λ k. found_all P p fs f (All-tail P x fs h) k)
  where
    by : (b : Bool) → cond b (Some x) (find p fs) ≡ Some f → (find p fs ≡ Some f → P f) → P f
    by true k later = let same : x ≡ f = cc in subst P same (All-head P x fs h)
    by false k later = later k

pub found_some : (o : Option Finished) (d : Finished) → is_some o ≡ true → o ≡ Some (unwrap_or o d)
found_some None d e = absurd cc
found_some (Some x) d e = refl

-- by the outcomes' tickets the outcome of the same one is found
pub outcome_found : (ticket : ℕ) (fs : List Finished) → outcome_with (outcomes_in fs) ticket ≡ option_map (λ (f : Finished). f.outcome) (find (has_ticket ticket) fs)
outcome_found ticket [] = refl
outcome_found ticket (f ∷ fs) = by (f.outcome.ticket == ticket) (outcome_found ticket fs)
  where
    by : (b : Bool) → outcome_with (outcomes_in fs) ticket ≡ option_map (λ (g : Finished). g.outcome) (find (has_ticket ticket) fs) →
        cond b (Some f.outcome) (outcome_with (outcomes_in fs) ticket) ≡ option_map (λ (g : Finished). g.outcome) (cond b (Some f) (find (has_ticket ticket) fs))
    by true later = refl
    by false later = later

-- ---- where tickets rise, each is found by its own

below_all : (o : Outcome) (fs : List Finished) → All (IsBelow o) (outcomes_in fs) → All (λ (f : Finished). o.ticket < f.outcome.ticket) fs
below_all o [] h = All-nil (λ (f : Finished). o.ticket < f.outcome.ticket)
below_all o (f ∷ fs) h = All-cons (λ (g : Finished). o.ticket < g.outcome.ticket) f fs (All-head (IsBelow o) f.outcome (outcomes_in fs) h) (below_all o fs (All-tail (IsBelow o) f.outcome (outcomes_in fs) h))

abbrev pub IsFoundIn : List Finished → Finished → Type 0
IsFoundIn fs f = find (has_ticket f.outcome.ticket) fs ≡ Some f

pub each_is_found : (fs : List Finished) → AllPairs IsBelow (outcomes_in fs) → All (IsFoundIn fs) fs
each_is_found [] h = All-nil (IsFoundIn [])
each_is_found (x ∷ fs) h =
    All-cons (IsFoundIn (x ∷ fs)) x fs (ap (λ b. cond b (Some x) (find (has_ticket x.outcome.ticket) fs)) (eq-eqb x.outcome.ticket x.outcome.ticket refl))
    (later (each_is_found fs (λ i j d lt within. h (suc i) (suc j) d (omega (arith, lt)) (omega (arith, within)))))
  where
    above : All (λ (f : Finished). x.outcome.ticket < f.outcome.ticket) fs
    above = below_all x.outcome fs (λ k d within. h 0 (suc k) d (omega arith) (omega (arith, within)))

    later : All (IsFoundIn fs) fs → All (IsFoundIn (x ∷ fs)) fs
    later rest k d within =
        let f : Finished = get_or fs k d in
        let lt : x.outcome.ticket < f.outcome.ticket = above k d within in
        ap (λ b. cond b (Some x) (find (has_ticket f.outcome.ticket) fs)) (ne_eqb x.outcome.ticket f.outcome.ticket (λ e. omega (arith, lt, e))) ∙ rest k d within

-- ---- how many sessions are left

rise_within : (k n : ℕ) (ts : List ℕ) → Rise k ts n → k + length ts ≤ n
rise_within k n [] h = omega (arith, h)
rise_within k n (t ∷ ts) h = omega (arith, h.0, rise_within t n ts h.1)

current_count : (c : Current) → length (current_tickets c) ≡ unfinished_current c
current_count Idle = refl
current_count (Gathering s) = refl
current_count (Working s reads done) = refl

-- no more than tickets were given
pub unfinished_within : SessionsGoInOrder → (s : Site) → unfinished (office_of s).agenda ≤ (office_of s).agenda.tickets
unfinished_within law s =
    let a : Agenda = (office_of s).agenda in
    let finished : List ℕ = map (λ (o : Outcome). o.ticket) a.outcomes in
    let waiting : List ℕ = map (λ (x : Session). x.ticket) a.queue in
    omega (
      arith,
      rise_within 0 a.tickets (finished ++ (current_tickets a.current ++ waiting)) (law s),
      length-append finished (current_tickets a.current ++ waiting),
      length-append (current_tickets a.current) waiting,
      length-map a.queue (λ (x : Session). x.ticket),
      current_count a.current,
    )
