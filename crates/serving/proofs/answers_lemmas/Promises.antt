-- What a ticket promises.
use Rattle.std.proofs.Common.{◌≡◌, ◌≢◌, inl, inr, ◌==◌, ℕ, ◌+◌, suc, Bool, true, false, cond, List, [], ◌∷◌, ◌++◌, length, Option, None, Some, Result, Ok, Err, All, refl, sym, ap, subst, ◌∙◌, arith}
use Rattle.std.specs.Prelude.{nat_le, find, option_map}
use Rattle.std.proofs.lemmas.List.Elements.{All-head, All-tail}
use Rattle.std.proofs.lemmas.Bool.{eq-eqb}
use Rattle.office_map.specs.PlanValue.{PlanValue}
use Rattle.session_meaning.specs.ProgramValue.{ProgramValue}
use Rattle.session_meaning.specs.declared.ending.Outcome.{Outcome}
use Rattle.session_programs.specs.Program.{fits}
use Rattle.site_core.specs.declared.agendas.session.Session.{Session}
use Rattle.site_core.specs.agendas.Agenda.{submitted, is_full}
use Rattle.office_journal.specs.declared.event.Event.TheVariants.{Submit}
use Rattle.office_journal.specs.declared.reply.Reply.{Reply}
use Rattle.office_journal.specs.declared.reply.Reply.TheVariants.{Ticket}
use Rattle.office_journal.specs.declared.reply.Refusal.{Refusal}
use Rattle.office_journal.specs.declared.reply.Refusal.TheVariants as refusal
use Rattle.site_core.specs.Limits.{most_entries}
use Rattle.site_core.specs.Offices.{Office, Answer, is_ours}
use Rattle.site_core.specs.Journals.{Site, IsLegal, noted, recorded, office_of}
use Rattle.site_core.specs.JournalLaws.{submitted_more}
use Rattle.site_core.specs.Readers.{outcome_with}
use Rattle.site_core.specs.Submitted.{submitted_in}
use Rattle.session_streams.specs.declared.requests.asked.Asked.TheVariants as ask
use Rattle.serving.specs.answers.Said.{Said}
use Rattle.serving.specs.answers.Answers.{Answers, SaysAgain, known, session_in, session_under, tickets_of}
use Rattle.serving.specs.answers.TicketLaws.{IsGiven, TicketsAreGiven, TicketsAreSafe, office_at}
use Rattle.serving.proofs.answers_lemmas.Numbered.{journal_goes, legal_goes, tickets_are_numbered}
use Rattle.serving.proofs.answers_lemmas.Looked.{first_of, looked_on, none_beyond, outcome_stays, program_with, session_on}

-- ---- a ticket that is given

one_with : (n t : ℕ) (x : ProgramValue) → t ≡ n + 1 → program_with t (record { ticket = n + 1; program = x } ∷ []) ≡ Some x
one_with n t x is = ap (λ b. option_map (λ (y : Session). y.program) (cond b (Some (record { ticket = n + 1; program = x })) None)) (eq-eqb (n + 1) t (sym is))

noted_given : (s : Site) (tag : ℕ) (x : ProgramValue) (t : ℕ) → IsLegal s → t ≡ tickets_of s + 1 → IsGiven s (noted s tag (Submit x) (Ticket (tickets_of s + 1))) x t
noted_given s tag x t legal is = record {
  next = omega (arith, is);
  under =
      ap (program_with t) (submitted_more s.entries (record { tag = tag; event = Submit x; reply = Ticket (tickets_of s + 1) }))
      ∙ looked_on t (submitted_in s.entries) (record { ticket = tickets_of s + 1; program = x } ∷ [])
      ∙ ap (λ (o : Option ProgramValue). first_of o (program_with t (record { ticket = tickets_of s + 1; program = x } ∷ []))) (none_beyond 0 (tickets_of s) t (submitted_in s.entries) (tickets_are_numbered s legal) (omega (arith, is)))
      ∙ one_with (tickets_of s) t x is;
}

pub tickets_are_given : TicketsAreGiven
tickets_are_given s s' tag x t legal (inl (other, same, ok)) = absurd cc
tickets_are_given s s' tag x t legal (inr (is, same)) = go (is_ours s.plan s.me x) (is_full (office_of s).agenda) is same
  where
    more : Office
    more = record { pairs = (office_of s).pairs; agenda = submitted (office_of s).agenda x }

    noted_or : Bool → Result Reply Refusal × Site
    noted_or c = cond c (Err refusal.JournalFull, s) (Ok (Ticket (tickets_of s + 1)), noted s tag (Submit x) (Ticket (tickets_of s + 1)))

    room : (c : Bool) → Ok (Ticket t) ≡ (noted_or c).0 → s' ≡ (noted_or c).1 → IsGiven s s' x t
    room true k e = absurd cc
    room false k e =
        let number : t ≡ tickets_of s + 1 = cc in
        subst (λ (z : Site). IsGiven s z x t) (sym e) (noted_given s tag x t legal number)

    go : (a b : Bool) → Ok (Ticket t) ≡ (recorded s tag (Submit x) (cond {A = Answer} a (cond b (Err refusal.QueueFull) (Ok (Ticket (tickets_of s + 1), more))) (Err refusal.NotOurs))).0
        → s' ≡ (recorded s tag (Submit x) (cond {A = Answer} a (cond b (Err refusal.QueueFull) (Ok (Ticket (tickets_of s + 1), more))) (Err refusal.NotOurs))).1 → IsGiven s s' x t
    go true true k e = absurd cc
    go false b k e = absurd cc
    go true false k e = room (nat_le most_entries (length s.entries)) k e

-- ---- a ticket that was given

-- it isn't the next
not_next : (s : Site) (t : ℕ) (x : ProgramValue) → IsLegal s → session_under s t ≡ Some x → t ≢ suc (tickets_of s)
not_next s t x legal under next = let none : session_under s t ≡ None = none_beyond 0 (tickets_of s) t (submitted_in s.entries) (tickets_are_numbered s legal) (omega (arith, next)) in absurd cc

said_same : (s : Site) (t : ℕ) (x : ProgramValue) (said : Said) → SaysAgain s t x (Some x) said → said ≡ known s t
said_same s t x said (inl (same, is)) = is
said_same s t x said (inr (other, is)) = absurd (other refl)

asked_again : (s : Site) (tag t : ℕ) (x : ProgramValue) (said : Said) (s' : Site) → IsLegal s → session_under s t ≡ Some x → Answers tag s (ask.Numbered t x) said s' → (s' ≡ s) × (said ≡ known s t)
asked_again s tag t x said s' legal under (inl (next, says)) = absurd (not_next s t x legal under next)
asked_again s tag t x said s' legal under (inr (other, same, says)) = (same, said_same s t x said (subst (λ (o : Option ProgramValue). SaysAgain s t x o said) under says))

pub tickets_are_safe : TicketsAreSafe
tickets_are_safe plan me es more t x legal under =
    let keeps : session_in t (es ++ more) ≡ Some x = session_on t es more ∙ ap (λ (o : Option ProgramValue). first_of o (session_in t more)) under in
    let goes = journal_goes plan me es more legal in
    record {
      keeps = keeps;
      again = λ tag said s'. asked_again (office_at plan me (es ++ more)) tag t x said s' legal keeps;
      stays = λ o ended. ap (λ (os : List Outcome). outcome_with os t) (sym goes.more.1) ∙ outcome_stays t (office_of (office_at plan me es)).agenda.outcomes goes.more.0 o ended;
    }

-- ---- the session that has a ticket

all_with : (plan : PlanValue) (t : ℕ) (xs : List Session) (y : ProgramValue) → All (λ (x : Session). fits plan x.program ≡ true) xs → program_with t xs ≡ Some y → fits plan y ≡ true
all_with plan t [] y h e = absurd cc
all_with plan t (x ∷ xs) y h e = go (x.ticket == t) e (all_with plan t xs y (All-tail (λ (x : Session). fits plan x.program ≡ true) x xs h))
  where
    go : (b : Bool) → option_map (λ (x : Session). x.program) (cond b (Some x) (find (λ (x : Session). x.ticket == t) xs)) ≡ Some y → (program_with t xs ≡ Some y → fits plan y ≡ true) → fits plan y ≡ true
    go true k rest = let same : x.program ≡ y = cc in subst (λ z. fits plan z ≡ true) same (All-head (λ (x : Session). fits plan x.program ≡ true) x xs h)
    go false k rest = rest k

-- it fits the plan
pub session_fits : (s : Site) (t : ℕ) (y : ProgramValue) → IsLegal s → session_under s t ≡ Some y → fits s.plan y ≡ true
session_fits s t y legal under = all_with s.plan t (submitted_in s.entries) y (legal_goes s legal).fit under
