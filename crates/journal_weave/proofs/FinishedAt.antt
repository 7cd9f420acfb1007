-- What an office finished is settled by its entries and by what it tells: the program is the one that was submitted with that ticket.
use Rattle.std.proofs.Common.{◌≡◌, ℕ, Bool, true, false, cond, List, [], ◌∷◌, map, refl, sym, ap, ◌∙◌}
use Rattle.std.specs.Prelude.{◌==◌, All, filter, unwrap_or}
use Rattle.std.proofs.lemmas.List.Elements.{All-head, All-tail, All-filter}
use Rattle.session_meaning.specs.declared.ending.Outcome.{Outcome}
use Rattle.site_core.specs.declared.agendas.session.Session.{Session}
use Rattle.frame_world.specs.Worlds.{World, Finished}
use Rattle.frame_world.specs.Headline.{outcomes}
use Rattle.frame_world.specs.Tickets.{submitted_as, session_of, HasItsTicket, HaveTheirTickets}
use Rattle.journal_weave.specs.Weaving.{entries_at}
use Rattle.journal_weave.specs.WorldRecords.{finished_at}

abbrev outcome_in : Finished → Outcome
outcome_in f = f.outcome

outcomes_at : (p : Outcome → Bool) (fs : List Finished) → filter p (map outcome_in fs) ≡ map outcome_in (filter (λ f. p f.outcome) fs)
outcomes_at p [] = refl
outcomes_at p (f ∷ fs) = by (outcomes_at p fs) (p f.outcome)
  where
    by : filter p (map outcome_in fs) ≡ map outcome_in (filter (λ x. p x.outcome) fs) → (b : Bool) → cond b (f.outcome ∷ filter p (map outcome_in fs)) (filter p (map outcome_in fs)) ≡ map outcome_in (cond b (f ∷ filter (λ x. p x.outcome) fs) (filter (λ x. p x.outcome) fs))
    by rest true = ap (λ l. f.outcome ∷ l) rest
    by rest false = rest

abbrev SameEntries : World → World → Type 0
SameEntries v w = (a : ℕ) → entries_at v a ≡ entries_at w a

same_session : (v w : World) (f g : Finished) → SameEntries v w → HasItsTicket v f → HasItsTicket w g → f.outcome ≡ g.outcome → f ≡ g
same_session v w f g same hf hg o =
    let there : submitted_as (entries_at v f.outcome.office) f.outcome.ticket ≡ submitted_as (entries_at w g.outcome.office) g.outcome.ticket =
    ap (λ l. submitted_as l f.outcome.ticket) (same f.outcome.office) ∙ ap (λ (q : Outcome). submitted_as (entries_at w q.office) q.ticket) o
    in
    let session : session_of f ≡ session_of g = ap (λ s. unwrap_or s (session_of f)) (sym hf ∙ there ∙ hg) in
    ap (λ (s : Session). record { program = s.program; outcome = f.outcome }) session ∙ ap (λ q. record { program = g.program; outcome = q }) o

same_sessions : (v w : World) (fs gs : List Finished) → SameEntries v w → All (HasItsTicket v) fs → All (HasItsTicket w) gs → map outcome_in fs ≡ map outcome_in gs → fs ≡ gs
same_sessions v w [] [] same hf hg o = refl
same_sessions v w [] (g ∷ gs) same hf hg o = cc
same_sessions v w (f ∷ fs) [] same hf hg o = cc
same_sessions v w (f ∷ fs) (g ∷ gs) same hf hg o =
    let one : f.outcome ≡ g.outcome = cc in
    let others : map outcome_in fs ≡ map outcome_in gs = cc in
    ap (λ x. x ∷ fs) (same_session v w f g same (All-head (HasItsTicket v) f fs hf) (All-head (HasItsTicket w) g gs hg) one)
    ∙ ap (λ l. g ∷ l) (same_sessions v w fs gs same (All-tail (HasItsTicket v) f fs hf) (All-tail (HasItsTicket w) g gs hg) others)

pub same_finished : (v w : World) (a : ℕ) → SameEntries v w → HaveTheirTickets v → HaveTheirTickets w →
    filter (λ (o : Outcome). o.office == a) (outcomes v) ≡ filter (λ (o : Outcome). o.office == a) (outcomes w) → finished_at v a ≡ finished_at w a
same_finished v w a same hv hw o =
    let of : Outcome → Bool = λ q. q.office == a in
    let at : Finished → Bool = λ f. f.outcome.office == a in
    same_sessions v w (finished_at v a) (finished_at w a) same (All-filter at (HasItsTicket v) v.finished hv) (All-filter at (HasItsTicket w) w.finished hw)
    (sym (outcomes_at of v.finished) ∙ o ∙ outcomes_at of w.finished)
