-- The world that events left, by its parts: of each office the finishing list has what its journal finishes, so each is found again.
use Rattle.std.proofs.Common.{◌≡◌, ℕ, zero, suc, ◌<◌, ◌≤◌, Bool, true, false, cond, List, [], ◌∷◌, ◌++◌, length, map, get_or, Some, refl, sym, ap, subst, ◌∙◌, arith, ⊎_elim, append-nil}
use Rattle.std.specs.Prelude.{◌==◌, All, AllPairs, filter, find, is_some, unwrap_or}
use Rattle.std.proofs.lemmas.Bool.{cases_eq, cases_lt, eq-eqb, ne_eqb}
use Rattle.std.proofs.lemmas.List.{get_or_past}
use Rattle.std.proofs.lemmas.Option.{get_or_from_slice_get, slice_get-get_or}
use Rattle.std.proofs.lemmas.List.Elements.{All-nil, All-cons, All-head, All-tail, All-map, filter-append}
use Rattle.bottle_values.specs.Maps.{put}
use Rattle.bottle_values.specs.MapLaws.{put_at, put_other}
use Rattle.frame_codec.specs.Frame.{Fields, IsFrame}
use Rattle.office_map.specs.PlanValue.{PlanValue}
use Rattle.office_map.specs.Consistency.{IsAccepted}
use Rattle.session_meaning.specs.declared.ending.Outcome.{Outcome}
use Rattle.office_journal.specs.declared.event.Entry.{Entry}
use Rattle.site_core.specs.Offices.{Office, opened}
use Rattle.site_core.specs.Journals.{Site, next_or, after, run_of, office_of, IsLegal}
use Rattle.site_core.specs.Tickets.{SessionsGoInOrder}
use Rattle.frame_world.specs.declared.event.WorldEvent.{WorldEvent}
use Rattle.frame_world.specs.Worlds.{World, Finished, silent, opening, site_at, finished_by}
use Rattle.frame_world.specs.Worlds as worlds
use Rattle.frame_world.specs.WorldStates as states
use Rattle.frame_world.specs.WorldLaws.{through, seated}
use Rattle.frame_world.specs.Headline.{outcomes}
use Rattle.frame_world.specs.Tickets.{IsBelow, TellsEachOffice}
use Rattle.frame_world.specs.TicketLaws.{finished_at, office_tickets_rise}
use Rattle.world_schedule.specs.declared.finished.Finished as mark
use Rattle.world_schedule.specs.Readers.{listed_as, mark_of}
use Rattle.world_schedule.specs.refinement.LeftWith.{IsLeftWith}
use Rattle.world_schedule.specs.refinement.Orders.{TellInOrder}
use Rattle.world_schedule.specs.refinement.WorldOfCode.{no_session, finished_from, finished_of, has_ticket, found_in, finished_in, world_in, IsSiteOf, IsKnown, IsWorld}
use Rattle.world_schedule.proofs.FinishedSessions.{from_append, outcomes_told, each_is_found, IsFoundIn}

abbrev at_office : ℕ → Finished → Bool
at_office a f = f.outcome.office == a

-- ---- sessions of one office, and of others

all_here : (a : ℕ) (fs : List Finished) → All (λ (f : Finished). f.outcome.office ≡ a) fs → filter (at_office a) fs ≡ fs
all_here a [] h = refl
all_here a (f ∷ fs) h =
    ap (λ b. cond b (f ∷ filter (at_office a) fs) (filter (at_office a) fs)) (eq-eqb f.outcome.office a (All-head (λ (x : Finished). x.outcome.office ≡ a) f fs h))
    ∙ ap (λ l. f ∷ l) (all_here a fs (All-tail (λ (x : Finished). x.outcome.office ≡ a) f fs h))

none_here : (a b : ℕ) (fs : List Finished) → (b ≡ a → ⊥) → All (λ (f : Finished). f.outcome.office ≡ a) fs → filter (at_office b) fs ≡ []
none_here a b [] ne h = refl
none_here a b (f ∷ fs) ne h =
    ap (λ x. cond x (f ∷ filter (at_office b) fs) (filter (at_office b) fs)) (ne_eqb f.outcome.office b (λ e. ne (sym e ∙ All-head (λ (x : Finished). x.outcome.office ≡ a) f fs h)))
    ∙ none_here a b fs ne (All-tail (λ (x : Finished). x.outcome.office ≡ a) f fs h)

run_append : (plan : PlanValue) (me : ℕ) (o : Office) (xs : List Entry) (x : Entry) → run_of plan me o (xs ++ x ∷ []) ≡ after plan me (run_of plan me o xs) x.event
run_append plan me o [] x = refl
run_append plan me o (y ∷ ys) x = run_append plan me (after plan me o y.event) ys x

-- ---- each office is at the end of its journal, and what it finished is in the finishing list, in order

record IsKept (plan : PlanValue) (a : ℕ) (o : Office) (entries : List Entry) (fs : List Finished) : Type 0 where
  at_end : o ≡ run_of plan a (opened plan a) entries
  listed : filter (at_office a) fs ≡ finished_from plan a (opened plan a) entries

abbrev AreKept : PlanValue → states.State → Type 0
AreKept plan s = (a : ℕ) → IsKept plan a (s.office a) (s.journal a) s.finished

kept_at_start : (plan : PlanValue) → AreKept plan (states.starting plan)
kept_at_start plan a = record { at_end = refl; listed = refl }

module _ (plan : PlanValue) (s s' : states.State) (h : AreKept plan s) (i : states.IsAccepted plan s s') where
  abbrev x : Entry
  x = states.entry_of i.event i.reply

  abbrev more : List Finished
  more = finished_by i.place (s.office i.place).agenda.current i.event

  here : All (λ (f : Finished). f.outcome.office ≡ i.place) more
  here = finished_at i.place (s.office i.place).agenda.current i.event

  at_place : IsKept plan i.place i.new (s.journal i.place ++ x ∷ []) (s.finished ++ more)
  at_place =
      let k = h i.place in
      record {
        at_end = sym (run_append plan i.place (opened plan i.place) (s.journal i.place) x ∙ ap (λ o. after plan i.place o i.event) (sym k.at_end) ∙ ap (next_or (s.office i.place)) i.answered);
        listed = filter-append (at_office i.place) s.finished more ∙ ap (λ l. l ++ filter (at_office i.place) more) k.listed
            ∙ ap (λ l. finished_from plan i.place (opened plan i.place) (s.journal i.place) ++ l) (all_here i.place more here)
            ∙ ap (λ o. finished_from plan i.place (opened plan i.place) (s.journal i.place) ++ finished_by i.place o.agenda.current i.event) k.at_end
            ∙ sym (from_append plan i.place (opened plan i.place) (s.journal i.place) x);
      }

  elsewhere : (b : ℕ) → (b ≡ i.place → ⊥) → IsKept plan b (s.office b) (s.journal b) (s.finished ++ more)
  elsewhere b ne = record {
    at_end = (h b).at_end;
    listed = filter-append (at_office b) s.finished more ∙ ap (λ l. filter (at_office b) s.finished ++ l) (none_here i.place b more ne here) ∙ append-nil (filter (at_office b) s.finished) ∙ (h b).listed;
  }

  kept_on : AreKept plan s'
  kept_on = subst (AreKept plan) (sym i.led) (λ b. ⊎_elim
      (λ e. subst (λ l. IsKept plan b (put s.office i.place i.new b) l (s.finished ++ more)) (sym (put_at s.journal i.place (s.journal i.place ++ x ∷ []) b e))
      (subst (λ o. IsKept plan b o (s.journal i.place ++ x ∷ []) (s.finished ++ more)) (sym (put_at s.office i.place i.new b e))
      (subst (λ k. IsKept plan k i.new (s.journal i.place ++ x ∷ []) (s.finished ++ more)) (sym e) at_place)))
      (λ ne. subst (λ l. IsKept plan b (put s.office i.place i.new b) l (s.finished ++ more)) (sym (put_other s.journal i.place (s.journal i.place ++ x ∷ []) b ne))
      (subst (λ o. IsKept plan b o (s.journal b) (s.finished ++ more)) (sym (put_other s.office i.place i.new b ne)) (elsewhere b ne)))
      (cases_eq b i.place))

kept : (plan : PlanValue) (es : List WorldEvent) → AreKept plan (states.state_of (worlds.run_of (opening plan) es))
kept plan es = through plan (AreKept plan) (kept_at_start plan) (λ s s'. kept_on plan s s') es

finished_is : (s : Site) (plan : PlanValue) (a : ℕ) → s.plan ≡ plan → s.me ≡ a → finished_of s ≡ finished_from plan a (opened plan a) s.entries
unfolding finished_of
finished_is s plan a p m = ap (λ q. finished_from q s.me (opened q s.me) s.entries) p ∙ ap (λ k. finished_from plan k (opened plan k) s.entries) m

-- ---- each is found by its ticket

among : (p : Finished → Bool) (whole gs : List Finished) → All (IsFoundIn whole) (filter p gs) → All (λ g. p g ≡ true → IsFoundIn whole g) gs
among p whole [] h = All-nil (λ g. p g ≡ true → IsFoundIn whole g)
among p whole (g ∷ gs) h = by (p g) refl h (λ k. among p whole gs k)
  where
    by : (b : Bool) → p g ≡ b → All (IsFoundIn whole) (cond b (g ∷ filter p gs) (filter p gs)) → (All (IsFoundIn whole) (filter p gs) → All (λ q. p q ≡ true → IsFoundIn whole q) gs) → All (λ q. p q ≡ true → IsFoundIn whole q) (g ∷ gs)
    by true e k later = All-cons (λ q. p q ≡ true → IsFoundIn whole q) g gs (λ _. All-head (IsFoundIn whole) g (filter p gs) k) (later (All-tail (IsFoundIn whole) g (filter p gs) k))
    by false e k later = All-cons (λ q. p q ≡ true → IsFoundIn whole q) g gs (λ t. cc) (later k)

found_among : (p : Finished → Bool) (fs : List Finished) (f : Finished) → p f ≡ true → All (IsFoundIn (filter p fs)) (filter p fs) → All (λ g. p g ≡ true → IsFoundIn (filter p fs) g) fs
found_among p fs f is h = among p (filter p fs) fs h

-- where nothing passes, none does
none_passes : (p : Finished → Bool) (fs : List Finished) → filter p fs ≡ [] → All (λ f. p f ≡ false) fs
none_passes p [] e = All-nil (λ f. p f ≡ false)
none_passes p (f ∷ fs) e = by (p f) refl e (λ k. none_passes p fs k)
  where
    by : (b : Bool) → p f ≡ b → cond b (f ∷ filter p fs) (filter p fs) ≡ [] → (filter p fs ≡ [] → All (λ g. p g ≡ false) fs) → All (λ g. p g ≡ false) (f ∷ fs)
    by true is k later = cc
    by false is k later = All-cons (λ g. p g ≡ false) f fs is (later k)

module _ (plan : PlanValue) (es : List WorldEvent) (law : SessionsGoInOrder) where
  abbrev w : World
  w = worlds.run_of (opening plan) es

  seats : states.IsSeated plan w
  seats = seated plan es

  of_office : (a : ℕ) → filter (at_office a) w.finished ≡ finished_of (site_at w a)
  of_office a = (kept plan es a).listed ∙ sym (finished_is (site_at w a) plan a (seats.plans a) (seats.numbers a))

  module _ (legal : (a : ℕ) → a < length w.sites → IsLegal (site_at w a)) where
    rise : (a : ℕ) → a < length w.sites → All (IsFoundIn (finished_of (site_at w a))) (finished_of (site_at w a))
    rise a lt = each_is_found (finished_of (site_at w a)) (subst (AllPairs IsBelow) (outcomes_told (site_at w a) (legal a lt)) (office_tickets_rise law (site_at w a)))

    -- an office that the plan hasn't finished nothing
    nothing_beyond : (a : ℕ) → length w.sites ≤ a → filter (at_office a) w.finished ≡ []
    nothing_beyond a ge = of_office a ∙ finished_is (site_at w a) plan a (seats.plans a) (seats.numbers a) ∙ ap (λ (s : Site). finished_from plan a (opened plan a) s.entries) (get_or_past w.sites a (silent w.plan a) ge)

    abbrev IsThere : Finished → Type 0
    IsThere f = (f.outcome.office < length w.sites) × (found_in plan w.sites (listed_as f) ≡ Some f)

    there : All IsThere w.finished
    there k d within =
        let f : Finished = get_or w.finished k d in
        let a : ℕ = f.outcome.office in
        let mine : at_office a f ≡ true = eq-eqb a a refl in
        ⊎_elim
        (λ lt.
        let all = found_among (at_office a) w.finished f mine (subst (λ l. All (IsFoundIn l) l) (sym (of_office a)) (rise a lt)) in
        let is : find (has_ticket f.outcome.ticket) (filter (at_office a) w.finished) ≡ Some f = all k d within mine in (
          lt,
          ap (λ p. find (has_ticket f.outcome.ticket) (finished_of (get_or w.sites a (silent p a)))) (sym seats.planned) ∙ ap (find (has_ticket f.outcome.ticket)) (sym (of_office a)) ∙ is,
        ))
        (λ ge. let none = none_passes (at_office a) w.finished (nothing_beyond a ge) k d within in absurd (let no : true ≡ false = sym mine ∙ none in cc))
        (cases_lt a (length w.sites))

    listed_all : (fs : List Finished) → All IsThere fs → (map (finished_in plan w.sites) (map listed_as fs) ≡ fs) × All (IsKnown plan w.sites) (map listed_as fs)
    listed_all [] h = (refl, All-nil (IsKnown plan w.sites))
    listed_all (f ∷ fs) h =
        let one = All-head IsThere f fs h in
        let rest = listed_all fs (All-tail IsThere f fs h) in (
          ap (λ o. unwrap_or o no_session ∷ map (finished_in plan w.sites) (map listed_as fs)) one.1 ∙ ap (λ l. f ∷ l) rest.0,
          All-cons (IsKnown plan w.sites) (listed_as f) (map listed_as fs) (one.0, ap is_some one.1) rest.1,
        )

    pub is_that : world_in plan w.sites w.frames (map listed_as w.finished) ≡ w
    is_that =
        ap (λ p. record { plan = p; sites = w.sites; frames = w.frames; finished = map (finished_in plan w.sites) (map listed_as w.finished) }) (sym seats.planned)
        ∙ ap (λ l. record { plan = w.plan; sites = w.sites; frames = w.frames; finished = l }) (listed_all w.finished there).0

    pub is_world : IsAccepted plan → All IsFrame w.frames → IsWorld plan w.sites w.frames (map listed_as w.finished)
    is_world accepted fit = record {
      accepted = accepted;
      count = seats.size;
      each = λ a lt. subst (λ p. IsSiteOf plan a (get_or w.sites a (silent p a))) seats.planned (seats.plans a, seats.numbers a, legal a lt);
      known = (listed_all w.finished there).1;
      fit = fit;
      reached = record { events = es; leads = sym is_that };
    }

-- ---- the same of what events left

outcome_offices : (fs : List Finished) → map (λ (o : Outcome). o.office) (map (λ (f : Finished). f.outcome) fs) ≡ map (λ (f : Finished). f.outcome.office) fs
outcome_offices [] = refl
outcome_offices (f ∷ fs) = ap (λ l. f.outcome.office ∷ l) (outcome_offices fs)

outcome_marks : (fs : List Finished) → map mark_of (map (λ (f : Finished). f.outcome) fs) ≡ map listed_as fs
outcome_marks [] = refl
outcome_marks (f ∷ fs) = ap (λ l. listed_as f ∷ l) (outcome_marks fs)

pub site_there : (sites : List Site) (a : ℕ) (s d : Site) → a < length sites → s ≡ get_or sites a s → get_or sites a d ≡ s
site_there sites a s d lt is = get_or_from_slice_get sites a s d (slice_get-get_or sites a s lt ∙ ap Some (sym is))

module _ (plan : PlanValue) (es : List WorldEvent) (sites : List Site) (frames : List Fields) (order : List ℕ) (law : SessionsGoInOrder) (left : IsLeftWith plan es sites frames order)
    (legal : (a : ℕ) (s : Site) → a < length sites → s ≡ get_or sites a s → IsLegal s) where
  abbrev v : World
  v = worlds.run_of (opening plan) es

  same : (xs : List Site) (a : ℕ) (d : Site) → a < length xs → (s : Site) × (s ≡ get_or xs a s) × (get_or xs a d ≡ s)
  same [] a d lt = absurd (omega (arith, lt))
  same (x ∷ xs) zero d lt = (x, refl, refl)
  same (x ∷ xs) (suc a) d lt = same xs a d (omega (arith, lt))

  legal_at : (a : ℕ) → a < length v.sites → IsLegal (site_at v a)
  legal_at a lt =
      let within : a < length sites = subst (λ (l : List Site). a < length l) left.leaves lt in
      let s = same sites a (silent v.plan a) within in
      subst IsLegal (sym (ap (λ (l : List Site). get_or l a (silent v.plan a)) left.leaves ∙ s.2)) (legal a s.0 within s.1)

  abbrev Listed : List mark.Finished → Type 0
  Listed marks = marks ≡ map mark_of (outcomes v)

  marks_are : (marks : List mark.Finished) → Listed marks → map listed_as v.finished ≡ marks
  marks_are marks is = sym (is ∙ outcome_marks v.finished)

  pub left_is : (marks : List mark.Finished) → Listed marks → world_in plan sites frames marks ≡ v
  left_is marks is =
      sym (ap (λ l. world_in plan l v.frames (map listed_as v.finished)) left.leaves
      ∙ ap (λ l. world_in plan sites l (map listed_as v.finished)) left.sends
      ∙ ap (world_in plan sites frames) (marks_are marks is))
      ∙ is_that plan es law legal_at

  pub left_world : (marks : List mark.Finished) → IsAccepted plan → Listed marks → IsWorld plan sites frames marks
  left_world marks accepted is =
      subst (IsWorld plan sites frames) (marks_are marks is)
      (subst (λ l. IsWorld plan sites l (map listed_as v.finished)) left.sends
      (subst (λ l. IsWorld plan l v.frames (map listed_as v.finished)) left.leaves (is_world plan es law legal_at accepted (subst (All IsFrame) (sym left.sends) left.fit))))

  pub in_order : TellsEachOffice v → TellInOrder sites (outcomes v) order
  in_order tells = record {
    where_each = outcome_offices v.finished ∙ left.finishes;
    inside = subst (λ l. All (λ a. a < length sites) l) left.finishes (All-map (λ a. a < length sites) (λ (f : Finished). f.outcome.office) v.finished (λ k d lt. subst (λ (l : List Site). (get_or v.finished k d).outcome.office < length l) left.leaves (there plan es law legal_at k d lt).0));
    told = λ a s lt is. tells a ∙ ap (λ (x : Site). (office_of x).agenda.outcomes) (ap (λ (l : List Site). get_or l a (silent v.plan a)) left.leaves ∙ site_there sites a s (silent v.plan a) lt is);
  }
