-- The end of a merge of what offices gave of their journals.
use Rattle.std.proofs.Common.{◌≡◌, ℕ, zero, suc, ◌<◌, ◌≤◌, List, [], ◌∷◌, length, map, take, get_or, Some, refl, sym, ap, subst, ◌∙◌, arith, inl, inr, ◌⊎◌, ⊎_elim, None}
use Rattle.std.specs.Prelude.{slice_get, Option, is_some, true}
use Rattle.std.proofs.lemmas.Bool.{cases_lt}
use Rattle.std.proofs.lemmas.List.{length-map, get_or-map, get_or_past, ext_get_or}
use Rattle.std.proofs.Math.Seq.{take-length}
use Rattle.std.specs.Option.{option_and_then}
use Rattle.std.specs.declared.cmp.Ordering.{Ordering}
use Rattle.office_map.specs.PlanValue.{PlanValue}
use Rattle.office_journal.specs.declared.event.Entry.{Entry}
use Rattle.frame_world.specs.declared.event.WorldEvent.{WorldEvent}
use Rattle.frame_world.specs.Worlds.{World, silent, opening, site_at, run_of}
use Rattle.frame_world.specs.WorldStates.{IsSeated}
use Rattle.frame_world.specs.WorldLaws.{seated}
use Rattle.frame_world.specs.declared.sent.SentAt.{SentAt}
use Rattle.frame_world.specs.Sent as sent
use Rattle.journal_weave.specs.declared.given.GivenJournal.{GivenJournal}
use Rattle.journal_weave.specs.declared.key.FrameKey.{FrameKey}
use Rattle.journal_weave.specs.declared.merge.Merge.{Merge}
use Rattle.journal_weave.specs.declared.stop.Stop.{Stop}
use Rattle.journal_weave.specs.Weaving.{untagged, entries_at}
use Rattle.journal_weave.specs.Given.{told_in, IsWovenFrom, AreFurthest, IsLeft}
use Rattle.journal_weave.specs.Laws.{NoneGoesFurther}
use Rattle.journal_weave.specs.Following.{site_of, Gives, IsLimit}
use Rattle.journal_weave.specs.ReplayValue.{ReplayValue}
use Rattle.journal_weave.specs.Replays.{given, given_at, AreReplays, IsRecord}
use Rattle.journal_weave.specs.refinement.Finishers.{finishers}
use Rattle.journal_weave.specs.refinement.Merging.{CannotCome, AreOne, AreFollowed, told_by, IsMerged, IsAtEnd, IsStuck}
use Rattle.journal_weave.specs.refinement.Standing.{IsFirstLeft}
use Rattle.journal_weave.proofs.EntriesTold.{other_default}
use Rattle.journal_weave.proofs.AcceptedEvents.{site_is}
use Rattle.journal_weave.proofs.Finishing.{where_finished}
use Rattle.journal_weave.proofs.Limits.{told_at, told_past}
use Rattle.journal_weave.proofs.Merging.{Cannot}
use Rattle.journal_weave.proofs.Pushing.{at_of, told_from}
use Rattle.journal_weave.proofs.Ending.{furthest, never_woven, all_woven}
use Rattle.journal_weave.proofs.StandingOffices.{stands, none_stands, named}

nth : {X : Type 0} (l : List X) (a : ℕ) → a < length l → (x : X) × (x ≡ get_or l a x)
nth [] a lt = absurd (omega (arith, lt))
nth (x ∷ l) zero lt = (x, refl)
nth (x ∷ l) (suc a) lt = nth l a (omega (arith, lt))

there_is : {X : Type 0} (xs : List X) (i : ℕ) → i < length xs → slice_get xs i ≡ None → ⊥
there_is [] i lt e = omega (arith, lt)
there_is (x ∷ xs) zero lt e = (cc)
there_is (x ∷ xs) (suc i) lt e = there_is xs i (omega (arith, lt)) e

pub followed : (plan : PlanValue) (journals : List GivenJournal) (rs : List ReplayValue) → AreReplays plan journals rs → AreFollowed plan (told_in journals) rs
followed plan journals rs are a r lt is =
    let inside : a < length journals = omega (arith, lt, are.count) in
    let j = nth journals a inside in
    let h = are.each a j.0 r lt j.1 is in
    let told = told_at journals a j.0 inside j.1 in
    (subst (λ l. IsLimit plan a l (given r)) (sym told) h.limit, h.has ∙ ap (λ l. map untagged (take (given r) l)) (sym told))

module _ (C : FrameKey → FrameKey → Ordering) (plan : PlanValue) (journals : List GivenJournal) (rs : List ReplayValue) (m : Merge) (events : List WorldEvent) (are : AreReplays plan journals rs) (end : IsAtEnd C rs plan m events) where
  abbrev told : ℕ → List Entry
  told = told_in journals

  merged : IsMerged C rs plan told m events
  merged = end.merged told (followed plan journals rs are)

  within : (a : ℕ) → at_of m a ≤ length (told a)
  within a = ⊎_elim
      (λ lt.
      let r = nth rs a lt in
      let limit : get_or (map given rs) a 0 ≡ given r.0 = get_or-map given rs a r.0 0 lt ∙ ap given (sym r.1) in
      let f = followed plan journals rs are a r.0 lt r.1 in
      omega (arith, end.within a, limit, f.0.within))
      (λ ge. omega (arith, end.within a, get_or_past (map given rs) a 0 (omega (arith, ge, length-map rs given))))
      (cases_lt a (length rs))

  no_entry : (a : ℕ) (x : Entry) → length rs ≤ a → slice_get (told a) (at_of m a) ≡ Some x → ⊥
  no_entry a x ge at = nothing (at_of m a) (sym (ap (λ l. slice_get l (at_of m a)) (told_past journals a (omega (arith, ge, are.count)))) ∙ at)
    where
      nothing : (n : ℕ) → slice_get [] n ≡ Some x → ⊥
      nothing zero e = cc
      nothing (suc n) e = cc

  cannot : AreOne (run_of (opening plan) events).frames → (a : ℕ) → Cannot plan told (at_of m) (run_of (opening plan) events).frames a
  cannot one a x next = ⊎_elim inside (λ ge. absurd (no_entry a x ge next)) (cases_lt a (length rs))
    where
      inside : a < length rs → (Gives (site_of plan a (take (at_of m a) (told a))) x → ⊥) ⊎ CannotCome (run_of (opening plan) events).frames a x.event
      inside lt = by (end.stuck a lt r.0 r.1)
        where
          r : (r : ReplayValue) × (r ≡ get_or rs a r)
          r = nth rs a lt

          f : IsLimit plan a (told a) (given r.0) × (take (given r.0) r.0.site.entries ≡ map untagged (take (given r.0) (told a)))
          f = followed plan journals rs are a r.0 lt r.1

          limit : at_of m a ≤ given r.0
          limit = omega (arith, end.within a, get_or-map given rs a r.0 0 lt ∙ ap given (sym r.1))

          enough : given r.0 ≤ length r.0.site.entries
          enough = let j = nth journals a (omega (arith, lt, are.count)) in (are.each a j.0 r.0 lt j.1 r.1).enough

          at_limit : given r.0 ≤ at_of m a → (Gives (site_of plan a (take (at_of m a) (told a))) x → ⊥) ⊎ CannotCome (run_of (opening plan) events).frames a x.event
          at_limit ge =
              let same : given r.0 ≡ at_of m a = omega (arith, ge, limit) in
              inl (subst (λ n. slice_get (told a) n ≡ Some x → Gives (site_of plan a (take n (told a))) x → ⊥) same (f.0.no_more x) next)

          by : IsStuck C rs m a r.0 → (Gives (site_of plan a (take (at_of m a) (told a))) x → ⊥) ⊎ CannotCome (run_of (opening plan) events).frames a x.event
          by (inl (inl ge)) = at_limit ge
          by (inl (inr none)) = ⊎_elim
              (λ below. absurd (there_is r.0.site.entries (at_of m a) (omega (arith, below, enough)) none))
              at_limit
              (cases_lt (at_of m a) (given r.0))
          by (inr (y, there, never)) = ⊎_elim
              (λ below.
              let z = told_from (given r.0) (told a) r.0.site.entries (at_of m a) y f.1 below there in
              let both : Some z.0 ≡ Some x = sym z.1 ∙ next in
              let same : z.0 ≡ x = cc in
              let events_same : y.event ≡ x.event = ap (λ (w : Entry). w.event) (sym z.2) ∙ ap (λ (w : Entry). w.event) same in
              inr (subst (λ e. CannotCome (run_of (opening plan) events).frames a e) events_same (never (run_of (opening plan) events).frames merged.sent one)))
              at_limit
              (cases_lt (at_of m a) (given r.0))

  pub most : NoneGoesFurther → AreOne (run_of (opening plan) events).frames → AreFurthest plan told (at_of m)
  most law one = furthest C rs plan told m events merged within (cannot one) law

  -- nobody stands
  pub is_woven : IsFirstLeft rs m.at.items None → IsWovenFrom plan journals events
  is_woven none = all_woven C rs plan journals m events merged within (none_stands plan journals rs m.at.items are end.within none)

  -- each office followed its journal to the end then, and so it is what the schedule leaves
  module _ (none : IsFirstLeft rs m.at.items None) where
    abbrev w : World
    w = run_of (opening plan) events

    seats : IsSeated plan w
    seats = seated plan events

    no_stop : (o : Option Stop) → (is_some o ≡ true → ⊥) → o ≡ None
    no_stop None h = refl
    no_stop (Some s) h = absurd (h refl)

    site_left : (a : ℕ) (r : ReplayValue) → a < length rs → r ≡ get_or rs a r → site_at w a ≡ r.site
    site_left a r lt is =
        let j = nth journals a (omega (arith, lt, are.count)) in
        let h = are.each a j.0 r lt j.1 is in
        let f = followed plan journals rs are a r lt is in
        let limit : at_of m a ≤ given r = omega (arith, end.within a, get_or-map given rs a r 0 lt ∙ ap given (sym is)) in
        let past : given r ≤ at_of m a = ⊎_elim (λ before. absurd (none a (r, (lt, is), inl before))) (λ ge. ge) (cases_lt (at_of m a) (given r)) in
        let at : at_of m a ≡ given r = omega (arith, limit, past) in
        let all : given r ≡ length r.site.entries = ap (given_at (length r.site.entries)) (no_stop r.stop (λ some. none a (r, (lt, is), inr some))) in
        let entries : entries_at w a ≡ r.site.entries =
        merged.has a ∙ ap (λ k. map untagged (take k (told a))) at ∙ sym f.1 ∙ ap (λ k. take k r.site.entries) all ∙ take-length r.site.entries in
        site_is plan w a seats
        ∙ ap (λ l. record { plan = plan; me = a; entries = l }) entries
        ∙ ap (λ b. record { plan = plan; me = b; entries = r.site.entries }) (sym h.number)
        ∙ ap (λ p. record { plan = p; me = r.site.me; entries = r.site.entries }) (sym h.planned)

    pub leaves : w.sites ≡ map (λ (r : ReplayValue). r.site) rs
    leaves =
        let size : length w.sites ≡ length rs = seats.size ∙ sym are.offices ∙ sym are.count in
        let sizes : length w.sites ≡ length (map (λ (r : ReplayValue). r.site) rs) = size ∙ sym (length-map rs (λ (r : ReplayValue). r.site)) in
        ext_get_or (silent plan 0) w.sites (map (λ (r : ReplayValue). r.site) rs) sizes (λ a lt.
        let within : a < length rs = omega (arith, lt, size) in
        let r = nth rs a within in
        other_default w.sites a (silent w.plan a) (silent plan 0) lt
        ∙ site_left a r.0 within r.1
        ∙ ap (λ (x : ReplayValue). x.site) r.1
        ∙ sym (get_or-map (λ (x : ReplayValue). x.site) rs a r.0 (silent plan 0) within))

    -- what an entry tells there it tells of the office that followed its journal
    told_so : (x : SentAt) → sent.told_at w.plan w.sites x ≡ told_by rs x
    told_so x = ap (λ l. sent.told_in (get_or l x.office (silent w.plan x.office)).entries x.entry) leaves ∙ by rs x.office
      where
        by : (qs : List ReplayValue) (k : ℕ) → sent.told_in (get_or (map (λ (r : ReplayValue). r.site) qs) k (silent w.plan x.office)).entries x.entry ≡ option_and_then (λ (r : ReplayValue). sent.told_in r.site.entries x.entry) (slice_get qs k)
        by [] k = nothing x.entry
          where
            nothing : (n : ℕ) → sent.told_in [] n ≡ None
            nothing zero = refl
            nothing (suc n) = refl
        by (q ∷ qs) zero = refl
        by (q ∷ qs) (suc k) = by qs k

    same_map : {X Y : Type 0} (f g : X → Y) → ((x : X) → f x ≡ g x) → (xs : List X) → map f xs ≡ map g xs
    same_map f g h [] = refl
    same_map f g h (x ∷ xs) = ap (λ y. y ∷ map f xs) (h x) ∙ ap (λ l. g x ∷ l) (same_map f g h xs)

    -- what the schedule leaves beside them
    pub is_record : (marks : List SentAt) (finished : List ℕ) → marks ≡ m.sent.sent.items → finishers events ≡ finished → IsRecord plan journals rs marks finished
    is_record marks finished same noted =
        record {
          events = events;
          woven = is_woven none;
          leaves = leaves;
          sends = ap (map (sent.told_at w.plan w.sites)) same ∙ same_map (sent.told_at w.plan w.sites) (told_by rs) told_so m.sent.sent.items ∙ merged.sent.told;
          fit = merged.sent.fit;
          finishes = where_finished plan events merged.accepted ∙ noted;
        }

  -- an office is to be named
  pub is_left : NoneGoesFurther → AreOne (run_of (opening plan) events).frames → (a entry : ℕ) → IsFirstLeft rs m.at.items (Some (a, entry)) → IsLeft plan journals a entry
  is_left law one a entry left = record {
    at = at_of m;
    furthest = most law one;
    stands = stands plan journals rs m.at.items are end.within a left.0;
    named = named plan journals rs m.at.items are end.within a left.2;
    next = left.1;
  }

  pub is_never : NoneGoesFurther → AreOne (run_of (opening plan) events).frames → (a entry : ℕ) → IsFirstLeft rs m.at.items (Some (a, entry)) → (es : List WorldEvent) → IsWovenFrom plan journals es → ⊥
  is_never law one a entry left = never_woven plan journals (at_of m) a (most law one) (stands plan journals rs m.at.items are end.within a left.0)
