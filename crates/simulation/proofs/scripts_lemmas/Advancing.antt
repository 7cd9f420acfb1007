-- What an office does that is left to itself.
use Rattle.std.proofs.Common.{◌≡◌, ℕ, zero, suc, ◌+◌, ◌<◌, ◌≤◌, Bool, true, false, cond, List, [], ◌∷◌, length, map, get_or, set, Option, None, Some, Ok, Err, refl, sym, ap, subst, ◌∙◌, arith, append_assoc, append-nil}
use Rattle.std.specs.Prelude.{Result, nat_lt, nat_le}
use Rattle.std.proofs.lemmas.Bool.Decides.{nat_tests}
use Rattle.std.proofs.lemmas.List.{get_or-set_same, set-set, set-get_or}
use Rattle.office_map.specs.PlanValue.{PlanValue}
use Rattle.office_journal.specs.declared.event.Event.TheVariants as event
use Rattle.office_journal.specs.declared.rule.Rule.{Rule}
use Rattle.office_journal.specs.declared.reply.Reply.TheVariants.{Done}
use Rattle.office_journal.specs.declared.reply.Refusal.TheVariants as refused
use Rattle.site_core.specs.Limits.{most_entries}
use Rattle.site_core.specs.Offices as office
use Rattle.site_core.specs.RuleOrder.{next_rule}
use Rattle.site_core.specs.Journals.{Site, office_of, noted, step, recorded}
use Rattle.site_core.specs.RulesInTurn.{extended, next_at, AreNext}
use Rattle.frame_world.specs.declared.event.WorldEvent.TheVariants as happening
use Rattle.frame_world.specs.declared.refusal.WorldRefusal.{WorldRefusal}
use Rattle.frame_world.specs.declared.refusal.WorldRefusal.TheVariants as refusal
use Rattle.frame_world.specs.Worlds.{World, Answer, site_at, office_at, told, happens}
use Rattle.frame_world.specs.Worlds as worlds
use Rattle.frame_world.specs.Headline.{IsReached}
use Rattle.frame_world.specs.WorldStates.{IsSeated}
use Rattle.frame_world.specs.WorldLaws.{seated, happens_leaves}
use Rattle.simulation.specs.declared.scripts.said.Said.{Said}
use Rattle.simulation.specs.declared.scripts.said.Said.TheVariants.{Replied, Rules, Settled, Open}
use Rattle.simulation.specs.scripts.Runs.{Told, advanced, by_rule, further}
use Rattle.simulation.specs.scripts.Advancing.{entries_of, Ends, Advances, OfficesAdvanceByTheirNextRules}

-- ---- one rule

-- it is refused, and the world is as it was; or the journal of its office has it, and no frame is sent
data Did (w : World) (a : ℕ) (r : Rule) (x : Answer) : Type 0 where
  Refused : (e : WorldRefusal) (is : x ≡ (Err e, w)) → Did w a r x
  Noted : (w' : World) (is : x ≡ (Ok Done, w')) (sites : w'.sites ≡ set w.sites a (extended (site_at w a) (entries_of (r ∷ [])))) (frames : w'.frames ≡ w.frames) → Did w a r x

did : (w : World) (a : ℕ) (r : Rule) → Did w a r (happens w (happening.Do a r))
did w a r = by_place (nat_lt a (length w.sites))
  where
    s : Site
    s = site_at w a

    by_room : (full : Bool) → Did w a r (told w a (event.Do r) (cond full (Err refused.JournalFull, s) (Ok Done, noted s 0 (event.Do r) Done)))
    by_room true = Refused (refusal.Office refused.JournalFull) refl
    by_room false = Noted (told w a (event.Do r) (Ok Done, noted s 0 (event.Do r) Done)).1 refl refl (append-nil w.frames)

    by_guard : (b : Bool) → Did w a r (told w a (event.Do r) (recorded s 0 (event.Do r) (cond b (Ok (Done, office.act s.me (office_of s) r)) (Err refused.NotNow))))
    by_guard true = by_room (nat_le most_entries (length s.entries))
    by_guard false = Refused (refusal.Office refused.NotNow) refl

    by_place : (b : Bool) → Did w a r (cond b (told w a (event.Do r) (step s 0 (event.Do r))) (Err refusal.NoOffice, w))
    by_place true = by_guard (office.may s.plan s.me (office_of s) r)
    by_place false = Refused refusal.NoOffice refl

-- ---- all of them

-- so many were done before, and so many more may be
abbrev EndsAfter : ℕ → ℕ → ℕ → ℕ → Result Said WorldRefusal → World → Type 0
EndsAfter a before left done (Ok (Rules n)) w = (n ≡ before + done) × (done ≤ left) × (done < left → next_at (site_at w a) ≡ None)
EndsAfter a before left done (Ok (Replied r)) w = ⊥
EndsAfter a before left done (Ok (Settled n)) w = ⊥
EndsAfter a before left done (Ok (Open n)) w = ⊥
EndsAfter a before left done (Err e) w = (done < left) × (r : Rule) × (next_at (site_at w a) ≡ Some r) × ((happens w (happening.Do a r)).0 ≡ Err e)

record AdvancesAfter (w : World) (a before left : ℕ) (t : Told) : Type 0 where
  rules : List Rule
  next : AreNext 0 (site_at w a) (entries_of rules)
  happened : t.1 ≡ worlds.run_of w (map (happening.Do a) rules)
  sites : t.1.sites ≡ set w.sites a (extended (site_at w a) (entries_of rules))
  frames : t.1.frames ≡ w.frames
  ends : EndsAfter a before left (length rules) t.0 t.1

-- the world stays
stays : (w : World) (a before left : ℕ) (said : Result Said WorldRefusal) → EndsAfter a before left 0 said w → AdvancesAfter w a before left (said, w)
stays w a before left said ends = record {
  rules = [];
  next = tt;
  happened = refl;
  sites = sym (ap (λ l. set w.sites a (record { plan = (site_at w a).plan; me = (site_at w a).me; entries = l })) (append-nil (site_at w a).entries) ∙ set-get_or w.sites a (worlds.silent w.plan a));
  frames = refl;
  ends = ends;
}

one_more : (a before left done : ℕ) (said : Result Said WorldRefusal) (w : World) → EndsAfter a (before + 1) left done said w → EndsAfter a before (suc left) (suc done) said w
one_more a before left done (Ok (Rules n)) w (count, few, none) = (omega (arith, count), omega (arith, few), λ lt. none (omega (arith, lt)))
one_more a before left done (Ok (Replied r)) w h = absurd h
one_more a before left done (Ok (Settled n)) w h = absurd h
one_more a before left done (Ok (Open n)) w h = absurd h
one_more a before left done (Err e) w (few, r, next, refused) = (omega (arith, few), r, next, refused)

-- a rule was done, and what comes after it follows
follows : (w w' : World) (a before left : ℕ) (r : Rule) (t : Told) → a < length w.sites → next_at (site_at w a) ≡ Some r → (happens w (happening.Do a r)).1 ≡ w' →
    w'.sites ≡ set w.sites a (extended (site_at w a) (entries_of (r ∷ []))) → w'.frames ≡ w.frames → AdvancesAfter w' a (before + 1) left t → AdvancesAfter w a before (suc left) t
follows w w' a before left r t lt next is sites frames rest =
    let s = site_at w a in
    let s' = extended s (entries_of (r ∷ [])) in
    let here : site_at w' a ≡ s' = ap (λ l. get_or l a (worlds.silent w'.plan a)) sites ∙ get_or-set_same w.sites a s' (worlds.silent w'.plan a) lt in
    let longer : extended s' (entries_of rest.rules) ≡ extended s (entries_of (r ∷ rest.rules)) = ap (λ l. record { plan = s.plan; me = s.me; entries = l }) (append_assoc s.entries (entries_of (r ∷ [])) (entries_of rest.rules)) in
    record {
      rules = r ∷ rest.rules;
      next = (r, next, refl, refl, subst (λ x. AreNext 0 x (entries_of rest.rules)) here rest.next);
      happened = rest.happened ∙ ap (λ v. worlds.run_of v (map (happening.Do a) rest.rules)) (sym is);
      sites = rest.sites ∙ ap (λ x. set w'.sites a (extended x (entries_of rest.rules))) here ∙ ap (λ l. set l a (extended s' (entries_of rest.rules))) sites
          ∙ set-set w.sites a s' (extended s' (entries_of rest.rules)) ∙ ap (set w.sites a) longer;
      frames = rest.frames ∙ frames;
      ends = one_more a before left (length rest.rules) t.0 t.1 rest.ends;
    }

-- the office of a world, and its next rule
seat : (plan : PlanValue) (w : World) (a : ℕ) → IsSeated plan w → next_at (site_at w a) ≡ next_rule w.plan a (office_at w a)
seat plan w a h = ap (λ p. next_rule p (site_at w a).me (office_at w a)) (h.plans a ∙ sym h.planned) ∙ ap (λ m. next_rule w.plan m (office_at w a)) (h.numbers a)

advances : (plan : PlanValue) (w : World) (a before left : ℕ) → IsSeated plan w → a < length plan.offices → AdvancesAfter w a before left (advanced w a before left)
advances plan w a before zero h lt = stays w a before 0 (Ok (Rules before)) (omega arith, omega arith, λ no_more. absurd (omega (arith, no_more)))
advances plan w a before (suc left) h lt = go (next_rule w.plan a (office_at w a)) (seat plan w a h) (λ v k. advances plan v a (before + 1) left k lt)
  where
    rule : (r : Rule) → next_at (site_at w a) ≡ Some r → (x : Answer) → happens w (happening.Do a r) ≡ x → Did w a r x → ((v : World) → IsSeated plan v → AdvancesAfter v a (before + 1) left (advanced v a (before + 1) left)) →
        AdvancesAfter w a before (suc left) (further (λ v. advanced v a (before + 1) left) x)
    rule r next x same (Refused e is) on = subst (λ (y : Answer). AdvancesAfter w a before (suc left) (further (λ v. advanced v a (before + 1) left) y)) (sym is)
        (stays w a before (suc left) (Err e) (omega arith, r, next, ap (λ (y : Answer). y.0) (same ∙ is)))
    rule r next x same (Noted w' is sites frames) on =
        let after : (happens w (happening.Do a r)).1 ≡ w' = ap (λ (y : Answer). y.1) (same ∙ is) in
        subst (λ (y : Answer). AdvancesAfter w a before (suc left) (further (λ v. advanced v a (before + 1) left) y)) (sym is)
        (follows w w' a before left r (advanced w' a (before + 1) left) (subst (λ n. a < n) (sym h.size) lt) next after sites frames
        (on w' (subst (IsSeated plan) after (happens_leaves plan w (happening.Do a r) h).seated)))

    go : (o : Option Rule) → next_at (site_at w a) ≡ o → ((v : World) → IsSeated plan v → AdvancesAfter v a (before + 1) left (advanced v a (before + 1) left)) →
        AdvancesAfter w a before (suc left) (by_rule (λ v. advanced v a (before + 1) left) w a before o)
    go None e on = stays w a before (suc left) (Ok (Rules before)) (omega arith, omega arith, λ more. e)
    go (Some r) e on = rule r e (happens w (happening.Do a r)) refl (did w a r) on

all : (a most done : ℕ) (said : Result Said WorldRefusal) (w : World) → EndsAfter a 0 most done said w → Ends a most done said w
all a most done (Ok (Rules n)) w (count, few, none) = (omega (arith, count), omega (arith, count, few), λ lt. none (omega (arith, count, lt)))
all a most done (Ok (Replied r)) w h = h
all a most done (Ok (Settled n)) w h = h
all a most done (Ok (Open n)) w h = h
all a most done (Err e) w h = h

in_plan : (w : World) (a most : ℕ) → IsReached w → a < length w.plan.offices → Advances w a most (advanced w a 0 most)
in_plan w a most reached lt =
    let h : IsSeated w.plan w = subst (IsSeated w.plan) reached.leads (seated w.plan reached.events) in
    let x = advances w.plan w a 0 most h lt in
    record { rules = x.rules; next = x.next; happened = x.happened; sites = x.sites; frames = x.frames; ends = all a most (length x.rules) (advanced w a 0 most).0 (advanced w a 0 most).1 x.ends }

pub offices_advance_by_their_next_rules : OfficesAdvanceByTheirNextRules
offices_advance_by_their_next_rules w a most reached lt =
    let inside : nat_lt a (length w.plan.offices) ≡ true = grind (arith, nat_tests, lt) in
    subst (λ b. Advances w a most (cond b (advanced w a 0 most) (Err refusal.NoOffice, w))) (sym inside) (in_plan w a most reached lt)
