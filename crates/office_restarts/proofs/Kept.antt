-- What is kept along a history: a schedule of all that stands, which sent what left; and each office gives its journal by itself,
-- and took no frame but such that left.
use Rattle.std.proofs.Common.{◌≡◌, ◌≢◌, ℕ, zero, suc, ◌+◌, ◌-◌, ◌<◌, ◌≤◌, min, Bool, true, false, cond, List, [], ◌∷◌, ◌++◌, length, map, take, Option, None, Some, Ok, Err, refl, sym, ap, subst, ◌∙◌, arith, inl, inr, ◌⊎◌, ⊎_elim}
use Rattle.std.specs.Prelude.{Result, nat_lt, nat_le, slice_get, get_or, option_map}
use Rattle.std.proofs.lemmas.Bool.{cases_eq}
use Rattle.std.proofs.lemmas.Bool.Decides.{nat_tests}
use Rattle.std.proofs.lemmas.List.{length_push, length-take, take-take, take-append-le}
use Rattle.std.proofs.lemmas.Option.{slice_get-map, slice_get_cases}
use Rattle.bottle_values.specs.ListLaws.{nothing_at}
use Rattle.bottle_values.specs.Maps.{put}
use Rattle.bottle_values.specs.MapLaws.{put_cases, put_other, put_same}
use Rattle.frame_codec.specs.Frame.{Fields}
use Rattle.office_map.specs.PlanValue.{PlanValue}
use Rattle.site_core.specs.Limits.{most_entries}
use Rattle.office_journal.specs.declared.event.Event.{Event}
use Rattle.office_journal.specs.declared.event.Event.TheVariants as event
use Rattle.office_journal.specs.declared.event.Entry.{Entry}
use Rattle.office_journal.specs.declared.reply.Reply.{Reply}
use Rattle.office_journal.specs.declared.reply.Refusal.{Refusal}
use Rattle.office_journal.specs.declared.reply.Refusal.TheVariants as refusal
use Rattle.site_core.specs.Offices.{Office, Answer, answer}
use Rattle.site_core.specs.Journals.{Site, office_of, noted, recorded, step}
use Rattle.frame_world.specs.declared.event.WorldEvent.{WorldEvent}
use Rattle.frame_world.specs.declared.event.WorldEvent.TheVariants as happening
use Rattle.frame_world.specs.Worlds.{World, opening, run_of, frames_of}
use Rattle.frame_world.specs.Termination.{is_submit}
use Rattle.journal_weave.specs.Weaving.{untagged, entries_at}
use Rattle.journal_weave.specs.Following.{site_of, Gives}
use Rattle.journal_weave.specs.FrameLaws.{AreAmong, are_among_themselves, among_left, both_among}
use Rattle.journal_weave.specs.refinement.Merging.{IsEventAt, Has, Follows}
use Rattle.journal_weave.proofs.AcceptedEvents.{sound_opening, sound, nothing_told}
use Rattle.journal_weave.proofs.Merging.{has_more, frames_after}
use Rattle.office_restarts.specs.Termination.{brought_by}
use Rattle.office_restarts.specs.Lives.{Lives, Happening, Handed, Stored, Left, Lost, newborn, site_in, standing, answered, handed, arrives, happens, leaves, after, goes_on}
use Rattle.office_restarts.proofs.Parts.{GivesAll, get_first, gives_untagged, gives_first, gives_one_more, last_or_before}

-- ---- an office by itself

-- the frame is the office's, and left
abbrev pub CameFrom : List Fields → ℕ → Fields → Type 0
CameFrom left a f = (f.to ≡ a) × (k : ℕ) × (slice_get left k ≡ Some f)

pub record Own (plan : PlanValue) (left : List Fields) (a : ℕ) (xs : List Entry) : Type 0 where
  pub gives : GivesAll plan a xs
  pub comes : (i : ℕ) (x : Entry) (f : Fields) → slice_get xs i ≡ Some x → x.event ≡ event.Took f → CameFrom left a f
  pub inside : (i : ℕ) (x : Entry) → slice_get xs i ≡ Some x → a < length plan.offices

own_none : (plan : PlanValue) (left : List Fields) (a : ℕ) → Own plan left a []
own_none plan left a = record {
  gives = λ i x e. absurd (nothing_at i x e);
  comes = λ i x f e t. absurd (nothing_at i x e);
  inside = λ i x e. absurd (nothing_at i x e);
}

own_first : (plan : PlanValue) (left : List Fields) (a : ℕ) (xs : List Entry) (n : ℕ) → Own plan left a xs → Own plan left a (take n xs)
own_first plan left a xs n o = record {
  gives = gives_first plan a xs n o.gives;
  comes = λ i x f e t. o.comes i x f (get_first xs n i x e) t;
  inside = λ i x e. o.inside i x (get_first xs n i x e);
}

own_more : (plan : PlanValue) (left : List Fields) (a : ℕ) (xs : List Entry) (y : Entry) → Own plan left a xs → a < length plan.offices → Gives (site_of plan a xs) y → ((f : Fields) → y.event ≡ event.Took f → CameFrom left a f) → Own plan left a (xs ++ y ∷ [])
own_more plan left a xs y o lt gives comes = record {
  gives = gives_one_more plan a xs y o.gives gives;
  comes = λ i x f e t. ⊎_elim
      (λ h. o.comes i x f h t)
      (λ h. comes f (ap (λ (z : Entry). z.event) h.1 ∙ t))
      (last_or_before xs y x i e);
  inside = λ i x e. lt;
}

own_wider : (plan : PlanValue) (left more : List Fields) (a : ℕ) (xs : List Entry) → AreAmong left more → Own plan left a xs → Own plan more a xs
own_wider plan left more a xs sub o = record {
  gives = o.gives;
  comes = λ i x f e t. let c = o.comes i x f e t in let j = sub c.1 f c.2 in (c.0, j.0, j.1);
  inside = o.inside;
}

-- ---- all offices

pub record KeptAt (plan : PlanValue) (journal : ℕ → List Entry) (at : ℕ → ℕ) (left : List Fields) : Type 0 where
  pub schedule : List WorldEvent
  pub has : Has plan journal at schedule
  pub sent : AreAmong left (run_of (opening plan) schedule).frames
  pub within : (a : ℕ) → at a ≤ length (journal a)
  pub own : (a : ℕ) → Own plan left a (journal a)

pub record Kept (plan : PlanValue) (l : Lives) : Type 0 where
  pub planned : l.plan ≡ plan
  pub at : KeptAt l.plan l.journal l.stood l.left

pub kept_newborn : (plan : PlanValue) → Kept plan (newborn plan)
kept_newborn plan = record {
  planned = refl;
  at = record {
    schedule = [];
    has = record { accepted = tt; entries = nothing_told plan };
    sent = λ k f e. absurd (nothing_at k f e);
    within = λ a. omega arith;
    own = own_none plan [];
  };
}

-- ---- an accepted event

abbrev with_journal : Lives → ℕ → List Entry → Lives
with_journal l a xs = record { plan = l.plan; journal = put l.journal a xs; stood = l.stood; left = l.left }

pub record Accepted (l l' : Lives) (of : WorldEvent) : Type 0 where
  pub place : ℕ
  pub entry : Entry
  pub inside : place < length l.plan.offices
  pub gives : Gives (site_of l.plan place (l.journal place)) entry
  pub comes : (f : Fields) → entry.event ≡ event.Took f → CameFrom l.left place f
  pub brings : is_submit of ≡ false → (b : ℕ) → brought_by l.plan b entry.event ≡ 0
  pub led : l' ≡ with_journal l place (l.journal place ++ entry ∷ [])

abbrev Leaves : Lives → Lives → WorldEvent → Type 0
Leaves l l' of = (l' ≡ l) ⊎ Accepted l l' of

abbrev Stepped : Type 0
Stepped = Result Reply Refusal × Site

handed_leaves : (l : Lives) (a tag : ℕ) (e : Event) (of : WorldEvent) → ((f : Fields) → e ≡ event.Took f → CameFrom l.left a f) → (is_submit of ≡ false → (b : ℕ) → brought_by l.plan b e ≡ 0) → Leaves l (handed l a tag e) of
handed_leaves l a tag e of comes brings = by_place (nat_lt a (length l.plan.offices)) refl
  where
    s : Site
    s = site_in l a

    by_room : (r : Reply) (o : Office) → answer l.plan a (office_of s) e ≡ Ok (r, o) → nat_lt a (length l.plan.offices) ≡ true → (full : Bool) → nat_le most_entries (length (l.journal a)) ≡ full →
        Leaves l (answered l a (cond {A = Stepped} full (Err refusal.JournalFull, s) (Ok r, noted s tag e r))) of
    by_room r o ans inside true room = inl refl
    by_room r o ans inside false room = inr (record {
      place = a;
      entry = record { tag = tag; event = e; reply = r };
      inside = grind (arith, nat_tests, inside);
      gives = gives_untagged l.plan a (l.journal a) (record { tag = tag; event = e; reply = r }) o ans room;
      comes = comes;
      brings = brings;
      led = refl;
    })

    by_answer : (x : Answer) → answer l.plan a (office_of s) e ≡ x → nat_lt a (length l.plan.offices) ≡ true → Leaves l (answered l a (recorded s tag e x)) of
    by_answer (Ok x) ans inside = by_room x.0 x.1 ans inside (nat_le most_entries (length (l.journal a))) refl
    by_answer (Err r) ans inside = inl refl

    by_place : (b : Bool) → nat_lt a (length l.plan.offices) ≡ b → Leaves l (cond b (answered l a (step s tag e)) l) of
    by_place true inside = by_answer (answer l.plan a (office_of s) e) refl inside
    by_place false inside = inl refl

pub happens_leaves : (l : Lives) (tag : ℕ) (e : WorldEvent) → Leaves l (happens l tag e) e
happens_leaves l tag (happening.Submit a p) = handed_leaves l a tag (event.Submit p) (happening.Submit a p) (λ f i. cc) (λ i b. cc)
happens_leaves l tag (happening.Withdraw a t) = handed_leaves l a tag (event.Withdraw t) (happening.Withdraw a t) (λ f i. cc) (λ i b. refl)
happens_leaves l tag (happening.Do a r) = handed_leaves l a tag (event.Do r) (happening.Do a r) (λ f i. cc) (λ i b. refl)
happens_leaves l tag (happening.Send a v i) = handed_leaves l a tag (event.Send v i) (happening.Send a v i) (λ f i. cc) (λ i b. refl)
happens_leaves l tag (happening.Deliver zero) = inl refl
happens_leaves l tag (happening.Deliver (suc k)) = of (slice_get l.left k) refl
  where
    of : (f : Option Fields) → slice_get l.left k ≡ f → Leaves l (arrives l tag f) (happening.Deliver (suc k))
    of None e = inl refl
    of (Some f) e = handed_leaves l f.to tag (event.Took f) (happening.Deliver (suc k)) (λ g i. let one : f ≡ g = cc in (ap (λ (z : Fields). z.to) (sym one), k, e ∙ ap Some one)) (λ i b. refl)

kept_accepted : (plan : PlanValue) (l l' : Lives) (of : WorldEvent) → Accepted l l' of → Kept plan l → Kept plan l'
kept_accepted plan l l' of c k = subst (Kept plan) (sym c.led) (record {
  planned = k.planned;
  at = record {
    schedule = k.at.schedule;
    has = record {
      accepted = k.at.has.accepted;
      entries = λ b. put_cases l.journal a more b (λ xs. entries_at w b ≡ map untagged (take (l.stood b) xs))
          (λ i. k.at.has.entries b ∙ ap (λ xs. map untagged (take (l.stood b) xs)) (ap l.journal i) ∙ ap (map untagged) (sym (take-append-le (l.stood b) (l.journal a) (c.entry ∷ []) (few b i))))
          (λ ne. k.at.has.entries b);
    };
    sent = k.at.sent;
    within = λ b. put_cases l.journal a more b (λ xs. l.stood b ≤ length xs)
        (λ i. omega (arith, few b i, length_push (l.journal a) c.entry))
        (λ ne. k.at.within b);
    own = λ b. put_cases l.journal a more b (Own l.plan l.left b)
        (λ i. subst (λ x. Own l.plan l.left x more) (sym i) (own_more l.plan l.left a (l.journal a) c.entry (k.at.own a) c.inside c.gives c.comes))
        (λ ne. k.at.own b);
  };
})
  where
    a : ℕ
    a = c.place

    more : List Entry
    more = l.journal a ++ c.entry ∷ []

    w : World
    w = run_of (opening l.plan) k.at.schedule

    few : (b : ℕ) → b ≡ a → l.stood b ≤ length (l.journal a)
    few b i = subst (λ x. l.stood b ≤ length (l.journal x)) i (k.at.within b)

-- ---- more stands

event_of : (frames left : List Fields) (a : ℕ) (e : Event) → ((f : Fields) → e ≡ event.Took f → CameFrom left a f) → AreAmong left frames → (x : WorldEvent) × IsEventAt frames a e x
event_of frames left a (event.Submit p) comes sub = (happening.Submit a p, refl)
event_of frames left a (event.Do r) comes sub = (happening.Do a r, refl)
event_of frames left a (event.Send v i) comes sub = (happening.Send a v i, refl)
event_of frames left a (event.Withdraw t) comes sub = (happening.Withdraw a t, refl)
event_of frames left a (event.Took f) comes sub =
    let c = comes f refl in
    let j = sub c.1 f c.2 in
    (happening.Deliver (suc j.0), (c.0, suc j.0, refl, (j.0, refl, j.1)))

module _ (plan : PlanValue) (journal : ℕ → List Entry) (left : List Fields) (a : ℕ) where
  -- the same counts
  same_at : (at at' : ℕ → ℕ) → KeptAt plan journal at left → ((b : ℕ) → at' b ≡ at b) → KeptAt plan journal at' left
  same_at at at' k same = record {
    schedule = k.schedule;
    has = record { accepted = k.has.accepted; entries = λ b. k.has.entries b ∙ ap (λ n. map untagged (take n (journal b))) (sym (same b)) };
    sent = k.sent;
    within = λ b. omega (arith, same b, k.within b);
    own = k.own;
  }

  one_stored : (at at' : ℕ → ℕ) → KeptAt plan journal at left → at' a ≡ at a + 1 → ((b : ℕ) → b ≢ a → at' b ≡ at b) → at a < length (journal a) → KeptAt plan journal at' left
  one_stored at at' k more others lt = ⊎_elim there (λ none. absurd (omega (arith, lt, none.0))) (slice_get_cases (journal a) (at a)).1
    where
      w : World
      w = run_of (opening plan) k.schedule

      there : (x : Entry) × (at a < length (journal a)) × (slice_get (journal a) (at a) ≡ Some x) × (get_or (journal a) (at a) x ≡ x) → KeptAt plan journal at' left
      there (x, below, next, read) =
          let e = event_of w.frames left a x.event (λ f t. (k.own a).comes (at a) x f next t) k.sent in
          let g : Follows plan journal at k.schedule a x e.0 = record {
            has = k.has;
            inside = (k.own a).inside (at a) x next;
            next = next;
            gives = (k.own a).gives (at a) x next;
            is = e.1;
          } in
          record {
            schedule = k.schedule ++ e.0 ∷ [];
            has = has_more plan journal at k.schedule a x e.0 g at' more others;
            sent = subst (AreAmong left) (sym (frames_after plan journal at k.schedule a x e.0 g)) (among_left left w.frames (frames_of x.reply) k.sent);
            within = λ b. ⊎_elim
                (λ i. subst (λ c. at' c ≤ length (journal c)) (sym i) (omega (arith, more, lt)))
                (λ ne. omega (arith, others b ne, k.within b))
                (cases_eq b a);
            own = k.own;
          }

  pub more_stored : (m : ℕ) (at at' : ℕ → ℕ) → KeptAt plan journal at left → at' a ≡ at a + m → ((b : ℕ) → b ≢ a → at' b ≡ at b) → at' a ≤ length (journal a) → KeptAt plan journal at' left
  more_stored zero at at' k more others le = same_at at at' k (λ b. ⊎_elim (λ i. ap at' i ∙ more ∙ omega arith ∙ ap at (sym i)) (others b) (cases_eq b a))
  more_stored (suc m) at at' k more others le =
      let mid : ℕ → ℕ = put at a (at a + 1) in
      let here : mid a ≡ at a + 1 = put_same at a (at a + 1) in
      more_stored m mid at' (one_stored at mid k here (λ b ne. put_other at a (at a + 1) b ne) (omega (arith, more, le))) (omega (arith, more, here)) (λ b ne. others b ne ∙ sym (put_other at a (at a + 1) b ne)) le

-- ---- what a history keeps

kept_stored : (plan : PlanValue) (l : Lives) (a n : ℕ) → Kept plan l → Kept plan (after l (Stored a n))
kept_stored plan l a n k = record {
  planned = k.planned;
  at =
      let to : ℕ = min (l.stood a + n) (length (l.journal a)) in
      let here : put l.stood a to a ≡ min (l.stood a + n) (length (l.journal a)) = put_same l.stood a to in
      more_stored l.plan l.journal l.left a (min (l.stood a + n) (length (l.journal a)) - l.stood a) l.stood (put l.stood a to) k.at (here ∙ omega (arith, k.at.within a)) (λ b ne. put_other l.stood a to b ne) (omega (arith, here));
}

kept_leaves : (plan : PlanValue) (l : Lives) (a i : ℕ) (x : Option Entry) → slice_get (standing l a) i ≡ x → Kept plan l → Kept plan (leaves l x)
kept_leaves plan l a i None e k = k
kept_leaves plan l a i (Some x) e k = record {
  planned = k.planned;
  at = record {
    schedule = k.at.schedule;
    has = k.at.has;
    sent = both_among l.left (frames_of x.reply) w.frames k.at.sent known;
    within = k.at.within;
    own = λ b. own_wider l.plan l.left (l.left ++ frames_of x.reply) b (l.journal b) (among_left l.left l.left (frames_of x.reply) (are_among_themselves l.left)) (k.at.own b);
  };
}
  where
    w : World
    w = run_of (opening l.plan) k.at.schedule

    stands : slice_get (entries_at w a) i ≡ Some (untagged x)
    stands = ap (λ xs. slice_get xs i) (k.at.has.entries a) ∙ slice_get-map untagged (standing l a) i ∙ ap (option_map untagged) e

    known : AreAmong (frames_of x.reply) w.frames
    known = (sound l.plan (opening l.plan) k.at.schedule (sound_opening l.plan) k.at.has.accepted).known a i (untagged x) stands

kept_lost : (plan : PlanValue) (l : Lives) (a n : ℕ) → Kept plan l → Kept plan (after l (Lost a n))
kept_lost plan l a n k = record {
  planned = k.planned;
  at = record {
    schedule = k.at.schedule;
    has = record {
      accepted = k.at.has.accepted;
      entries = λ b. put_cases l.journal a rest b (λ xs. entries_at w b ≡ map untagged (take (l.stood b) xs))
          (λ i. k.at.has.entries b ∙ ap (λ xs. map untagged (take (l.stood b) xs)) (ap l.journal i) ∙ ap (map untagged) (sym (take-take (l.stood b) (l.stood a + n) (l.journal a) (omega (arith, ap l.stood i)))))
          (λ ne. k.at.has.entries b);
    };
    sent = k.at.sent;
    within = λ b. put_cases l.journal a rest b (λ xs. l.stood b ≤ length xs)
        (λ i. omega (arith, ap l.stood i, k.at.within a, length-take (l.stood a + n) (l.journal a)))
        (λ ne. k.at.within b);
    own = λ b. put_cases l.journal a rest b (Own l.plan l.left b)
        (λ i. subst (λ x. Own l.plan l.left x rest) (sym i) (own_first l.plan l.left a (l.journal a) (l.stood a + n) (k.at.own a)))
        (λ ne. k.at.own b);
  };
}
  where
    rest : List Entry
    rest = take (l.stood a + n) (l.journal a)

    w : World
    w = run_of (opening l.plan) k.at.schedule

pub kept_after : (plan : PlanValue) (l : Lives) (h : Happening) → Kept plan l → Kept plan (after l h)
kept_after plan l (Handed tag e) k = ⊎_elim (λ same. subst (Kept plan) (sym same) k) (λ c. kept_accepted plan l (happens l tag e) e c k) (happens_leaves l tag e)
kept_after plan l (Stored a n) k = kept_stored plan l a n k
kept_after plan l (Left a i) k = kept_leaves plan l a i (slice_get (standing l a) i) refl k
kept_after plan l (Lost a n) k = kept_lost plan l a n k

pub kept_on : (plan : PlanValue) (l : Lives) (hs : List Happening) → Kept plan l → Kept plan (goes_on l hs)
kept_on plan l [] k = k
kept_on plan l (h ∷ hs) k = kept_on plan (after l h) hs (kept_after plan l h k)
