-- A schedule that can't go on has all that any other has: the first event of the other past what it has would be accepted
-- there too, since its office has the same entries and the frame was sent.
use Rattle.std.proofs.Common.{◌≡◌, ℕ, List, [], ◌∷◌, ◌++◌, length, map, Some, Ok, sym, ap, subst, ◌∙◌, arith, inl, inr, ◌⊎◌, ⊎_elim, append-nil}
use Rattle.std.specs.Prelude.{is_ok, IsOk, slice_get}
use Rattle.std.proofs.lemmas.Bool.{cases_eq}
use Rattle.std.proofs.lemmas.List.{append_assoc, append_cancel_left}
use Rattle.office_map.specs.PlanValue.{PlanValue}
use Rattle.office_journal.specs.declared.event.Entry.{Entry}
use Rattle.office_journal.specs.declared.reply.Reply.{Reply}
use Rattle.frame_world.specs.declared.event.WorldEvent.{WorldEvent}
use Rattle.frame_world.specs.Worlds.{World, opening, site_at, frames_of, happens, run_of, AreAccepted}
use Rattle.journal_weave.specs.Weaving.{untagged, entries_at}
use Rattle.journal_weave.specs.Laws.{IsBehind, NoneGoesFurther}
use Rattle.journal_weave.specs.Following.{Gives}
use Rattle.journal_weave.specs.FrameLaws.{AreAmong, both_among}
use Rattle.bottle_values.specs.ListLaws.{nothing_at, at_seam}
use Rattle.journal_weave.proofs.AcceptedEvents.{grown, note, Grows, grows_to, grows, here, elsewhere, entries, Acts, acts, reply_in, sound_opening, site_is, sound_after, sound, run_behind}
use Rattle.journal_weave.specs.refinement.Merging.{IsSound}

-- what is told, without tags
abbrev Lists : Type 0
Lists = ℕ → List Entry

abbrev Begun : World → Lists → Type 0
Begun w lists = (a : ℕ) → (rest : List Entry) × (lists a ≡ entries_at w a ++ rest)

abbrev Goes : World → Lists → Type 0
Goes w lists = (e : WorldEvent) × IsOk (happens w e).0 × Begun (happens w e).1 lists

same_first : (xs rs ss ls : List Entry) (x y : Entry) → ls ≡ (xs ++ x ∷ []) ++ rs → ls ≡ (xs ++ y ∷ []) ++ ss → x ≡ y
same_first xs rs ss ls x y e f =
    let k : x ∷ rs ≡ y ∷ ss = append_cancel_left xs (x ∷ rs) (y ∷ ss) (sym (append_assoc xs (x ∷ []) rs) ∙ sym e ∙ f ∙ append_assoc xs (y ∷ []) ss) in
    cc

-- One event of the other schedule, from v, which w is ahead of: w can make it, or it has it already.
one_event : (plan : PlanValue) (v w : World) (lists : Lists) (e : WorldEvent) → IsSound plan v → IsSound plan w → AreAmong v.frames w.frames → IsBehind v w → Begun w lists → Begun (happens v e).1 lists → IsOk (happens v e).0 →
    Goes w lists ⊎ (AreAmong (happens v e).1.frames w.frames × IsBehind (happens v e).1 w)
one_event plan v w lists e hv hw sub vw wl vl ok = go (vw a).0 (vw a).1
  where
    r : (r : Reply) × ((happens v e).0 ≡ Ok r)
    r = reply_in (happens v e).0 ok

    d : Acts v w e
    d = acts v w e r.0 sub r.1

    a : ℕ
    a = d.place

    g : Grows v a d.does r.0
    g = grows v a d.does r.0 (sym (ap (λ x. x.0) d.is) ∙ r.1)

    v' : World
    v' = grown v a d.does r.0

    leaves : happens v e ≡ (Ok r.0, v')
    leaves = d.is ∙ grows_to v a d.does r.0 g

    new : Entry
    new = note d.does r.0

    begun : Begun v' lists
    begun = subst (λ x. Begun x.1 lists) leaves vl

    next : (more : List Entry) × (lists a ≡ (entries_at v a ++ new ∷ []) ++ more)
    next = let more = begun a in (more.0, more.1 ∙ ap (λ s. entries s ++ more.0) (here v a d.does r.0 g.inside))

    go : (rest : List Entry) → entries_at w a ≡ entries_at v a ++ rest → Goes w lists ⊎ (AreAmong (happens v e).1.frames w.frames × IsBehind (happens v e).1 w)
    go [] at =
        let level : entries_at w a ≡ entries_at v a = at ∙ append-nil (entries_at v a) in
        let site : site_at v a ≡ site_at w a = site_is plan v a hv.seats ∙ ap (λ l. record { plan = plan; me = a; entries = l }) (sym level) ∙ sym (site_is plan w a hw.seats) in
        let there : Grows w a d.does r.0 = record { inside = omega (arith, g.inside, hv.seats.size, hw.seats.size); gives = subst (λ s. Gives s (note d.does r.0)) site g.gives } in
        let made : happens w d.other ≡ (Ok r.0, grown w a d.does r.0) = d.same ∙ grows_to w a d.does r.0 there in
        let left : Begun (grown w a d.does r.0) lists = λ b. ⊎_elim
        (λ i. (next.0, ap lists i ∙ next.1 ∙ ap (λ l. (l ++ new ∷ []) ++ next.0) (sym level) ∙ sym (ap (λ c. entries_at (grown w a d.does r.0) c ++ next.0) i ∙ ap (λ s. entries s ++ next.0) (here w a d.does r.0 there.inside))))
        (λ n. ((wl b).0, (wl b).1 ∙ sym (ap (λ s. entries s ++ (wl b).0) (elsewhere w a d.does r.0 b n))))
        (cases_eq b a)
        in
        inl (d.other, ap (λ x. is_ok x.0) made, subst (λ x. Begun x.1 lists) (sym made) left)
    go (y ∷ rest) at =
        let ahead : entries_at w a ≡ (entries_at v a ++ y ∷ []) ++ rest = at ∙ sym (append_assoc (entries_at v a) (y ∷ []) rest) in
        let whole : lists a ≡ (entries_at v a ++ y ∷ []) ++ (rest ++ (wl a).0) = (wl a).1 ∙ ap (λ l. l ++ (wl a).0) ahead ∙ append_assoc (entries_at v a ++ y ∷ []) rest (wl a).0 in
        let same : new ≡ y = same_first (entries_at v a) next.0 (rest ++ (wl a).0) (lists a) new y next.1 whole in
        let stands : slice_get (entries_at w a) (length (entries_at v a)) ≡ Some new = ap (λ l. slice_get l (length (entries_at v a))) at ∙ at_seam (entries_at v a) y rest ∙ ap Some (sym same) in
        let behind : IsBehind v' w = λ b. ⊎_elim
        (λ i. (rest, ap (entries_at w) i ∙ ahead ∙ ap (λ z. (entries_at v a ++ z ∷ []) ++ rest) (sym same) ∙ sym (ap (λ c. entries_at v' c ++ rest) i ∙ ap (λ s. entries s ++ rest) (here v a d.does r.0 g.inside))))
        (λ n. ((vw b).0, (vw b).1 ∙ sym (ap (λ s. entries s ++ (vw b).0) (elsewhere v a d.does r.0 b n))))
        (cases_eq b a)
        in
        inr (
          subst (λ x. AreAmong x.1.frames w.frames) (sym leaves) (both_among v.frames (frames_of r.0) w.frames sub (hw.known a (length (entries_at v a)) new stands)),
          subst (λ x. IsBehind x.1 w) (sym leaves) behind,
        )

goes_on : (plan : PlanValue) (es : List WorldEvent) (v w : World) (lists : Lists) → IsSound plan v → IsSound plan w → AreAmong v.frames w.frames → IsBehind v w → Begun w lists → AreAccepted v es → Begun (run_of v es) lists →
    Goes w lists ⊎ IsBehind (run_of v es) w
goes_on plan [] v w lists hv hw sub vw wl ok begun = inr vw
goes_on plan (e ∷ es) v w lists hv hw sub vw wl (ok, oks) begun =
    let after : Begun (happens v e).1 lists = λ a.
    let more = run_behind (happens v e).1 es oks a in
    (more.0 ++ (begun a).0, (begun a).1 ∙ ap (λ l. l ++ (begun a).0) more.1 ∙ append_assoc (entries_at (happens v e).1 a) more.0 (begun a).0)
    in
    let later : AreAmong (happens v e).1.frames w.frames → IsBehind (happens v e).1 w → Goes w lists ⊎ IsBehind (run_of (happens v e).1 es) w =
    λ s b. goes_on plan es (happens v e).1 w lists (sound_after plan v e hv ok) hw s b wl oks begun in
    ⊎_elim (λ x. inl x) (λ x. later x.0 x.1) (one_event plan v w lists e hv hw sub vw wl after ok)

pub none_goes_further : NoneGoesFurther
none_goes_further plan told events others has other =
    let w = run_of (opening plan) events in
    let lists : Lists = λ a. map untagged (told a) in
    goes_on plan others (opening plan) w lists (sound_opening plan) (sound plan (opening plan) events (sound_opening plan) has.accepted)
    (λ k f e. absurd (nothing_at k f e)) (run_behind (opening plan) events has.accepted) has.begins other.accepted other.begins
