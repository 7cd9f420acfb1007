-- One entry more of a merge, and its end: where each office is stuck no event goes on.
use Rattle.std.proofs.Common.{◌≡◌, ◌≢◌, ℕ, ◌+◌, ◌≤◌, List, [], ◌∷◌, ◌++◌, length, map, take, drop, Some, Ok, refl, sym, ap, subst, ◌∙◌, arith, inl, inr, ◌⊎◌, ⊎_elim}
use Rattle.std.specs.Prelude.{IsOk, is_ok, slice_get}
use Rattle.std.proofs.lemmas.Bool.{cases_eq}
use Rattle.std.proofs.lemmas.List.{append_assoc, map-append, take-append-drop, length-map, length-take-le}
use Rattle.office_map.specs.PlanValue.{PlanValue}
use Rattle.frame_codec.specs.Frame.{Fields}
use Rattle.office_journal.specs.declared.event.Event.{Event}
use Rattle.office_journal.specs.declared.event.Event.TheVariants as event
use Rattle.office_journal.specs.declared.event.Entry.{Entry}
use Rattle.site_core.specs.Journals.{Site}
use Rattle.frame_world.specs.declared.event.WorldEvent.{WorldEvent}
use Rattle.frame_world.specs.Worlds.{World, opening, site_at, frames_of, handed, delivered, frame_at, happens, run_of, AreAccepted}
use Rattle.frame_world.specs.WorldLaws.{seated}
use Rattle.journal_weave.specs.Weaving.{untagged, entries_at, GoesAlong}
use Rattle.journal_weave.specs.Laws.{CanGoOn}
use Rattle.journal_weave.specs.Following.{site_of, Gives}
use Rattle.journal_weave.specs.refinement.Merging.{IsEventAt, CannotCome, Has, Follows}
use Rattle.journal_weave.proofs.EntriesTold.{untagged_next, next_told}
use Rattle.journal_weave.proofs.AcceptedEvents.{grown, note, Grows, grows_to, here, elsewhere, site_is, Happened, happened}

pub run_push : (w : World) (es : List WorldEvent) (e : WorldEvent) → run_of w (es ++ e ∷ []) ≡ (happens (run_of w es) e).1
run_push w [] e = refl
run_push w (x ∷ es) e = run_push (happens w x).1 es e

accepted_push : (w : World) (es : List WorldEvent) (e : WorldEvent) → AreAccepted w es → IsOk (happens (run_of w es) e).0 → AreAccepted w (es ++ e ∷ [])
accepted_push w [] e ok last = (last, tt)
accepted_push w (x ∷ es) e (ok, oks) last = (ok, accepted_push (happens w x).1 es e oks last)

-- that event of the world is handed to the office
handed_at : (w : World) (a : ℕ) (ev : Event) (e : WorldEvent) → IsEventAt w.frames a ev e → happens w e ≡ handed w a ev
handed_at w a (event.Submit p) e is = ap (happens w) is
handed_at w a (event.Withdraw t) e is = ap (happens w) is
handed_at w a (event.Do r) e is = ap (happens w) is
handed_at w a (event.Send b i) e is = ap (happens w) is
handed_at w a (event.Took f) e (to, k, is, sent) =
    ap (happens w) is ∙ ap (λ n. delivered w (frame_at w n)) sent.1 ∙ ap (delivered w) sent.2 ∙ ap (λ b. handed w b (event.Took f)) to

-- ---- the schedule of a merge, without the rest of it

pub site_told : (plan : PlanValue) (told : ℕ → List Entry) (at : ℕ → ℕ) (schedule : List WorldEvent) → Has plan told at schedule → (a : ℕ) → site_at (run_of (opening plan) schedule) a ≡ site_of plan a (take (at a) (told a))
site_told plan told at schedule h a =
    site_is plan (run_of (opening plan) schedule) a (seated plan schedule) ∙ ap (λ l. record { plan = plan; me = a; entries = l }) (h.entries a)

module _ (plan : PlanValue) (told : ℕ → List Entry) (at : ℕ → ℕ) (schedule : List WorldEvent) (a : ℕ) (x : Entry) (e : WorldEvent) (g : Follows plan told at schedule a x e) where
  abbrev w : World
  w = run_of (opening plan) schedule

  grows : Grows w a x.event x.reply
  grows = record { inside = omega (arith, g.inside, (seated plan schedule).size); gives = subst (λ s. Gives s x) (sym (site_told plan told at schedule g.has a)) g.gives }

  leaves : happens w e ≡ (Ok x.reply, grown w a x.event x.reply)
  leaves = handed_at w a x.event e g.is ∙ grows_to w a x.event x.reply grows

  after : run_of (opening plan) (schedule ++ e ∷ []) ≡ grown w a x.event x.reply
  after = run_push (opening plan) schedule e ∙ ap (λ y. y.1) leaves

  pub frames_after : (run_of (opening plan) (schedule ++ e ∷ [])).frames ≡ w.frames ++ frames_of x.reply
  frames_after = ap (λ (v : World). v.frames) after

  -- the office has one entry more
  one_more : (n : ℕ) → n ≡ at a + 1 → entries_at (run_of (opening plan) (schedule ++ e ∷ [])) a ≡ map untagged (take n (told a))
  one_more n more =
      ap (λ (v : World). entries_at v a) after
      ∙ ap (λ (s : Site). s.entries) (here w a x.event x.reply grows.inside)
      ∙ ap (λ (l : List Entry). l ++ untagged x ∷ []) (g.has.entries a)
      ∙ sym (untagged_next (told a) (at a) x g.next)
      ∙ ap (λ (k : ℕ). map untagged (take k (told a))) (sym more)

  -- the others have what they had
  as_many : (b n : ℕ) → b ≢ a → n ≡ at b → entries_at (run_of (opening plan) (schedule ++ e ∷ [])) b ≡ map untagged (take n (told b))
  as_many b n other same =
      ap (λ (v : World). entries_at v b) after
      ∙ ap (λ (s : Site). s.entries) (elsewhere w a x.event x.reply b other)
      ∙ g.has.entries b
      ∙ ap (λ (k : ℕ). map untagged (take k (told b))) (sym same)

  pub has_more : (at' : ℕ → ℕ) → at' a ≡ at a + 1 → ((b : ℕ) → b ≢ a → at' b ≡ at b) → Has plan told at' (schedule ++ e ∷ [])
  has_more at' more others = record {
    accepted = accepted_push (opening plan) schedule e g.has.accepted (ap (λ y. is_ok y.0) leaves);
    entries = λ b. of b (cases_eq b a);
  }
    where
      of : (b : ℕ) → (b ≡ a) ⊎ (b ≢ a) → entries_at (run_of (opening plan) (schedule ++ e ∷ [])) b ≡ map untagged (take (at' b) (told b))
      of b (inl is) = subst (λ (c : ℕ). entries_at (run_of (opening plan) (schedule ++ e ∷ [])) c ≡ map untagged (take (at' c) (told c))) {y = b} (sym is) (one_more (at' a) more)
      of b (inr ne) = as_many b (at' b) ne (others b ne)

-- ---- the end

-- an office's next entry isn't given, or takes a frame that can't come
abbrev pub Cannot : PlanValue → (ℕ → List Entry) → (ℕ → ℕ) → List Fields → ℕ → Type 0
Cannot plan told at frames a = (x : Entry) → slice_get (told a) (at a) ≡ Some x → (Gives (site_of plan a (take (at a) (told a))) x → ⊥) ⊎ CannotCome frames a x.event

pub no_way : (plan : PlanValue) (told : ℕ → List Entry) (at : ℕ → ℕ) (schedule : List WorldEvent) → Has plan told at schedule →
    ((a : ℕ) → Cannot plan told at (run_of (opening plan) schedule).frames a) → CanGoOn (run_of (opening plan) schedule) told → ⊥
no_way plan told at schedule h stuck (e, ok, begins) = by_why (stuck d.place y.0 y.1)
  where
    w : World
    w = run_of (opening plan) schedule

    d : Happened w e
    d = happened w e ok

    rest : List Entry
    rest = (begins d.place).0

    next : map untagged (told d.place) ≡ map untagged (take (at d.place) (told d.place)) ++ note d.does d.reply ∷ rest
    next =
        (begins d.place).1
        ∙ ap (λ v. entries_at v.1 d.place ++ rest) d.leaves
        ∙ ap (λ (s : Site). s.entries ++ rest) (here w d.place d.does d.reply d.grows.inside)
        ∙ append_assoc (entries_at w d.place) (note d.does d.reply ∷ []) rest
        ∙ ap (λ l. l ++ note d.does d.reply ∷ rest) (h.entries d.place)

    y : (y : Entry) × (slice_get (told d.place) (at d.place) ≡ Some y) × (untagged y ≡ note d.does d.reply)
    y = next_told (told d.place) (at d.place) (note d.does d.reply) rest next

    by_why : (Gives (site_of plan d.place (take (at d.place) (told d.place))) y.0 → ⊥) ⊎ CannotCome w.frames d.place y.0.event → ⊥
    by_why (inl never) = never (subst (λ s. Gives s y.0) (site_told plan told at schedule h d.place) (subst (λ (z : Entry). Gives (site_at w d.place) z) (sym y.2) d.grows.gives))
    by_why (inr never) =
        let does : d.does ≡ event.Took never.frame = sym (ap (λ (z : Entry). z.event) y.2) ∙ never.takes in
        let c = d.comes never.frame does in
        ⊎_elim (λ n. n c.0) (λ n. n c.1 c.2) never.lacks

pub goes_along : (plan : PlanValue) (told : ℕ → List Entry) (at : ℕ → ℕ) (schedule : List WorldEvent) → Has plan told at schedule → GoesAlong plan told schedule
goes_along plan told at schedule h = record {
  accepted = h.accepted;
  begins = λ a. (
    map untagged (drop (at a) (told a)),
    ap (map untagged) (sym (take-append-drop (at a) (told a))) ∙ map-append untagged (take (at a) (told a)) (drop (at a) (told a)) ∙ ap (λ l. l ++ map untagged (drop (at a) (told a))) (sym (h.entries a)),
  );
}

pub has_all : (plan : PlanValue) (told : ℕ → List Entry) (at : ℕ → ℕ) (schedule : List WorldEvent) → Has plan told at schedule → (a : ℕ) → at a ≤ length (told a) → length (entries_at (run_of (opening plan) schedule) a) ≡ at a
has_all plan told at schedule h a le = ap length (h.entries a) ∙ length-map (take (at a) (told a)) untagged ∙ length-take-le (at a) (told a) le
