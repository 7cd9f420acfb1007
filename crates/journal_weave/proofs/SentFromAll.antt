-- How many of a world's frames pass a test is told by what its offices accepted: each frame is the reply of one entry.
use Rattle.std.proofs.Common.{◌≡◌, ℕ, ◌+◌, ◌<◌, Bool, List, [], ◌∷◌, ◌++◌, length, map, set, cond, refl, sym, ap, subst, ◌∙◌, arith, append-nil}
use Rattle.std.specs.List.{count_by, flat_map, range_with_len, sum_by}
use Rattle.std.proofs.lemmas.Grind.{flat_map-append}
use Rattle.std.proofs.lemmas.List.Sums.{sum_by-append, sum_by-set}
use Rattle.frame_codec.specs.Frame.{Fields}
use Rattle.office_map.specs.PlanValue.{PlanValue}
use Rattle.office_journal.specs.declared.event.Event.{Event}
use Rattle.office_journal.specs.declared.event.Entry.{Entry}
use Rattle.office_journal.specs.declared.reply.Reply.{Reply}
use Rattle.site_core.specs.Journals.{Site, noted}
use Rattle.frame_world.specs.declared.event.WorldEvent.{WorldEvent}
use Rattle.frame_world.specs.Worlds.{World, silent, opening, site_at, frames_of, happens, run_of, AreAccepted}
use Rattle.journal_weave.specs.Weaving.{entries_at}
use Rattle.journal_weave.proofs.AcceptedEvents.{grown, note, happened}

abbrev sent_by : Entry → List Fields
sent_by x = frames_of x.reply

-- how many that an office sent pass the test
abbrev passing : (Fields → Bool) → Site → ℕ
passing test s = count_by test (flat_map sent_by s.entries)

abbrev IsCounted : (Fields → Bool) → World → Type 0
IsCounted test w = count_by test w.frames ≡ sum_by (passing test) w.sites

none_yet : (test : Fields → Bool) (plan : PlanValue) (xs : List ℕ) → 0 ≡ sum_by (passing test) (map (silent plan) xs)
none_yet test plan [] = refl
none_yet test plan (x ∷ xs) = none_yet test plan xs

counted_grown : (test : Fields → Bool) (w : World) (a : ℕ) (e : Event) (r : Reply) → a < length w.sites → IsCounted test w → IsCounted test (grown w a e r)
counted_grown test w a e r inside h = omega (arith, h, frames, offices, office)
  where
    new : Site
    new = noted (site_at w a) 0 e r

    frames : count_by test (w.frames ++ frames_of r) ≡ count_by test w.frames + count_by test (frames_of r)
    frames = sum_by-append (λ f. cond (test f) 1 0) w.frames (frames_of r)

    offices : sum_by (passing test) (set w.sites a new) + passing test (site_at w a) ≡ sum_by (passing test) w.sites + passing test new
    offices = sum_by-set (passing test) w.sites a new (silent w.plan a) inside

    sent : flat_map sent_by new.entries ≡ flat_map sent_by (entries_at w a) ++ frames_of r
    sent = flat_map-append sent_by (entries_at w a) (note e r ∷ []) ∙ ap (λ l. flat_map sent_by (entries_at w a) ++ l) (append-nil (frames_of r))

    office : passing test new ≡ passing test (site_at w a) + count_by test (frames_of r)
    office = ap (count_by test) sent ∙ sum_by-append (λ f. cond (test f) 1 0) (flat_map sent_by (entries_at w a)) (frames_of r)

counted : (test : Fields → Bool) (w : World) (es : List WorldEvent) → IsCounted test w → AreAccepted w es → IsCounted test (run_of w es)
counted test w [] h ok = h
counted test w (e ∷ es) h (ok, oks) =
    let d = happened w e ok in
    counted test (happens w e).1 es (subst (λ x. IsCounted test x.1) (sym d.leaves) (counted_grown test w d.place d.does d.reply d.grows.inside h)) oks

pub same_frames : (plan : PlanValue) (test : Fields → Bool) (events others : List WorldEvent) → AreAccepted (opening plan) events → AreAccepted (opening plan) others → (run_of (opening plan) events).sites ≡ (run_of (opening plan) others).sites →
    count_by test (run_of (opening plan) events).frames ≡ count_by test (run_of (opening plan) others).frames
same_frames plan test events others one other same =
    let start : IsCounted test (opening plan) = none_yet test plan (range_with_len 0 (length plan.offices)) in
    counted test (opening plan) events start one ∙ ap (sum_by (passing test)) same ∙ sym (counted test (opening plan) others start other)
