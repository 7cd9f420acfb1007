-- What follows of frames that entries tell: they are told there as long as journals grow.
use Rattle.std.proofs.Common.{◌≡◌, ◌≢◌, ℕ, ◌<◌, List, [], ◌∷◌, ◌++◌, length, map, get_or, set, Option, Some, None, refl, sym, ap, subst, ◌∙◌, ⊎_elim}
use Rattle.std.specs.Prelude.{slice_get, is_some, true}
use Rattle.std.specs.Option.{option_and_then}
use Rattle.std.proofs.lemmas.Bool.{cases_eq}
use Rattle.std.proofs.lemmas.List.{get_or-set_same, get_or-set_other}
use Rattle.bottle_values.specs.ListLaws.{get_left, at_seam}
use Rattle.office_map.specs.PlanValue.{PlanValue}
use Rattle.office_journal.specs.declared.event.Event.{Event}
use Rattle.office_journal.specs.declared.event.Entry.{Entry}
use Rattle.office_journal.specs.declared.reply.Reply.{Reply}
use Rattle.office_journal.specs.declared.reply.Reply.TheVariants as reply
use Rattle.office_journal.specs.Replies.{frame_told}
use Rattle.site_core.specs.Journals.{Site, noted}
use Rattle.frame_world.specs.declared.sent.SentAt.{SentAt}
use Rattle.frame_world.specs.Worlds.{silent, frames_of}
use Rattle.frame_world.specs.Sent.{entry_tells, told_in, told_at, sent_by}

-- an entry more leaves what the others tell
told_longer : (es : List Entry) (x : Entry) (n : ℕ) → is_some (told_in es n) ≡ true → told_in (es ++ x ∷ []) n ≡ told_in es n
told_longer es x n h = go (slice_get es n) refl h
  where
    go : (o : Option Entry) → slice_get es n ≡ o → is_some (option_and_then entry_tells o) ≡ true → told_in (es ++ x ∷ []) n ≡ told_in es n
    go None is k = absurd cc
    go (Some y) is k = ap (option_and_then entry_tells) (get_left es (x ∷ []) n y is) ∙ sym (ap (option_and_then entry_tells) is)

-- the last entry tells its reply's
told_last : (es : List Entry) (x : Entry) → told_in (es ++ x ∷ []) (length es) ≡ frame_told x.reply
told_last es x = ap (option_and_then entry_tells) (at_seam es x [])

-- the sites after an entry of one of them
abbrev pub with_noted : PlanValue → List Site → ℕ → Event → Reply → List Site
with_noted plan sites a e r = set sites a (noted (get_or sites a (silent plan a)) 0 e r)

-- what is told is told still when an office has an entry more
pub told_still : (plan : PlanValue) (sites : List Site) (a : ℕ) (e : Event) (r : Reply) (m : SentAt) → a < length sites → is_some (told_at plan sites m) ≡ true → told_at plan (with_noted plan sites a e r) m ≡ told_at plan sites m
told_still plan sites a e r m lt h = ⊎_elim here elsewhere (cases_eq m.office a)
  where
    new : Site
    new = noted (get_or sites a (silent plan a)) 0 e r

    here : m.office ≡ a → told_at plan (with_noted plan sites a e r) m ≡ told_at plan sites m
    here same =
        ap (λ k. told_in (get_or (with_noted plan sites a e r) k (silent plan k)).entries m.entry) same
        ∙ ap (λ (s : Site). told_in s.entries m.entry) (get_or-set_same sites a new (silent plan a) lt)
        ∙ told_longer (get_or sites a (silent plan a)).entries _ m.entry (subst (λ k. is_some (told_in (get_or sites k (silent plan k)).entries m.entry) ≡ true) same h)
        ∙ ap (λ k. told_in (get_or sites k (silent plan k)).entries m.entry) (sym same)

    elsewhere : m.office ≢ a → told_at plan (with_noted plan sites a e r) m ≡ told_at plan sites m
    elsewhere ne = ap (λ (s : Site). told_in s.entries m.entry) (get_or-set_other sites a m.office new (silent plan m.office) ne)

-- and what the entry tells is told there
pub told_now : (plan : PlanValue) (sites : List Site) (a : ℕ) (e : Event) (r : Reply) → a < length sites →
    map (told_at plan (with_noted plan sites a e r)) (sent_by a (length (get_or sites a (silent plan a)).entries) r) ≡ map Some (frames_of r)
told_now plan sites a e r lt = go r at_end
  where
    s : Site
    s = get_or sites a (silent plan a)

    at_end : told_at plan (with_noted plan sites a e r) (record { office = a; entry = length s.entries }) ≡ frame_told r
    at_end =
        ap (λ (x : Site). told_in x.entries (length s.entries)) (get_or-set_same sites a (noted s 0 e r) (silent plan a) lt)
        ∙ told_last s.entries (record { tag = 0; event = e; reply = r })

    go : (q : Reply) → told_at plan (with_noted plan sites a e r) (record { office = a; entry = length s.entries }) ≡ frame_told q →
        map (told_at plan (with_noted plan sites a e r)) (sent_by a (length s.entries) q) ≡ map Some (frames_of q)
    go (reply.Frame f) is = ap (λ o. o ∷ []) is
    go (reply.Ticket t) is = refl
    go reply.Done is = refl
    go reply.Acked is = refl
    go reply.Taken is = refl
    go reply.Repeat is = refl
    go reply.Kept is = refl
    go reply.Early is = refl
