-- Beginnings of legal journals, and the entry after one.
use Rattle.std.proofs.Common.{◌≡◌, ℕ, ◌+◌, ◌<◌, Bool, true, false, cond, List, [], ◌∷◌, ◌++◌, length, take, Some, Ok, Err, sym, ap, subst, ◌∙◌, arith, ⊎_elim, length-append}
use Rattle.std.specs.Prelude.{Result, nat_le, slice_get}
use Rattle.std.proofs.lemmas.Bool.Decides.{nat_tests}
use Rattle.std.proofs.lemmas.List.{append-nil, take-append-drop}
use Rattle.std.proofs.lemmas.Option.{slice_get_within}
use Rattle.bottle_values.specs.ListLaws.{first_more}
use Rattle.office_map.specs.PlanValue.{PlanValue}
use Rattle.site_core.specs.Limits.{most_entries}
use Rattle.office_journal.specs.declared.event.Event.{Event}
use Rattle.office_journal.specs.declared.event.Entry.{Entry}
use Rattle.office_journal.specs.declared.reply.Reply.{Reply}
use Rattle.office_journal.specs.declared.reply.Refusal.{Refusal}
use Rattle.office_journal.specs.declared.reply.Refusal.TheVariants as refusal
use Rattle.site_core.specs.Offices.{Office, Answer, answer, opened}
use Rattle.site_core.specs.Journals.{Site, office_of, run_of, after, noted, recorded, Steps, AreAccepted, IsLegal}
use Rattle.site_core.specs.ReopeningLaws.{legal_first}
use Rattle.site_core.specs.Reopening.{site_with, IsCutAt}
use Rattle.site_core.specs.refinement.Giving.{Gives}

-- the answer to the last
abbrev Last : PlanValue → ℕ → Office → Entry → Type 0
Last plan me o x = (answer plan me o x.event ≡ Ok (x.reply, after plan me o x.event)) × (x.tag < 16)

accepted_last : (plan : PlanValue) (me : ℕ) (o : Office) (xs : List Entry) (x : Entry) → AreAccepted plan me o (xs ++ x ∷ []) → Last plan me (run_of plan me o xs) x
accepted_last plan me o [] x (a, lt, h) = (a, lt)
accepted_last plan me o (y ∷ ys) x (a, lt, h) = accepted_last plan me (after plan me o y.event) ys x h

last_of : (s : Site) (x : Entry) → AreAccepted s.plan s.me (opened s.plan s.me) (s.entries ++ x ∷ []) → Last s.plan s.me (office_of s) x
unfolding office_of
last_of s x h = accepted_last s.plan s.me (opened s.plan s.me) s.entries x h

abbrev Stepped : Type 0
Stepped = Result Reply Refusal × Site

-- where the journal with one entry more is legal, the office gives that entry
pub legal_gives : (s : Site) (x : Entry) → IsLegal (noted s x.tag x.event x.reply) → Gives s x
legal_gives s x h =
    let last = last_of s x h.accepted in
    let room : nat_le most_entries (length s.entries) ≡ false = grind (arith, nat_tests, h.few, length-append s.entries (x ∷ [])) in
    record {
      tag = last.1;
      step = ap (recorded s x.tag x.event) last.0 ∙ ap (λ b. cond {A = Stepped} b (Err refusal.JournalFull, s) (Ok x.reply, noted s x.tag x.event x.reply)) room;
    }

pub site_more : (plan : PlanValue) (me : ℕ) (xs : List Entry) (i : ℕ) (x : Entry) → slice_get xs i ≡ Some x → noted (site_with plan me (take i xs)) x.tag x.event x.reply ≡ site_with plan me (take (i + 1) xs)
site_more plan me xs i x at = ap (site_with plan me) (sym (first_more xs i x at))

-- the office that has the first of these entries doesn't give the next: so they are no journal
pub cut_at : (plan : PlanValue) (me : ℕ) (xs : List Entry) (i n : ℕ) (x : Entry) → n ≡ i → slice_get xs i ≡ Some x → IsLegal (site_with plan me (take i xs)) → (Gives (site_with plan me (take i xs)) x → ⊥) → IsCutAt plan me xs n
cut_at plan me xs i n x is at legal never = subst (IsCutAt plan me xs) (sym is) (record {
  within = slice_get_within xs i x at;
  before = legal;
  next = next;
  whole = λ h. next (legal_first plan me (take (i + 1) xs) _ (subst (λ l. IsLegal (site_with plan me l)) (sym (take-append-drop (i + 1) xs)) h));
})
  where
    next : IsLegal (site_with plan me (take (i + 1) xs)) → ⊥
    next h = never (legal_gives (site_with plan me (take i xs)) x (subst IsLegal (sym (site_more plan me xs i x at)) h))

-- ---- one entry, whatever becomes of it

-- what a step leaves: the journal goes on, or is as it was
pub kept_step : (tag : ℕ) (s s' : Site) (e : Event) (result : Result Reply Refusal) → Steps s tag e result s' → (more : List Entry) × (s' ≡ record { plan = s.plan; me = s.me; entries = s.entries ++ more })
kept_step tag s s' e result steps = ⊎_elim (λ h. as_it_was h.1) (λ h. by_answer (answer s.plan s.me (office_of s) e) h.1) steps
  where
    as_it_was : s' ≡ s → (more : List Entry) × (s' ≡ record { plan = s.plan; me = s.me; entries = s.entries ++ more })
    as_it_was h = ([], h ∙ ap (λ l. record { plan = s.plan; me = s.me; entries = l }) (sym (append-nil s.entries)))

    by_room : (x : Reply × Office) (full : Bool) → s' ≡ (cond {A = Result Reply Refusal × Site} full (Err refusal.JournalFull, s) (Ok x.0, noted s tag e x.0)).1 → (more : List Entry) × (s' ≡ record { plan = s.plan; me = s.me; entries = s.entries ++ more })
    by_room x true h = as_it_was h
    by_room x false h = (record { tag = tag; event = e; reply = x.0 } ∷ [], h)

    by_answer : (x : Answer) → s' ≡ (recorded s tag e x).1 → (more : List Entry) × (s' ≡ record { plan = s.plan; me = s.me; entries = s.entries ++ more })
    by_answer (Ok x) h = by_room x (nat_le most_entries (length s.entries)) h
    by_answer (Err r) h = as_it_was h
