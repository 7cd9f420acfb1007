-- What follows of the ends of journals.
use Rattle.std.proofs.Common.{◌≡◌, ℕ, ◌≤◌, ◌<◌, false, List, [], ◌∷◌, ◌++◌, length, Ok, refl, sym, ap, ◌∙◌, arith, length-append, append_assoc, append-nil}
use Rattle.std.specs.Prelude.{nat_le}
use Rattle.std.proofs.lemmas.Bool.{leb-false}
use Rattle.office_map.specs.PlanValue.{PlanValue}
use Rattle.site_core.specs.Limits.{most_entries}
use Rattle.office_journal.specs.declared.event.Event.{Event}
use Rattle.office_journal.specs.declared.event.Entry.{Entry}
use Rattle.office_journal.specs.declared.reply.Reply.{Reply}
use Rattle.site_core.specs.Offices.{Office, answer, opened}
use Rattle.site_core.specs.Journals.{Site, after, run_of, office_of, noted, AreAccepted, IsLegal}
use Rattle.site_core.specs.Submitted.{submitted_by, submitted_in}

run_append : (plan : PlanValue) (me : ℕ) (o : Office) (xs : List Entry) (x : Entry) → run_of plan me o (xs ++ x ∷ []) ≡ after plan me (run_of plan me o xs) x.event
run_append plan me o [] x = refl
run_append plan me o (y ∷ ys) x = run_append plan me (after plan me o y.event) ys x

pub office_noted : (s : Site) (tag : ℕ) (e : Event) (r : Reply) → office_of (noted s tag e r) ≡ after s.plan s.me (office_of s) e
unfolding office_of
office_noted s tag e r = run_append s.plan s.me (opened s.plan s.me) s.entries _

accepted_append : (plan : PlanValue) (me : ℕ) (o : Office) (xs : List Entry) (x : Entry) → AreAccepted plan me o xs → answer plan me (run_of plan me o xs) x.event ≡ Ok (x.reply, after plan me (run_of plan me o xs) x.event) → x.tag < 16 →
    AreAccepted plan me o (xs ++ x ∷ [])
accepted_append plan me o [] x h e lt = (e, lt, tt)
accepted_append plan me o (y ∷ ys) x (fits, tag, rest) e lt = (fits, tag, accepted_append plan me (after plan me o y.event) ys x rest e lt)

accepted_noted : (s : Site) (tag : ℕ) (e : Event) (r : Reply) → AreAccepted s.plan s.me (opened s.plan s.me) s.entries → answer s.plan s.me (office_of s) e ≡ Ok (r, after s.plan s.me (office_of s) e) → tag < 16 →
    AreAccepted s.plan s.me (opened s.plan s.me) (s.entries ++ record { tag = tag; event = e; reply = r } ∷ [])
unfolding office_of
accepted_noted s tag e r h a lt = accepted_append s.plan s.me (opened s.plan s.me) s.entries _ h a lt

one_more : (xs : List Entry) (x : Entry) → nat_le most_entries (length xs) ≡ false → length (xs ++ x ∷ []) ≤ most_entries
one_more xs x room = let lt : length xs < most_entries = leb-false most_entries (length xs) room in omega (arith, length-append xs (x ∷ []), lt)

-- where there is room for an entry, the journal with an accepted one is legal
pub legal_noted : (s : Site) (tag : ℕ) (e : Event) (r : Reply) → IsLegal s → answer s.plan s.me (office_of s) e ≡ Ok (r, after s.plan s.me (office_of s) e) → tag < 16 → nat_le most_entries (length s.entries) ≡ false → IsLegal (noted s tag e r)
legal_noted s tag e r h a lt room = record { accepted = accepted_noted s tag e r h.accepted a lt; few = one_more s.entries _ room }

pub legal_empty : (plan : PlanValue) (me : ℕ) → IsLegal (record { plan = plan; me = me; entries = [] })
legal_empty plan me = record { accepted = tt; few = omega arith }

pub office_empty : (plan : PlanValue) (me : ℕ) → office_of (record { plan = plan; me = me; entries = [] }) ≡ opened plan me
unfolding office_of
office_empty plan me = refl

-- an entry more submits its own session last
pub submitted_more : (xs : List Entry) (x : Entry) → submitted_in (xs ++ x ∷ []) ≡ submitted_in xs ++ submitted_by x.event x.reply
submitted_more [] x = append-nil (submitted_by x.event x.reply)
submitted_more (y ∷ ys) x = ap (λ l. submitted_by y.event y.reply ++ l) (submitted_more ys x) ∙ sym (append_assoc (submitted_by y.event y.reply) (submitted_in ys) (submitted_by x.event x.reply))
