-- What a step leaves of one of several offices.
use Rattle.std.proofs.Common.{◌≡◌, Bool, true, false, cond, length, Ok, Err, inl, inr, refl, sym, ap, ◌∙◌, arith}
use Rattle.std.specs.Prelude.{Result, IsOk, nat_le}
use Rattle.site_core.specs.Limits.{most_entries}
use Rattle.office_journal.specs.declared.event.Event.{Event}
use Rattle.office_journal.specs.declared.reply.Reply.{Reply}
use Rattle.office_journal.specs.declared.reply.Refusal.{Refusal}
use Rattle.office_journal.specs.declared.reply.Refusal.TheVariants as refusal
use Rattle.site_core.specs.Offices.{Office, Answer, answer}
use Rattle.site_core.specs.JournalLaws.{legal_noted}
use Rattle.site_core.specs.Journals.{Site, next_or, office_of, noted, step, recorded, Steps, IsLegal}

-- a refused step leaves the site, and so does one for which memory ran out, which would be accepted; an accepted one is noted
pub data Stepped (s : Site) (e : Event) (result : Result Reply Refusal) (s' : Site) : Type 0 where
  Refused : (r : Refusal) (told : result ≡ Err r) (kept : s' ≡ s) (is : step s 0 e ≡ (Err r, s)) → Stepped s e result s'
  OutOfMemory : (told : result ≡ Err refusal.Memory) (kept : s' ≡ s) (accepted : IsOk (step s 0 e).0) → Stepped s e result s'
  Accepted : (r : Reply) (o : Office) (accepts : answer s.plan s.me (office_of s) e ≡ Ok (r, o)) (told : result ≡ Ok r) (grown : s' ≡ noted s 0 e r) (is : step s 0 e ≡ (Ok r, noted s 0 e r)) → Stepped s e result s'

pub stepped : (s : Site) (e : Event) (result : Result Reply Refusal) (s' : Site) → Steps s 0 e result s' → Stepped s e result s'
stepped s e result s' (inl (told, kept, ok)) = OutOfMemory told kept ok
stepped s e result s' (inr (told, kept)) = go (answer s.plan s.me (office_of s) e) refl
  where
    answered : (x : Reply × Office) (b : Bool) → answer s.plan s.me (office_of s) e ≡ Ok x → step s 0 e ≡ cond b (Err refusal.JournalFull, s) (Ok x.0, noted s 0 e x.0) → Stepped s e result s'
    answered x true h is = Refused refusal.JournalFull (told ∙ ap (λ y. y.0) is) (kept ∙ ap (λ y. y.1) is) is
    answered x false h is = Accepted x.0 x.1 h (told ∙ ap (λ y. y.0) is) (kept ∙ ap (λ y. y.1) is) is

    go : (x : Answer) → answer s.plan s.me (office_of s) e ≡ x → Stepped s e result s'
    go (Ok x) h = answered x (nat_le most_entries (length s.entries)) h (ap (recorded s 0 e) h)
    go (Err r) h = let is : step s 0 e ≡ (Err r, s) = ap (recorded s 0 e) h in Refused r (told ∙ ap (λ y. y.0) is) (kept ∙ ap (λ y. y.1) is) is

-- ---- a legal journal goes on

pub still_legal : (s : Site) (e : Event) (r : Reply) (o : Office) → IsLegal s → answer s.plan s.me (office_of s) e ≡ Ok (r, o) → nat_le most_entries (length s.entries) ≡ false → IsLegal (noted s 0 e r)
still_legal s e r o h ok room = legal_noted s 0 e r h (ok ∙ ap (λ x. Ok (r, x)) (sym (ap (next_or (office_of s)) ok))) (omega arith) room
