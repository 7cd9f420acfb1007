-- What a pass knows after calls at its desk begins with what it knew before.
use Rattle.std.proofs.Common.{◌≡◌, ℕ, suc, List, [], ◌∷◌, ◌++◌, length, refl, ap, ◌∙◌, append_assoc}
use Rattle.office_journal.specs.declared.event.Entry.{Entry}
use Rattle.site_core.specs.Journals.{Site}
use Rattle.locked_office.specs.Calls.{Key, DeskPass, Does}
use Rattle.socket_pump.specs.Chains.{Made, Sees, MakesFrame, Sends}
use Rattle.socket_pump.specs.Handling.{Handled, heard_of}

abbrev pub Begins : DeskPass → DeskPass → Type 0
Begins p q = (more : List Entry) × (q.seen ≡ p.seen ++ more)

pub begins_both : (p m q : DeskPass) → Begins p m → Begins m q → Begins p q
begins_both p m q x y = (x.0 ++ y.0, y.1 ∙ (ap (λ l. l ++ y.0) x.1 ∙ append_assoc p.seen x.0 y.0))

pub does_begins : (what : Site → Site → Type 0) (k : Key) (p q : DeskPass) → Does what k p q → Begins p q
does_begins what k p q (between, did) = (between ++ did.added, ap (λ (x : DeskPass). x.seen) did.left ∙ append_assoc p.seen between did.added)

pub sees_begins : (p q : DeskPass) → Sees p q → Begins p q
sees_begins p q s = (s.0, ap (λ (x : DeskPass). x.seen) s.1)

pub sends_begins : (tag : ℕ) (k : Key) (p q : DeskPass) (ms : List Made) → Sends tag k p ms q → Begins p q
sends_begins tag k p q [] s = sees_begins p q s
sends_begins tag k p q (m ∷ ms) s = begins_both p s.0 q (does_begins (MakesFrame tag m) k p s.0 s.1) (sends_begins tag k s.0 q ms s.2)

-- as many were heard as handled
pub heard_length : (hs : List Handled) → length (heard_of hs) ≡ length hs
heard_length [] = refl
heard_length (h ∷ hs) = ap suc (heard_length hs)
