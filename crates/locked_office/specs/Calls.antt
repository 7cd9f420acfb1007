-- What a call at a desk leaves of the pass that makes it.
use Rattle.std.specs.Prelude.{◌≡◌, ℕ, false, List, ◌++◌}
use Rattle.office_map.specs.PlanValue.{PlanValue}
use Rattle.own_lock.specs.Passes.{PassView, LockView, IsOf, pass_after_take}
use Rattle.office_journal.specs.declared.event.Entry.{Entry}
use Rattle.site_core.specs.Journals.{Site, IsLegal}

-- whose desk it is: the plan and the number of its office
abbrev pub Key : Type 0
Key = PlanValue × ℕ

-- a pass of a desk
abbrev pub DeskPass : Type 0
DeskPass = PassView Key Entry

-- the tag of an entry
abbrev pub tag_of : Entry → ℕ
tag_of e = e.tag

-- the office of a desk, with this journal
abbrev pub office_with : Key → List Entry → Site
office_with k es = record { plan = k.0; me = k.1; entries = es }

-- the pass is one of the desk, with its tag, and holds nothing
abbrev pub Stays : LockView Key → DeskPass → DeskPass → Type 0
Stays desk p q = IsOf desk q × (q.tag ≡ p.tag) × (q.holds ≡ false)

-- the pass, when it has added these entries and given the office back
abbrev pub pass_after_adding : DeskPass → List Entry → DeskPass
pass_after_adding p added = record p { holds = false; seen = p.seen ++ added; mine = p.mine ++ added }

-- A pass that held the office and had seen its journal did this to it. What it has seen now is a legal journal, which is that one and the entries that it added: they are its own.
pub record Did (what : Site → Site → Type 0) (k : Key) (p q : DeskPass) : Type 0 where
  pub done : what (office_with k p.seen) (office_with k q.seen)
  pub legal : IsLegal (office_with k q.seen)
  pub added : List Entry
  pub left : q ≡ pass_after_adding p added

-- Entries of others may have come since the pass last saw the journal. Then it held the office, having seen them too, and did this in one holding.
abbrev pub Does : (Site → Site → Type 0) → Key → DeskPass → DeskPass → Type 0
Does what k p q = (between : List Entry) × Did what k (pass_after_take p (p.seen ++ between)) q

-- it looked, and changed nothing
abbrev pub Looks : Key → DeskPass → DeskPass → Type 0
Looks = Does (λ s s'. s' ≡ s)
