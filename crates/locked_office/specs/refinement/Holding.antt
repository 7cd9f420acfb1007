-- A pass that holds the office of its desk.
use Rattle.std.specs.Prelude.{◌≡◌, true, List, ◌++◌}
use Rattle.own_lock.specs.Passes.{LockView, IsOf, pass_after_take}
use Rattle.office_journal.specs.declared.event.Entry.{Entry}
use Rattle.site_core.specs.Journals.{Site}
use Rattle.locked_office.specs.Calls.{Key, DeskPass, pass_after_adding}

-- it is a pass of the desk, holds its office, and has seen its journal
pub record Holds (desk : LockView Key) (p : DeskPass) (s : Site) : Type 0 where
  pub of : IsOf desk p
  pub holds : p.holds ≡ true
  pub key : (s.plan, s.me) ≡ desk.key
  pub seen : s.entries ≡ p.seen

-- entries of others may have come, and then the pass took the office
abbrev pub Came : DeskPass → DeskPass → Type 0
Came p q = (between : List Entry) × (q ≡ pass_after_take p (p.seen ++ between))

-- the pass gave the office back: whatever it added is what the journal has more than before
abbrev pub GivesBack : DeskPass → DeskPass → Site → Type 0
GivesBack p q s = (added : List Entry) → p.seen ++ added ≡ s.entries → q ≡ pass_after_adding p added
