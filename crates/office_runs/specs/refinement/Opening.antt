-- Whose desks were opened.
use Rattle.std.specs.Prelude.{◌≡◌, ℕ, false}
use Rattle.std.specs.Arc.{arc_value}
use Rattle.own_lock.specs.Passes.{LockView, IsOf}
use Rattle.locked_office.specs.Calls.{Key, DeskPass}
use Rattle.office_runs.specs.declared.opened.Opened.{Opened}

-- the plan and the number of the office at a desk
abbrev pub opened_key : Opened → Key
opened_key o = (arc_value o.desk).key

-- the pass is one of the desk, with this tag, and holds nothing
abbrev pub IsFor : LockView Key → ℕ → DeskPass → Type 0
IsFor desk tag pass = IsOf desk pass × (pass.tag ≡ tag) × (pass.holds ≡ false)
