-- How who worked for an office ended.
use Rattle.std.specs.Prelude.{◌≡◌, ℕ, Bool, List, Option, None}
use Rattle.session_meaning.specs.ProgramValue.{ProgramValue}
use Rattle.own_lock.specs.Passes.{LockView}
use Rattle.locked_office.specs.Calls.{Key, DeskPass}
use Rattle.office_stations.specs.declared.fault.RunFault.{RunFault}
use Rattle.office_stations.specs.Rounds.{Standing, of_office}
use Rattle.office_runs.specs.refinement.Opening.{IsFor}
use Rattle.office_runs.specs.Threads.{WorkedOut, Submitted, IsNew, most_turns}

-- who turned the office of this desk ended so, and this is the pass
pub record HasWorked (tells : Bool) (desk : LockView Key) (over : Bool) (fault : Option RunFault) (q : DeskPass) : Type 0 where
  pub idle : IsFor desk 0 q
  pub first : Standing
  pub new : IsNew 0 first.pass × ((v n : ℕ) → first.last v n ≡ None)
  pub last : Standing
  pub is : last.pass ≡ q
  pub worked : WorkedOut over fault tells desk.key most_turns first last

-- who submitted its sessions ended so, and this is the pass
pub record HasSubmitted (desk : LockView Key) (programs : List ProgramValue) (fault : Option RunFault) (q : DeskPass) : Type 0 where
  pub idle : IsFor desk 1 q
  pub began : DeskPass
  pub new : IsNew 1 began
  pub submitted : Submitted fault desk.key began q (of_office desk.key.1 programs)
