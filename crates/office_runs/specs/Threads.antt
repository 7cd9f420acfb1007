-- What the threads of an office do: one turns it, and one submits its sessions.
use Rattle.std.specs.Prelude.{◌≡◌, ◌<◌, ◌≤◌, ℕ, zero, suc, Bool, false, List, [], ◌++◌, map, All, Option, None, Some}
use Rattle.session_meaning.specs.ProgramValue.{ProgramValue}
use Rattle.office_journal.specs.declared.event.Event.TheVariants.{Submit}
use Rattle.office_journal.specs.declared.event.Entry.{Entry}
use Rattle.site_core.specs.Journals.{Site}
use Rattle.own_lock.specs.Entries.{tagged}
use Rattle.locked_office.specs.Calls.{Key, DeskPass, tag_of}
use Rattle.office_stations.specs.declared.fault.RunFault.{RunFault}
use Rattle.office_stations.specs.declared.pace.TimedTurn.{TimedTurn}
use Rattle.office_stations.specs.declared.turning.Turning.TheVariants.{Adaptive}
use Rattle.office_stations.specs.Rounds.{Standing, Fills, StopsFilling, BreaksOff, counted, IsLastBegun, Rounds}

-- the most turns of an office on threads
abbrev pub most_turns : ℕ
most_turns = 100000

-- a pass with this tag, of an office that has done nothing
abbrev pub IsNew : ℕ → DeskPass → Type 0
IsNew tag p = (p.tag ≡ tag) × (p.seen ≡ []) × (p.mine ≡ [])

-- ---- how each ended

-- who turned it, with the tag 0: after turns, one after the other, the last begun while fewer than so many counted; and, where there is a fault, in one that broke off
abbrev pub Worked : Option RunFault → Bool → Key → ℕ → Standing → Standing → Type 0
Worked None tells k turns a b = (made : List TimedTurn) × IsLastBegun turns made × Rounds Adaptive tells 0 k made a b [] []
Worked (Some fault) tells k turns a b = (made : List TimedTurn) × (at : Standing) × (counted turns made < turns) × Rounds Adaptive tells 0 k made a at [] [] × BreaksOff Adaptive tells 0 k at b fault

-- so it was; and where no fault ended it, it made all its turns, unless the run was over before
abbrev pub WorkedOut : Bool → Option RunFault → Bool → Key → ℕ → Standing → Standing → Type 0
WorkedOut over None tells k turns a b = (worked : Worked None tells k turns a b) × (over ≡ false → turns ≤ counted turns worked.0)
WorkedOut over (Some fault) tells k turns a b = Worked (Some fault) tells k turns a b

-- sessions are submitted as the office takes them, so many times
abbrev pub FillsTimes : ℕ → Key → DeskPass → DeskPass → List ProgramValue → List ProgramValue → Type 0
FillsTimes zero k p q sessions left = (p ≡ q) × (sessions ≡ left)
FillsTimes (suc n) k p q sessions left = (m : DeskPass) × (mid : List ProgramValue) × Fills 1 k p m sessions mid × FillsTimes n k m q mid left

-- who submitted its sessions, with the tag 1: after some times; and, where there is a fault, at one that the office lacked room for
abbrev pub Submitted : Option RunFault → Key → DeskPass → DeskPass → List ProgramValue → Type 0
Submitted None k p q sessions = (n : ℕ) × (left : List ProgramValue) × FillsTimes n k p q sessions left
Submitted (Some fault) k p q sessions = (n : ℕ) × (m : DeskPass) × (mid : List ProgramValue) × FillsTimes n k p m sessions mid × StopsFilling 1 k m q mid fault

-- ---- what they wrote

-- no session was submitted by it
abbrev pub IsNoSubmit : Entry → Type 0
IsNoSubmit e = (s : ProgramValue) → e.event ≡ Submit s → ⊥

-- Who turned the office submitted nothing. Who submitted its sessions did so with a beginning of them, in order, and did nothing else. Nobody else did anything.
pub record IsWrittenBy (sessions : List ProgramValue) (s : Site) : Type 0 where
  pub tags : All (λ (e : Entry). e.tag < 2) s.entries
  pub turns : All IsNoSubmit (tagged tag_of 0 s.entries)
  pub given : List ProgramValue
  pub left : List ProgramValue
  pub are : given ++ left ≡ sessions
  pub submits : map (λ (e : Entry). e.event) (tagged tag_of 1 s.entries) ≡ map Submit given
