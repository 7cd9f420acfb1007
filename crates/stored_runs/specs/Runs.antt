-- What is told of an office that keeps its journal in a store, and what stands there.
use Rattle.std.specs.Prelude.{◌≡◌, ◌≢◌, ◌⊎◌, ◌≤◌, ◌-◌, ℕ, Bool, true, false, List, [], ◌++◌, codes, length, take, drop, Option, None, Some}
use Rattle.std.specs.List.{flat_map}
use Rattle.std.specs.Io.KnownBytes.{Appends}
use Rattle.std.specs.String.{string_bytes}
use Rattle.office_map.specs.PlanValue.{PlanValue}
use Rattle.session_meaning.specs.ProgramValue.{ProgramValue}
use Rattle.session_meaning.specs.declared.ending.Outcome.{Outcome}
use Rattle.office_journal.specs.declared.event.Entry.{Entry}
use Rattle.locked_office.specs.Calls.{Key, DeskPass, Looks, office_with}
use Rattle.session_reports.specs.form.Forms.{count_as, outcome_as, unfinished_as}
use Rattle.session_reports.specs.declared.form.forms.Form.{Form}
use Rattle.socket_pump.specs.Wires.{Account}
use Rattle.stored_runs.specs.declared.durable.fault.TurnFault.{TurnFault}
use Rattle.stored_runs.specs.declared.durable.fault.TurnFault.TheVariants as turn
use Rattle.stored_runs.specs.durable.Letting.{LetsOut}
use Rattle.stored_runs.specs.durable.Breaking.{BrokeAt}
use Rattle.socket_pump.specs.Turns.{Times}
use Rattle.office_stations.specs.declared.fault.RunFault.{RunFault}
use Rattle.office_stations.specs.declared.fault.RunFault.TheVariants as run
use Rattle.office_stations.specs.declared.pace.TimedTurn.{TimedTurn}
use Rattle.office_stations.specs.declared.turning.Turning.TheVariants.{Adaptive}
use Rattle.office_stations.specs.Rounds.{Standing, of_office, counted, IsLastBegun, Fills, StopsFilling, Round, Rounds}
use Rattle.office_stations.specs.Sessions.{count_of, finished_of}
use Rattle.stored_runs.specs.declared.fault.StoredFault.{StoredFault}
use Rattle.stored_runs.specs.declared.fault.StoredFault.TheVariants.{Run, StoreFailed, WriteFailed}
use Rattle.stored_runs.specs.declared.ended.Ended.{Ended}
use Rattle.stored_runs.specs.Keeping.{Keeping, HasText}

-- ---- faults

-- as what a turn's fault is told
abbrev pub fault_of : TurnFault → StoredFault
fault_of turn.WireFailed = Run run.WireFailed
fault_of turn.StoreFailed = StoreFailed
fault_of turn.JournalFull = Run run.JournalFull
fault_of turn.Memory = Run run.Memory

-- that the store failed is told just where it did; but where writing failed, that is told alone
abbrev pub IsFaultOf : Bool → Option StoredFault → Type 0
IsFaultOf failed None = failed ≡ false
IsFaultOf failed (Some (Run why)) = failed ≡ false
IsFaultOf failed (Some StoreFailed) = failed ≡ true
IsFaultOf failed (Some (WriteFailed cause)) = Unit {0}

-- writing failed
abbrev pub IsUntold : StoredFault → Type 0
IsUntold (WriteFailed cause) = Unit {0}
IsUntold (Run why) = ⊥
IsUntold StoreFailed = ⊥

-- ---- what is told

-- the sessions that have finished by the first n entries of an office's journal
abbrev pub finished_by : Key → List Entry → ℕ → List Outcome
finished_by k entries n = finished_of (office_with k (take n entries))

-- how many sessions had finished before: before N
abbrev pub before_as : Form → ℕ → List ℕ
before_as form n = count_as form (codes "before") n

-- how many sessions had finished at a start, and then the lines of these
abbrev pub told_text : Form → PlanValue → ℕ → List Outcome → List ℕ
told_text form p before outcomes = before_as form before ++ flat_map (outcome_as form p) outcomes

-- how many are left; or nothing, where a fault is why
abbrev pub IsLastLine : Form → Option StoredFault → ℕ → List ℕ → Type 0
IsLastLine form fault left last = (last ≡ unfinished_as form left) ⊎ ((last ≡ []) × (fault ≢ None))

-- Of the sessions that have finished by the entries that stand, the first are told; at the end all are, or a fault is why not. And how many of the office's are then not told as finished.
pub record IsTold (form : Form) (p : PlanValue) (me : ℕ) (programs : List ProgramValue) (before : ℕ) (standing : List Outcome) (e : Ended) (old new : Option (List ℕ)) : Type 0 where
  pub told : ℕ
  pub within : told ≤ length standing
  pub all : e.fault ≡ None → told ≡ length standing
  pub left : e.unfinished ≡ count_of programs me - told
  pub last : List ℕ
  pub ends : IsLastLine form e.fault e.unfinished last
  pub written : Appends old new (told_text form p before (take told standing) ++ last)

-- so it is, unless writing failed: then nobody knows what is told
abbrev pub Unless : Option StoredFault → Type 0 → Type 0
Unless None P = P
Unless (Some (Run why)) P = P
Unless (Some StoreFailed) P = P
Unless (Some (WriteFailed cause)) P = Unit {0}

-- ---- what stands

-- the bytes that stand, where they are known, are the text of the journal's first n entries
abbrev pub HasStanding : Option (List ℕ) → Key → List Entry → ℕ → Type 0
HasStanding None k es n = Unit {0}
HasStanding (Some bytes) k es n = HasText k.0 k.1 bytes (take n es)

-- ---- what was done

-- nothing was done but that something was to stand or to be told, or memory was wanted
abbrev pub IsOfStanding : StoredFault → Type 0
IsOfStanding (Run run.Memory) = Unit {0}
IsOfStanding (Run why) = ⊥
IsOfStanding StoreFailed = Unit {0}
IsOfStanding (WriteFailed cause) = Unit {0}

-- no turn was begun, since the wait before it failed; or it broke off
abbrev pub Broke : Key → DeskPass → Times → StoredFault → DeskPass → Times → Type 0
Broke k p last fault q then = ((q ≡ p) × (fault ≡ Run run.WireFailed)) ⊎ ((now : ℕ) × (f : TurnFault) × BrokeAt 0 k last now p f q then × (fault ≡ fault_of f))

-- What a fault cut short, of a round that was to take these sessions: nothing yet; the office lacked room for one of them; they were taken, and then the turn broke off; or the turn was made, and then its entries were to stand, or what finished by it was to be told.
pub data CutShort (tells : Bool) (k : Key) (a b : Standing) (sessions : List ProgramValue) (fault : StoredFault) : Type 0 where
  BeforeAll : (same : b.pass ≡ a.pass) (why : IsOfStanding fault) → CutShort tells k a b sessions fault
  AtSessions : (why : RunFault) (stops : StopsFilling 0 k a.pass b.pass sessions why) (told : fault ≡ Run why) → CutShort tells k a b sessions fault
  AtTurn : (filled : DeskPass) (left : List ProgramValue) (fills : Fills 0 k a.pass filled sessions left) (broke : Broke k filled a.last fault b.pass b.last) → CutShort tells k a b sessions fault
  AfterTurn : (t : TimedTurn) (m : Standing) (left : List ProgramValue) (round : Round Adaptive tells 0 k t a m sessions left) (looked : Looks k m.pass b.pass) (why : IsOfStanding fault) → CutShort tells k a b sessions fault

-- the fault that cut it short is told, or that writing failed at the end
abbrev pub IsToldAs : StoredFault → StoredFault → Type 0
IsToldAs first fault = (fault ≡ first) ⊎ ((cause : StoredFault) × (fault ≡ cause) × IsUntold cause)

-- one of the sockets of which each tells so tells this
abbrev pub IsToldBy : {S : Type 0} → (S → Account) → Account → Type 0
IsToldBy {S = S} account a = (s : S) × (account s ≡ a)

-- rounds until so many count; where there is a fault, fewer, and then what it cut short; and what the socket tells after them is as Is says
abbrev pub Goes : (Account → Type 0) → Option StoredFault → Bool → Key → ℕ → Standing → Standing → List ProgramValue → Type 0
Goes Is None tells k turns a b sessions = (made : List TimedTurn) × (counted turns made ≡ turns) × IsLastBegun turns made × (left : List ProgramValue) × Rounds Adaptive tells 0 k made a b sessions left × Is b.wire
Goes Is (Some fault) tells k turns a b sessions = (made : List TimedTurn) × (at : Standing) × IsLastBegun turns made × (left : List ProgramValue) × Rounds Adaptive tells 0 k made a at sessions left × Is at.wire × (first : StoredFault) × CutShort tells k at b left first × IsToldAs first fault

-- nothing is said for people where all sessions are told as finished and no fault ended the run
abbrev pub IsQuiet : Ended → Type 0
IsQuiet e = e.unfinished ≡ 0 → e.fault ≡ None → string_bytes e.remarks ≡ []

-- An office went on from its store, with these bytes standing there at the end, and its socket first and last so. It began with the journal that was kept, and did rounds with the sessions that were left. Its journal at the end is legal; so many of its first entries stand in the store; each datagram that left is of one of those; and what is told are sessions that have finished by them.
pub record GoesOn (Is : Account → Type 0) (form : Form) (tells : Bool) (p : PlanValue) (me : ℕ) (programs : List ProgramValue) (turns : ℕ) (kept : Keeping) (stands : Option (List ℕ)) (a b : Account) (e : Ended) (old new : Option (List ℕ)) : Type 0 where
  pub first : Standing
  pub begins : (first.pass.tag ≡ 0) × (first.pass.seen ≡ kept.site.entries) × (first.wire ≡ a) × ((v n : ℕ) → first.last v n ≡ None)
  pub last : Standing
  pub ends : last.wire ≡ b
  pub goes : Goes Is e.fault tells (p, me) turns first last (of_office me (drop kept.next programs))
  pub seen : DeskPass
  pub looked : Looks (p, me) last.pass seen
  pub stood : ℕ
  pub within : stood ≤ length seen.seen
  pub all : e.fault ≡ None → stood ≡ length last.pass.seen
  pub has : HasStanding stands (p, me) seen.seen stood
  pub lets_out : LetsOut tells 0 a b seen.seen stood
  pub told : Unless e.fault (IsTold form p me programs (length (finished_of kept.site)) (finished_by (p, me) seen.seen stood) e old new)
