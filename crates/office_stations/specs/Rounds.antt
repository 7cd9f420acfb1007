-- The rounds of an office that runs: sessions are submitted as it takes them, and then its pump turns.
use Rattle.std.specs.Prelude.{◌≡◌, ◌⊎◌, ◌<◌, ◌*◌, ℕ, ◌==◌, ◌&&◌, nat_lt, not, Bool, List, [], ◌∷◌, ◌++◌, Option, None, Some, Ok, Err}
use Rattle.std.specs.List.{filter, count_by}
use Rattle.session_meaning.specs.ProgramValue.{ProgramValue}
use Rattle.office_journal.specs.declared.event.Event.TheVariants.{Submit}
use Rattle.office_journal.specs.declared.reply.Reply.{Reply}
use Rattle.office_journal.specs.declared.reply.Refusal.{Refusal}
use Rattle.office_journal.specs.declared.reply.Refusal.TheVariants as refusal
use Rattle.site_core.specs.Journals.{Steps}
use Rattle.locked_office.specs.Calls.{Key, DeskPass, Does, Looks}
use Rattle.socket_pump.specs.declared.pump.Turn.{Turn}
use Rattle.socket_pump.specs.declared.pump.PumpFault.{PumpFault}
use Rattle.socket_pump.specs.declared.pump.PumpFault.TheVariants as pump
use Rattle.socket_pump.specs.Wires.{Account}
use Rattle.socket_pump.specs.Turns.{Times, Turned, Stage}
use Rattle.socket_pump.specs.AdaptiveTurns.{AdaptiveTurned, AdaptiveStage}
use Rattle.socket_pump.specs.sockets.Waits.{failed}
use Rattle.office_stations.specs.declared.fault.RunFault.{RunFault}
use Rattle.office_stations.specs.declared.fault.RunFault.TheVariants.{Memory, WireFailed, JournalFull}
use Rattle.office_stations.specs.declared.pace.TimedTurn.{TimedTurn}
use Rattle.office_stations.specs.declared.turning.Turning.{Turning}
use Rattle.office_stations.specs.declared.turning.Turning.TheVariants.{Plain, Adaptive}

-- where an office stands: the pass of who works for it, what its socket tells, and when its pump last sent what
pub record Standing : Type 0 where
  pub pass : DeskPass
  pub wire : Account
  pub last : Times

-- the same, but for the pass
abbrev pub with_pass : Standing → DeskPass → Standing
with_pass a q = record a { pass = q }

-- those of the sessions of a list that are an office's
abbrev pub of_office : ℕ → List ProgramValue → List ProgramValue
of_office me = filter (λ (p : ProgramValue). p.office == me)

-- ---- faults

-- as what a refused session is told; a full queue is no fault
abbrev pub fault_of : Refusal → Option RunFault
fault_of refusal.QueueFull = None
fault_of refusal.JournalFull = Some JournalFull
fault_of why = Some Memory

-- as what a pump's fault is told
abbrev pub run_fault : PumpFault → RunFault
run_fault pump.WireFailed = WireFailed
run_fault pump.JournalFull = JournalFull
run_fault pump.Memory = Memory

-- ---- sessions

-- the office takes this session
abbrev pub Takes : ℕ → Key → ProgramValue → DeskPass → DeskPass → Type 0
Takes tag k s = Does (λ x y. (reply : Reply) × Steps x tag (Submit s) (Ok reply) y) k

-- it refuses it, and why
abbrev pub Refuses : ℕ → Key → ProgramValue → Refusal → DeskPass → DeskPass → Type 0
Refuses tag k s why = Does (λ x y. Steps x tag (Submit s) (Err why) y) k

-- it takes these, one after the other
abbrev pub TakesAll : ℕ → Key → List ProgramValue → DeskPass → DeskPass → Type 0
TakesAll tag k [] p q = p ≡ q
TakesAll tag k (s ∷ ss) p q = (m : DeskPass) × Takes tag k s p m × TakesAll tag k ss m q

-- none is left, or the queue is full for the next
abbrev pub TakesNoMore : ℕ → Key → List ProgramValue → DeskPass → DeskPass → Type 0
TakesNoMore tag k [] p q = p ≡ q
TakesNoMore tag k (s ∷ ss) p q = Refuses tag k s refusal.QueueFull p q

-- The office takes the first of these sessions, in order, until none is left or its queue is full.
pub record Fills (tag : ℕ) (k : Key) (p q : DeskPass) (sessions left : List ProgramValue) : Type 0 where
  pub given : List ProgramValue
  pub are : given ++ left ≡ sessions
  pub mid : DeskPass
  pub takes : TakesAll tag k given p mid
  pub full : TakesNoMore tag k left mid q

-- it lacks room for this session, which is told as this fault
abbrev pub Lacks : ℕ → Key → ProgramValue → RunFault → DeskPass → DeskPass → Type 0
Lacks tag k s fault p q = (why : Refusal) × Refuses tag k s why p q × (fault_of why ≡ Some fault)

-- It takes the first of these sessions, in order, and lacks room for the next.
pub record StopsFilling (tag : ℕ) (k : Key) (p q : DeskPass) (sessions : List ProgramValue) (fault : RunFault) : Type 0 where
  pub given : List ProgramValue
  pub next : ProgramValue
  pub left : List ProgramValue
  pub are : given ++ next ∷ left ≡ sessions
  pub mid : DeskPass
  pub takes : TakesAll tag k given p mid
  pub lacks : Lacks tag k next fault mid q

-- ---- turns

-- a turn by that call of the pump
abbrev pub TurnedBy : Turning → Bool → ℕ → Key → Times → ℕ → DeskPass → Account → Turn → Account → DeskPass → Times → Type 0
TurnedBy Plain tells tag k last now p a t b q later = Turned tells tag k last now p a t b q later
TurnedBy Adaptive tells tag k last now p a t b q later = AdaptiveTurned tells tag k last now p a t b q later

-- where a turn by that call broke off
abbrev pub StageBy : Turning → Bool → ℕ → Key → Times → ℕ → DeskPass → Account → PumpFault → Account → DeskPass → Times → Type 0
StageBy Plain tells tag k last now p a f b q later = Stage tells tag k last now p a f b q later
StageBy Adaptive tells tag k last now p a f b q later = AdaptiveStage tells tag k last now p a f b q later

-- a turn at its time, as a pump does it, after which the office may be looked at
pub record Turns (how : Turning) (tells : Bool) (tag : ℕ) (k : Key) (t : TimedTurn) (a b : Standing) : Type 0 where
  pub after : DeskPass
  pub turned : TurnedBy how tells tag k a.last t.at a.pass a.wire t.turn b.wire after b.last
  pub looked : (after ≡ b.pass) ⊎ Looks k after b.pass

-- the wait before the turn failed and was counted so, or the turn broke off; and that is this fault
abbrev pub BreaksOff : Turning → Bool → ℕ → Key → Standing → Standing → RunFault → Type 0
BreaksOff how tells tag k a b fault = ((b ≡ record a { wire = failed a.wire }) × (fault ≡ WireFailed)) ⊎ ((now : ℕ) × (f : PumpFault) × StageBy how tells tag k a.last now a.pass a.wire f b.wire b.pass b.last × (fault ≡ run_fault f))

-- ---- which turns count

-- the longest wait for a datagram before a turn, in milliseconds
abbrev pub longest_wait : ℕ
longest_wait = 5

-- it brought refused datagrams, and nothing else was done
abbrev pub is_void : Turn → Bool
is_void t = nat_lt 0 t.refused && ((t.taken == 0) && ((t.rules == 0) && (t.sent == 0)))

-- Of an office that has so many turns, whether this is one of them. A void one isn't, before the time is over that as many idle turns take.
abbrev pub counts : ℕ → TimedTurn → Bool
counts turns t = not (is_void t.turn && nat_lt t.at (longest_wait * turns))

-- how many of these are
abbrev pub counted : ℕ → List TimedTurn → ℕ
counted turns = count_by (counts turns)

-- the last of these turns, if there is one, was begun while fewer than so many counted
abbrev pub IsLastBegun : ℕ → List TimedTurn → Type 0
IsLastBegun turns made = (made ≡ []) ⊎ ((before : List TimedTurn) × (last : TimedTurn) × (made ≡ before ++ last ∷ []) × (counted turns before < turns))

-- ---- rounds

-- a round: sessions, as the office takes them, and then a turn
pub record Round (how : Turning) (tells : Bool) (tag : ℕ) (k : Key) (t : TimedTurn) (a b : Standing) (sessions left : List ProgramValue) : Type 0 where
  pub filled : DeskPass
  pub fills : Fills tag k a.pass filled sessions left
  pub turns : Turns how tells tag k t (with_pass a filled) b

-- a round for each of these turns, one after the other, and what they leave of the sessions
abbrev pub Rounds : Turning → Bool → ℕ → Key → List TimedTurn → Standing → Standing → List ProgramValue → List ProgramValue → Type 0
Rounds how tells tag k [] a b sessions left = (a ≡ b) × (sessions ≡ left)
Rounds how tells tag k (t ∷ ts) a b sessions left = (m : Standing) × (mid : List ProgramValue) × Round how tells tag k t a m sessions mid × Rounds how tells tag k ts m b mid left

-- a round ends before its time: at its sessions, or at its turn
abbrev pub Ends : Turning → Bool → ℕ → Key → Standing → Standing → List ProgramValue → RunFault → Type 0
Ends how tells tag k a b sessions fault =
    (StopsFilling tag k a.pass b.pass sessions fault × (b ≡ with_pass a b.pass))
    ⊎ ((filled : DeskPass) × (left : List ProgramValue) × Fills tag k a.pass filled sessions left × BreaksOff how tells tag k (with_pass a filled) b fault)

-- rounds, of which fewer than so many count, and then one that ends before its time
pub record EndsEarly (how : Turning) (tells : Bool) (tag : ℕ) (k : Key) (turns : ℕ) (a b : Standing) (sessions : List ProgramValue) (fault : RunFault) : Type 0 where
  pub made : List TimedTurn
  pub few : counted turns made < turns
  pub at : Standing
  pub left : List ProgramValue
  pub rounds : Rounds how tells tag k made a at sessions left
  pub ends : Ends how tells tag k at b left fault

-- rounds until so many count; or, where there is a fault, it ended one of them
abbrev pub Goes : Option RunFault → Turning → Bool → ℕ → Key → ℕ → Standing → Standing → List ProgramValue → Type 0
Goes None how tells tag k turns a b sessions = (made : List TimedTurn) × (counted turns made ≡ turns) × IsLastBegun turns made × (left : List ProgramValue) × Rounds how tells tag k made a b sessions left
Goes (Some fault) how tells tag k turns a b sessions = EndsEarly how tells tag k turns a b sessions fault
