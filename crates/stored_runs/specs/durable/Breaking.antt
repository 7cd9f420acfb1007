-- Where a turn breaks off, and what it did until then.
use Rattle.std.specs.Prelude.{◌≡◌, ℕ, true}
use Rattle.locked_office.specs.Calls.{Key, DeskPass}
use Rattle.socket_pump.specs.declared.pump.Turn.{Turn}
use Rattle.socket_pump.specs.declared.pump.PumpFault.{PumpFault}
use Rattle.socket_pump.specs.declared.pump.PumpFault.TheVariants as pump
use Rattle.socket_pump.specs.Wires.{Account}
use Rattle.socket_pump.specs.Turns.{Times}
use Rattle.socket_pump.specs.AdaptiveTurns.{AdaptiveStage}
use Rattle.stored_runs.specs.declared.durable.fault.TurnFault.{TurnFault}
use Rattle.stored_runs.specs.declared.durable.fault.TurnFault.TheVariants.{WireFailed, JournalFull, Memory}
use Rattle.stored_runs.specs.durable.Letting.{Turns}

-- what a pump's fault is told as
abbrev pub told_as : PumpFault → TurnFault
told_as pump.WireFailed = WireFailed
told_as pump.JournalFull = JournalFull
told_as pump.Memory = Memory

-- Before the pump's turn, and nothing was done; or in it, as a pump breaks off at a wire; or after it, and all of it was done, but
-- that its frames didn't all go out. Nothing else happens at the office.
pub data BrokeAt (tag : ℕ) (k : Key) (last : Times) (now : ℕ) (p : DeskPass) (f : TurnFault) (q : DeskPass) (then : Times) : Type 0 where
  BeforePump : (fault : f ≡ WireFailed) (pass : q ≡ p) (times : (v n : ℕ) → then v n ≡ last v n) → BrokeAt tag k last now p f q then
  InPump : (why : PumpFault) (fault : f ≡ told_as why) (a b : Account) (stage : AdaptiveStage true tag k last now p a why b q then) → BrokeAt tag k last now p f q then
  AfterPump : (t : Turn) (a b : Account) (turned : Turns true tag k last now p a t b q then) → BrokeAt tag k last now p f q then
