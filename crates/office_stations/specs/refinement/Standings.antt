-- Where an office stands, in parts, and what came of one session.
use Rattle.std.specs.Prelude.{◌≡◌, ℕ, Bool, true, false, Result, Ok, Err}
use Rattle.session_meaning.specs.ProgramValue.{ProgramValue}
use Rattle.office_journal.specs.declared.reply.Refusal.TheVariants as refusal
use Rattle.locked_office.specs.Calls.{Key, DeskPass}
use Rattle.socket_pump.specs.Wires.{Account}
use Rattle.socket_pump.specs.Turns.{Times}
use Rattle.office_stations.specs.declared.fault.RunFault.{RunFault}
use Rattle.office_stations.specs.Rounds.{Standing, Takes, Refuses, Lacks}

abbrev pub standing : DeskPass → Account → Times → Standing
standing p a l = record { pass = p; wire = a; last = l }

-- of a session that is submitted: the office took it, its queue is full, or it lacks room
abbrev pub Answered : ℕ → Key → ProgramValue → Result Bool RunFault → DeskPass → DeskPass → Type 0
Answered tag k s (Ok true) p q = Takes tag k s p q
Answered tag k s (Ok false) p q = Refuses tag k s refusal.QueueFull p q
Answered tag k s (Err fault) p q = Lacks tag k s fault p q

-- another office's is passed over
abbrev pub PassedOver : Result Bool RunFault → DeskPass → DeskPass → Type 0
PassedOver (Ok true) p q = q ≡ p
PassedOver result p q = ⊥
