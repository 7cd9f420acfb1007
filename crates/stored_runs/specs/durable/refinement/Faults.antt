-- What the parts of a turn say of their faults.
use Rattle.std.specs.Prelude.{◌≡◌, Bool, true, false}
use Rattle.stored_runs.specs.declared.durable.fault.TurnFault.{TurnFault}
use Rattle.stored_runs.specs.declared.durable.fault.TurnFault.TheVariants.{WireFailed, StoreFailed, JournalFull, Memory}

-- the append failed, or there was no memory for the text
abbrev pub BreaksStanding : Bool → TurnFault → Type 0
BreaksStanding failed WireFailed = ⊥
BreaksStanding failed StoreFailed = failed ≡ true
BreaksStanding failed JournalFull = ⊥
BreaksStanding failed Memory = failed ≡ false
