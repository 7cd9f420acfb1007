-- What a fault leaves of a text that is written as it comes.
use Rattle.world_schedule.specs.declared.reports.fault.TellingFault.{TellingFault}
use Rattle.world_schedule.specs.declared.reports.fault.TellingFault.TheVariants.{Memory, WriteFailed}

-- Where memory ran out and nothing else, P holds: that nothing was written. Where the writing failed nothing is said.
abbrev pub Unwritten : Type 0 → TellingFault → Type 0
Unwritten P Memory = P
Unwritten P (WriteFailed cause) = Unit {0}
