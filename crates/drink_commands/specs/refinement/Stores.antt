-- What is told of a store that isn't gone on from.
use Rattle.std.specs.Prelude.{◌≡◌}
use Rattle.stored_runs.specs.declared.fault.KeptFault.{KeptFault}
use Rattle.stored_runs.specs.declared.fault.KeptFault.TheVariants as kept
use Rattle.command_outputs.specs.declared.fault.StoreRefusal.{StoreRefusal}
use Rattle.command_outputs.specs.declared.fault.StoreRefusal.TheVariants as refusal
use Rattle.command_outputs.specs.declared.fault.Fault.{Fault}
use Rattle.command_outputs.specs.declared.fault.Fault.TheVariants.{Memory, NoStore, OtherSessions}

-- as a line of it
abbrev pub IsLineOf : KeptFault → StoreRefusal → Type 0
IsLineOf fault (refusal.Faulty line why text) = fault ≡ kept.Faulty line why
IsLineOf fault _ = ⊥

-- it is told as that, or memory ran out
abbrev pub IsToldOf : KeptFault → Fault → Type 0
IsToldOf fault Memory = Unit {0}
IsToldOf fault (NoStore why) = IsLineOf fault why
IsToldOf fault (OtherSessions ticket) = fault ≡ kept.OtherSessions ticket
IsToldOf fault _ = ⊥
