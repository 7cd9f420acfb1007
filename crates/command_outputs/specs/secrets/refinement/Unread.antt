-- Why a file isn't read.
use Rattle.command_outputs.specs.declared.secrets.fault.SecretsFault.{SecretsFault}
use Rattle.command_outputs.specs.declared.secrets.fault.SecretsFault.TheVariants.{Memory, Failed, OpenToOthers, Refused}

-- the fault is none of a text
abbrev pub IsUnread : SecretsFault → Type 0
IsUnread Memory = Unit {0}
IsUnread (Failed cause) = Unit {0}
IsUnread OpenToOthers = Unit {0}
IsUnread (Refused refusal said) = ⊥
