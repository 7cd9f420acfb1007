-- Why an office doesn't get its secrets.
use Rattle.std.specs.Prelude.{◌≡◌, ℕ, List, Option, Some, Err}
use Rattle.office_map.specs.PlanValue.{PlanValue}
use Rattle.datagram_seals.specs.texts.SecretText.{secrets_of}
use Rattle.command_outputs.specs.declared.secrets.fault.SecretsFault.{SecretsFault}
use Rattle.command_outputs.specs.declared.secrets.fault.SecretsFault.TheVariants.{Memory, Failed, OpenToOthers, Refused}

-- A file with this text, where that is known, isn't taken for the secrets of an office: its text is refused so. Of the other reasons nothing is said.
abbrev pub RefusesSecrets : Option (List ℕ) → PlanValue → ℕ → SecretsFault → Type 0
RefusesSecrets known p office Memory = Unit {0}
RefusesSecrets known p office (Failed cause) = Unit {0}
RefusesSecrets known p office OpenToOthers = Unit {0}
RefusesSecrets known p office (Refused refusal said) = (text : List ℕ) → known ≡ Some text → secrets_of p office text ≡ Err refusal
