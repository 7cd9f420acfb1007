-- What commands say of secrets.
use Rattle.std.specs.Prelude.{◌≡◌, ℕ, List, Option, Some, None, Ok}
use Rattle.office_map.specs.PlanValue.{PlanValue}
use Rattle.socket_pump.specs.Wires.{Account}
use Rattle.datagram_seals.specs.texts.SecretText.{secrets_of}
use Rattle.command_outputs.specs.declared.secrets.fault.SecretsFault.{SecretsFault}
use Rattle.datagram_seals.specs.sockets.Sealed.{IsToldUnder}
use Rattle.command_outputs.specs.declared.fault.Fault.{Fault}
use Rattle.command_outputs.specs.declared.fault.Fault.TheVariants.{NoSecrets}

-- these are an office's secrets by the text of the file that is named for them, where it is known; without a file it has none
abbrev pub AreSecrets : (List ℕ → Option (List ℕ)) → PlanValue → ℕ → (file : Option (List ℕ)) → Option (List (Option (List ℕ))) → Type 0
AreSecrets files p me None secrets = secrets ≡ None
AreSecrets files p me (Some name) None = ⊥
AreSecrets files p me (Some name) (Some secrets) = (text : List ℕ) → files name ≡ Some text → secrets_of p me text ≡ Ok secrets

-- a socket over one of which each tells so, under an office's secrets by the file that is named for them, tells this
abbrev pub IsUnderSeals : {S : Type 0} → (S → Account) → (List ℕ → Option (List ℕ)) → (file : Option (List ℕ)) → PlanValue → ℕ → Account → Type 0
IsUnderSeals account files file p me a = (secrets : Option (List (Option (List ℕ)))) × AreSecrets files p me file secrets × IsToldUnder account secrets a

-- the office doesn't get its secrets, and what P says of why
abbrev pub IsSecretsFault : (SecretsFault → Type 0) → Fault → Type 0
IsSecretsFault P (NoSecrets why) = P why
IsSecretsFault P _ = ⊥
