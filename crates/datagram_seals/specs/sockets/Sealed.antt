-- What a socket tells that may be under seals.
use Rattle.std.specs.Prelude.{◌≡◌, ℕ, Bool, List, Option, Some, None, if◌then◌else◌}
use Rattle.socket_pump.specs.Wires.{Account}
use Rattle.datagram_seals.specs.wires.SealedWires.{told_of}

-- under secrets, by the office with which each is shared, what a sealed wire over the socket below tells; without them what that tells itself
abbrev pub told_under : Option (List (Option (List ℕ))) → ℕ → Account → Account
told_under None failures a = a
told_under (Some secrets) failures a = told_of secrets failures a

-- A socket under these secrets tells this, over one of which each tells so. So each frame that was handed on was opened under them (`EachIsOpened`).
abbrev pub IsToldUnder : {S : Type 0} → (S → Account) → Option (List (Option (List ℕ))) → Account → Type 0
IsToldUnder {S = S} account secrets a = (s : S) × (failures : ℕ) × (told_under secrets failures (account s) ≡ a)

-- the secrets that there are, where there are any
abbrev pub secrets_if : Bool → List (Option (List ℕ)) → Option (List (Option (List ℕ)))
secrets_if sealed secrets = if sealed then Some secrets else None
