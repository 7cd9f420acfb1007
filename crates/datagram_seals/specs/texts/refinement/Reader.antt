-- What the functions that read secrets answer, in the words of reading.
use Rattle.std.specs.Prelude.{◌≡◌, Result, Err}
use Rattle.datagram_seals.specs.declared.texts.fault.SecretRefusal.{SecretRefusal}
use Rattle.datagram_seals.specs.declared.texts.fault.SecretFault.{SecretFault}
use Rattle.datagram_seals.specs.declared.texts.fault.SecretFault.TheVariants.{Memory, Refused}

-- what an error says of what reading gives
abbrev pub Fails : {A : Type 0} → SecretFault → Result A SecretRefusal → Type 0
Fails Memory read = Unit {0}
Fails (Refused r) read = read ≡ Err r
