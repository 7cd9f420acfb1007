-- What is so of every text that a fault tells of is so of the one that was read.
use Rattle.serial_command.specs.declared.reading.input.Input.{Input}
use Rattle.serial_command.specs.declared.reading.fault.TextFault.{TextFault}
use Rattle.serial_command.specs.declared.reading.fault.TextFault.TheVariants.{Memory, ReadFailed, Plan, Ring, Sessions}
use Rattle.serial_command.specs.reading.Fault.{IsAtInput}

pub weaker : (input : Input) (P Q : TextFault → Type 0) (f : TextFault) → ((why : TextFault) → P why → Q why) → IsAtInput input P f → IsAtInput input Q f
weaker input P Q Memory k h = tt
weaker input P Q (ReadFailed failed cause) k h = h
weaker input P Q (Plan refusal said) k (e, h) = (e, k _ h)
weaker input P Q (Ring ring said) k (e, h) = (e, k _ h)
weaker input P Q (Sessions refusal said) k (e, h) = (e, k _ h)
