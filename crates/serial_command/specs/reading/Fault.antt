-- Which input a fault is about.
use Rattle.std.specs.Prelude.{◌≡◌, List, Contains, Option, Some, None}
use Rattle.serial_command.specs.declared.reading.input.Input.{Input}
use Rattle.serial_command.specs.declared.reading.input.Input.TheVariants as inputs
use Rattle.serial_command.specs.declared.reading.fault.TextFault.{TextFault}
use Rattle.serial_command.specs.declared.reading.fault.TextFault.TheVariants.{Memory, ReadFailed, Plan, Ring, Sessions}

-- the input that is at fault
abbrev pub input_at : TextFault → Option Input
input_at Memory = None
input_at (ReadFailed input cause) = Some input
input_at (Plan refusal said) = Some inputs.Plan
input_at (Ring ring said) = Some inputs.Plan
input_at (Sessions refusal said) = Some inputs.Sessions

-- this input wasn't read, or its text is refused and P holds of the fault; or memory ran out
abbrev pub IsAtInput : Input → (TextFault → Type 0) → TextFault → Type 0
IsAtInput input P Memory = Unit {0}
IsAtInput input P (ReadFailed failed cause) = failed ≡ input
IsAtInput input P (Plan refusal said) = (inputs.Plan ≡ input) × P (Plan refusal said)
IsAtInput input P (Ring ring said) = (inputs.Plan ≡ input) × P (Ring ring said)
IsAtInput input P (Sessions refusal said) = (inputs.Sessions ≡ input) × P (Sessions refusal said)

-- one of these inputs wasn't read or its text is refused, or memory ran out
abbrev pub IsOneOf : List Input → TextFault → Type 0
IsOneOf asked Memory = Unit {0}
IsOneOf asked (ReadFailed input cause) = Contains asked input
IsOneOf asked (Plan refusal said) = Contains asked inputs.Plan
IsOneOf asked (Ring ring said) = Contains asked inputs.Plan
IsOneOf asked (Sessions refusal said) = Contains asked inputs.Sessions
