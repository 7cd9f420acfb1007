-- A result of checked arithmetic, and of joining, as a value.
use Rattle.std.specs.Prelude.{ℕ, List, ℤ, Option, Some, None, Result, Ok, Err}
use Rattle.bottle_values.specs.declared.Value.{Value}
use Rattle.bottle_values.specs.declared.Value.TheVariants.{Number, Text}
use Rattle.bottle_values.specs.declared.ValueFault.{ValueFault}
use Rattle.bottle_values.specs.declared.ValueFault.TheVariants.{Overflow}

abbrev pub number_or_overflow : Option ℤ → Result Value ValueFault
number_or_overflow (Some z) = Ok (Number z)
number_or_overflow None = Err Overflow

abbrev pub text_or_overflow : Option (List ℕ) → Result Value ValueFault
text_or_overflow (Some bytes) = Ok (Text bytes)
text_or_overflow None = Err Overflow
