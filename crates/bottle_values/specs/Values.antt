-- Which values are numbers.
use Rattle.std.specs.Prelude.{ℤ, pos, Bool, true, false}
use Rattle.bottle_values.specs.declared.Value.{Value}
use Rattle.bottle_values.specs.declared.Value.TheVariants.{Number, Text}

-- whether a value is a number
abbrev pub is_number : Value → Bool
is_number (Number z) = true
is_number (Text t) = false

-- the number that a value is, or 0 for a text
abbrev pub number_in : Value → ℤ
number_in (Number z) = z
number_in (Text t) = pos 0
