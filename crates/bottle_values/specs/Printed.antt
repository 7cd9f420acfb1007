-- How a value is written.
use Rattle.std.specs.Prelude.{ℕ, List, [], ◌∷◌, ◌++◌}
use Rattle.std.specs.Fmt.{signed_decimal}
use Rattle.bottle_values.specs.declared.Value.{Value}
use Rattle.bottle_values.specs.declared.Value.TheVariants.{Number, Text}

-- the bytes between two quotation marks
abbrev pub quoted : List ℕ → List ℕ
quoted bytes = 34 ∷ bytes ++ 34 ∷ []

-- a number in decimal, with a sign where it is below 0, and a text between two quotation marks
abbrev pub value_text : Value → List ℕ
value_text (Number z) = signed_decimal z
value_text (Text t) = quoted t
