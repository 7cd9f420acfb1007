-- The values that a session gave, as they are kept.
use Rattle.std.specs.Prelude.{List, map}
use Rattle.bottle_values.specs.declared.Value.{Value}
use Rattle.bottle_values.specs.declared.Value.TheVariants.{Number}
use Rattle.session_meaning.specs.declared.gives.Kept.{Kept}
use Rattle.session_meaning.specs.declared.gives.Kept.TheVariants.{Numbers, Values}

-- the values of either form
abbrev pub values_in : Kept → List Value
values_in (Numbers numbers) = map Number numbers.items
values_in (Values values) = values.items
