-- Versions of plans, and which values a run has under each.
use Rattle.std.specs.Prelude.{ℕ, Bool, true}
use Rattle.bottle_values.specs.declared.Value.{Value}
use Rattle.bottle_values.specs.Values.{is_number}
use Rattle.bottle_values.specs.declared.version.Version.{Version}
use Rattle.bottle_values.specs.declared.version.Version.TheVariants.{One, Two}

-- the number that plans and frames tell
abbrev pub number_of : Version → ℕ
number_of One = 1
number_of Two = 2

-- whether a value can be one of a run of this version: under version 1 a number alone
abbrev pub admits : Version → Value → Bool
admits One v = is_number v
admits Two v = true
