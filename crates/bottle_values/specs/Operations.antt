-- What operators and comparisons make of two values: a value or a truth, or the fault that they have.
use Rattle.std.specs.Prelude.{ℕ, ℤ, pos, negsuc, ◌+ℤ◌, ◌-ℤ◌, ◌*ℤ◌, neg_ℤ, int_lt, List, ◌++◌, Bool, false, not, nat_lt, ◌^◌, if◌then◌else◌, Result, Ok, Err}
use Rattle.std.specs.Ordering.{int_eq}
use Rattle.std.specs.Str.{bytes_eq}
use Rattle.bottle_values.specs.declared.Value.{Value}
use Rattle.bottle_values.specs.declared.Value.TheVariants.{Number, Text}
use Rattle.bottle_values.specs.Texts.{is_text}
use Rattle.bottle_values.specs.declared.ValueFault.{ValueFault}
use Rattle.bottle_values.specs.declared.ValueFault.TheVariants.{Overflow, Mismatch}

-- whether a number is an i64
abbrev pub is_i64 : ℤ → Bool
is_i64 (pos n) = nat_lt n (2 ^ 63)
is_i64 (negsuc n) = nat_lt n (2 ^ 63)

-- whether a value is one that the code can have: a number of 64 bits, or a text that isn't too long
abbrev pub is_value : Value → Bool
is_value (Number z) = is_i64 z
is_value (Text t) = is_text t

-- the value 0
abbrev pub nought : Value
nought = Number (pos 0)

-- the number as a value, or an overflow where it is no i64
abbrev pub exact : ℤ → Result Value ValueFault
exact z = if is_i64 z then Ok (Number z) else Err Overflow

-- the text as a value, or an overflow where it is too long
abbrev pub joined : List ℕ → Result Value ValueFault
joined bytes = if is_text bytes then Ok (Text bytes) else Err Overflow

-- what two numbers make, where a text is a mismatch
abbrev pub of_numbers : {A : Type 0} → (ℤ → ℤ → Result A ValueFault) → Value → Value → Result A ValueFault
of_numbers f (Number y) (Number z) = f y z
of_numbers f (Number y) (Text t) = Err Mismatch
of_numbers f (Text s) b = Err Mismatch

-- the sum of two numbers, exact, or two texts joined, or the fault that they have
abbrev pub sum : Value → Value → Result Value ValueFault
sum (Number y) (Number z) = exact (y +ℤ z)
sum (Text s) (Text t) = joined (s ++ t)
sum (Number y) (Text t) = Err Mismatch
sum (Text s) (Number z) = Err Mismatch

-- the first value less the second, exact, or its fault
abbrev pub difference : Value → Value → Result Value ValueFault
difference = of_numbers (λ y z. exact (y -ℤ z))

-- the product of two values, exact, or its fault
abbrev pub product : Value → Value → Result Value ValueFault
product = of_numbers (λ y z. exact (y *ℤ z))

-- a value with the other sign, exact, or its fault
abbrev pub opposite : Value → Result Value ValueFault
opposite (Number z) = exact (neg_ℤ z)
opposite (Text t) = Err Mismatch

-- whether two values are the same: a number and a text are not
abbrev pub are_equal : Value → Value → Bool
are_equal (Number y) (Number z) = int_eq y z
are_equal (Text s) (Text t) = bytes_eq s t
are_equal (Number y) (Text t) = false
are_equal (Text s) (Number z) = false

-- whether the first value comes before the second
abbrev pub is_less : Value → Value → Result Bool ValueFault
is_less = of_numbers (λ y z. Ok (int_lt y z))

-- whether the first value isn't past the second
abbrev pub is_at_most : Value → Value → Result Bool ValueFault
is_at_most = of_numbers (λ y z. Ok (not (int_lt z y)))
