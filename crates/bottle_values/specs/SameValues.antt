-- Values are equal exactly where they are the same; and a number is the one that it has.
use Rattle.std.specs.Prelude.{◌≡◌, IsTrue}
use Rattle.std.proofs.Common.{refl, ap, subst}
use Rattle.std.specs.Bool.{Decides}
use Rattle.std.proofs.lemmas.Bool.Decides.{Decides-int_eq}
use Rattle.std.proofs.lemmas.Slice.Eq.{bytes_eq-Decides}
use Rattle.bottle_values.specs.declared.Value.{Value}
use Rattle.bottle_values.specs.declared.Value.TheVariants.{Number, Text}
use Rattle.bottle_values.specs.Values.{is_number, number_in}
use Rattle.bottle_values.specs.Operations.{are_equal}

pub equal_is_same : (a b : Value) → IsTrue (are_equal a b) → a ≡ b
equal_is_same (Number y) (Number z) h = ap Number ((Decides-int_eq y z).0 h)
equal_is_same (Text s) (Text t) h = ap Text ((bytes_eq-Decides s t).0 h)
equal_is_same (Number y) (Text t) h = absurd cc
equal_is_same (Text s) (Number z) h = absurd cc

equals_itself : (a : Value) → IsTrue (are_equal a a)
equals_itself (Number z) = (Decides-int_eq z z).1 refl
equals_itself (Text t) = (bytes_eq-Decides t t).1 refl

pub same_is_equal : (a b : Value) → a ≡ b → IsTrue (are_equal a b)
same_is_equal a b e = subst (λ x. IsTrue (are_equal a x)) e (equals_itself a)

-- whether they are equal is whether they are the same
pub equal_decides : (a b : Value) → Decides (are_equal a b) (a ≡ b)
equal_decides a b = (equal_is_same a b, same_is_equal a b)

-- a number is the one that it has
pub number_is : (v : Value) → IsTrue (is_number v) → v ≡ Number (number_in v)
number_is (Number z) h = refl
number_is (Text t) h = absurd cc
