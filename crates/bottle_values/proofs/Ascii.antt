-- The bytes of a text are ASCII.
use Rattle.std.proofs.Common.{◌≡◌, ℕ, zero, suc, ◌<◌, List, [], ◌∷◌, length, get_or, true, arith}
use Rattle.std.specs.Prelude.{IsTrue, nat_le}
use Rattle.std.specs.List.{list_all}
use Rattle.std.proofs.lemmas.Bool.{and_parts}
use Rattle.std.proofs.lemmas.Bool.Decides.{nat_tests}
use Rattle.bottle_values.specs.Texts.{is_text, is_text_byte}

byte_below : (b : ℕ) → is_text_byte b ≡ true → b < 128
byte_below b h = grind (arith, nat_tests)

bytes_below : (bytes : List ℕ) → list_all is_text_byte bytes ≡ true → (i : ℕ) → get_or bytes i 0 < 128
bytes_below [] h i = omega arith
bytes_below (b ∷ bs) h zero = byte_below b (and_parts (is_text_byte b) (list_all is_text_byte bs) h).0
bytes_below (b ∷ bs) h (suc i) = bytes_below bs (and_parts (is_text_byte b) (list_all is_text_byte bs) h).1 i

pub ascii : (text : List ℕ) → IsTrue (is_text text) → (i : ℕ) → get_or text i 0 < 128
ascii text h = bytes_below text (and_parts (nat_le (length text) 64) (list_all is_text_byte text) h).1
