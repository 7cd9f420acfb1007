-- Names are ASCII, and so they are text.
use Rattle.std.proofs.Common.{◌≡◌, ℕ, zero, suc, ◌<◌, List, [], ◌∷◌, get_or, true, arith}
use Rattle.std.specs.List.{list_all}
use Rattle.std.specs.Str.{IsUtf8}
use Rattle.std.proofs.lemmas.Bool.{and_parts}
use Rattle.std.proofs.lemmas.Str.{IsUtf8-from_ascii}
use Rattle.std.proofs.lemmas.Bool.Decides.{nat_tests}
use Rattle.std.proofs.lemmas.Grind.{common_steps}
use Rattle.text_lines.specs.Text.{is_name, is_name_byte}

name_byte_below : (b : ℕ) → is_name_byte b ≡ true → b < 128
name_byte_below b h = grind (arith, nat_tests)

all_below : (word : List ℕ) → list_all is_name_byte word ≡ true → (i : ℕ) → get_or word i 0 < 128
all_below [] h i = grind (arith, common_steps)
all_below (b ∷ bs) h zero = name_byte_below b (and_parts (is_name_byte b) (list_all is_name_byte bs) h).0
all_below (b ∷ bs) h (suc i) = all_below bs (and_parts (is_name_byte b) (list_all is_name_byte bs) h).1 i

pub name_is_text : (word : List ℕ) → is_name word ≡ true → IsUtf8 word
name_is_text [] h = (cc)
name_is_text (b ∷ bs) h = IsUtf8-from_ascii (b ∷ bs) (all_below (b ∷ bs) (and_parts _ _ (and_parts _ _ h).1).0)
