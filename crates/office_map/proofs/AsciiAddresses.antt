-- Addresses are ASCII, and words with too many parts are none.
use Rattle.std.proofs.Common.{Bor, ◌≡◌, ℕ, zero, suc, ◌<◌, List, [], ◌∷◌, length, get_or, Option, Some, None, IfSome, IsTrue, true, false, ◌⊎◌, inl, inr, refl, arith, codes, subst, sym}
use Rattle.std.specs.List.{slice_split, list_all}
use Rattle.std.specs.Option.{option_copied}
use Rattle.std.specs.Str.{bytes_eq, IsUtf8}
use Rattle.std.proofs.lemmas.Bool.{and_parts, or_cases}
use Rattle.std.proofs.lemmas.Bool.Decides.{nat_tests}
use Rattle.std.proofs.lemmas.Grind.{common_steps}
use Rattle.std.proofs.lemmas.Slice.Eq.{bytes_eq-Decides}
use Rattle.std.proofs.lemmas.Str.{IsUtf8-from_ascii}
use Rattle.office_map.specs.Address.{is_dot, is_colon, is_host, is_host_and_port, is_address, is_address_byte, is_socket}
use Rattle.text_lines.specs.TextLaws.{some_parts}

more_than_four : (a b c d : List ℕ) (parts : List (List ℕ)) → 0 < length parts → false ≡ is_host (a ∷ b ∷ c ∷ d ∷ parts)
more_than_four a b c d [] h = absurd (omega arith)
more_than_four a b c d (e ∷ more) h = refl

pub five_parts : (host r s t u a b c d : List ℕ) → slice_split is_dot host ≡ a ∷ slice_split is_dot r → slice_split is_dot r ≡ b ∷ slice_split is_dot s → slice_split is_dot s ≡ c ∷ slice_split is_dot t → slice_split is_dot t ≡ d ∷ slice_split is_dot u → false ≡ is_host (slice_split is_dot host)
five_parts host r s t u a b c d e f g h = rw (e, f, g, h) (more_than_four a b c d (slice_split is_dot u) (some_parts is_dot u))

more_than_two : (host port : List ℕ) (parts : List (List ℕ)) → 0 < length parts → false ≡ is_host_and_port (host ∷ port ∷ parts)
more_than_two host port [] h = absurd (omega arith)
more_than_two host port (e ∷ more) h = refl

pub three_parts : (word r s host port : List ℕ) → slice_split is_colon word ≡ host ∷ slice_split is_colon r → slice_split is_colon r ≡ port ∷ slice_split is_colon s → false ≡ is_host_and_port (slice_split is_colon word)
three_parts word r s host port e f = rw (e, f) (more_than_two host port (slice_split is_colon s) (some_parts is_colon s))

address_byte_below : (b : ℕ) → is_address_byte b ≡ true → b < 128
address_byte_below b h = grind (arith, nat_tests)

all_below : (word : List ℕ) → list_all is_address_byte word ≡ true → (i : ℕ) → get_or word i 0 < 128
all_below [] h i = grind (arith, common_steps)
all_below (b ∷ bs) h zero = address_byte_below b (and_parts (is_address_byte b) (list_all is_address_byte bs) h).0
all_below (b ∷ bs) h (suc i) = all_below bs (and_parts (is_address_byte b) (list_all is_address_byte bs) h).1 i

dash_below : (i : ℕ) → get_or (codes "-") i 0 < 128
dash_below zero = omega arith
dash_below (suc i) = omega arith

pub address_is_text : (word : List ℕ) → is_address word ≡ true → IsUtf8 word
address_is_text word h = by_kind (or_cases (bytes_eq word (codes "-")) (is_socket word) h)
  where
    by_kind : (bytes_eq word (codes "-") ≡ true) ⊎ (is_socket word ≡ true) → IsUtf8 word
    by_kind (inl e) = subst IsUtf8 (sym ((bytes_eq-Decides word (codes "-")).0 e)) (IsUtf8-from_ascii (codes "-") dash_below)
    by_kind (inr s) = IsUtf8-from_ascii word (all_below word (and_parts _ _ s).0)

-- what stands for such a word is an address
pub read_of : (o : Option (Bor (List ℕ))) (word : List ℕ) → option_copied o ≡ Some word → is_address word ≡ true → IfSome o (λ a. IsTrue (is_address a.now))
read_of None word e h = tt
read_of (Some a) word e h = let is : a.now ≡ word = cc in rw is h
