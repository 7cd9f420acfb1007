-- Which words are addresses.
use Rattle.std.specs.Prelude.{ℕ, List, [], ◌∷◌, Bool, false, not, ◌&&◌, ◌||◌, ◌==◌, nat_le, Option, Some, None, if◌then◌else◌, codes}
use Rattle.std.specs.List.{slice_split, list_all}
use Rattle.std.specs.Option.{option_map_or}
use Rattle.std.specs.Str.{bytes_eq}
use Rattle.std.specs.Char.{is_ascii_digit}
use Rattle.text_lines.specs.Text.{number_of}

abbrev pub is_dot : ℕ → Bool
is_dot b = b == 46

abbrev pub is_colon : ℕ → Bool
is_colon b = b == 58

-- more than one digit, the first of them 0
abbrev pub has_leading_zero : List ℕ → Bool
has_leading_zero [] = false
has_leading_zero (first ∷ []) = false
has_leading_zero (first ∷ second ∷ more) = first == 48

-- a number from low to high without a leading zero
abbrev pub is_number_within : ℕ → ℕ → List ℕ → Bool
is_number_within low high word =
    not (has_leading_zero word) && option_map_or (λ n. nat_le low n && nat_le n high) (number_of word) false

abbrev pub is_octet : List ℕ → Bool
is_octet = is_number_within 0 255

abbrev pub is_port : List ℕ → Bool
is_port = is_number_within 1 65535

-- four octets
abbrev pub is_host : List (List ℕ) → Bool
is_host (a ∷ b ∷ c ∷ d ∷ []) = (is_octet a && is_octet b) && (is_octet c && is_octet d)
is_host parts = false

-- a host's octets, cut at the dots, and a port
abbrev pub is_host_and_port : List (List ℕ) → Bool
is_host_and_port (host ∷ port ∷ []) = is_host (slice_split is_dot host) && is_port port
is_host_and_port parts = false

abbrev pub is_address_byte : ℕ → Bool
is_address_byte b = is_ascii_digit b || (b == 46 || b == 58)

-- digits with dots and a colon: four octets, a colon, and a port
abbrev pub is_socket : List ℕ → Bool
is_socket word = list_all is_address_byte word && is_host_and_port (slice_split is_colon word)

-- an address, or `-` for none
abbrev pub is_address : List ℕ → Bool
is_address word = bytes_eq word (codes "-") || is_socket word

abbrev pub address_of_word : List ℕ → Option (List ℕ)
address_of_word word = if is_address word then Some word else None
