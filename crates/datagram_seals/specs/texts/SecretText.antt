-- Which secrets an office shares with others by a text, and which is the text's first fault.
use Rattle.std.specs.Prelude.{ℕ, List, [], ◌∷◌, ◌++◌, length, map, find, Bool, not, ◌&&◌, ◌||◌, ◌==◌, nat_le, Option, Some, None, Result, Ok, Err, if◌then◌else◌, codes, is_none, option_map}
use Rattle.std.specs.List.{list_any, range_with_len}
use Rattle.std.specs.Option.{ok_or}
use Rattle.std.specs.Result.{result_ok}
use Rattle.std.specs.Str.{bytes_eq}
use Rattle.hex.specs.Hex.{decode_of}
use Rattle.text_lines.specs.Text.{name_of, plain_words, statements}
use Rattle.office_map.specs.PlanValue.{PlanValue, office_named, are_neighbours, neighbours_of}
use Rattle.office_map.specs.PlanText.{◌>>=◌, ◌>>◌, and_then, refuse_if}
use Rattle.datagram_seals.specs.frames.Hmac.{key_block}
use Rattle.datagram_seals.specs.declared.texts.fault.SecretRule.{SecretRule}
use Rattle.datagram_seals.specs.declared.texts.fault.SecretRule.TheVariants.{Secret, NotNeighbours, SecretTwice}
use Rattle.datagram_seals.specs.declared.texts.fault.SecretRefusal.{SecretRefusal}
use Rattle.datagram_seals.specs.declared.texts.fault.SecretRefusal.TheVariants.{AtLine, NoSecret}
use Rattle.datagram_seals.specs.declared.texts.line.SecretLine.{SecretLine}
use Rattle.datagram_seals.specs.declared.texts.shared.SharedKey.{SharedKey}

-- bytes that are enough for a key, and not too many
abbrev pub of_good_length : List ℕ → Option (List ℕ)
of_good_length bytes = if nat_le 16 (length bytes) && nat_le (length bytes) 64 then Some bytes else None

abbrev pub key_in : Option (List ℕ) → Option (List ℕ)
key_in None = None
key_in (Some bytes) = of_good_length bytes

-- the key that a word spells: 16 to 64 bytes, each as two hexadecimal digits, in either case
abbrev pub key_of : List ℕ → Option (List ℕ)
key_of word = key_in (result_ok (decode_of word))

-- what a line says, where all its words are good
abbrev pub line_with : Option (List ℕ) → Option (List ℕ) → Option (List ℕ) → Option SecretLine
line_with (Some a) (Some b) (Some key) = Some (record { a = a; b = b; key = key })
line_with (Some a) (Some b) None = None
line_with (Some a) None key = None
line_with None b key = None

-- secret A B HEX
abbrev pub secret_line : List ℕ → List ℕ → List ℕ → List ℕ → Option SecretLine
secret_line keyword a b digits =
    if bytes_eq keyword (codes "secret") then line_with (name_of a) (name_of b) (key_of digits) else None

abbrev pub line_of : List (List ℕ) → Option SecretLine
line_of (keyword ∷ a ∷ b ∷ digits ∷ []) = secret_line keyword a b digits
line_of words = None

-- the key is shared by these two, in either order
abbrev pub is_between : ℕ → ℕ → SharedKey → Bool
is_between a b s = (s.first == a && s.second == b) || (s.first == b && s.second == a)

-- the keys with one more, or the first rule that refuses it
abbrev pub share : PlanValue → List SharedKey → SecretLine → Result (List SharedKey) SecretRule
share p keys said = do
  first ← ok_or (office_named p said.a) NotNeighbours
  second ← ok_or (office_named p said.b) NotNeighbours
  refuse_if (not (are_neighbours p first second)) NotNeighbours
  refuse_if (list_any (is_between first second) keys) SecretTwice
  Ok (keys ++ (record { first = first; second = second; key = said.key }) ∷ [])

abbrev pub at_line : {A : Type 0} → ℕ → Result A SecretRule → Result A SecretRefusal
at_line n (Ok x) = Ok x
at_line n (Err rule) = Err (AtLine rule n)

unfoldable pub read_line : PlanValue → List SharedKey → ℕ × List ℕ → Result (List SharedKey) SecretRefusal
read_line p keys l = at_line l.0 (do
  said ← ok_or (and_then (plain_words l.1) line_of) Secret
  share p keys said)

-- each line in order, on what those before it share
abbrev pub read_lines : PlanValue → List SharedKey → List (ℕ × List ℕ) → Result (List SharedKey) SecretRefusal
read_lines p keys [] = Ok keys
read_lines p keys (l ∷ ls) = read_line p keys l >>= λ more. read_lines p more ls

-- the keys of a text's lines, in their order, or its first faulty line
abbrev pub keys_of : PlanValue → List ℕ → Result (List SharedKey) SecretRefusal
keys_of p text = read_lines p [] (statements text)

-- the secret that two offices share: their key as a block
abbrev pub secret_between : List SharedKey → ℕ → ℕ → Option (List ℕ)
secret_between keys a b = option_map (λ (s : SharedKey). key_block s.key) (find (is_between a b) keys)

-- the first neighbour with whom an office shares nothing
abbrev pub first_without : PlanValue → ℕ → List SharedKey → Option ℕ
first_without p office keys = find (λ other. is_none (secret_between keys office other)) (neighbours_of p office)

abbrev pub unless_without : {A : Type 0} → Option ℕ → A → Result A SecretRefusal
unless_without None secrets = Ok secrets
unless_without (Some neighbour) secrets = Err (NoSecret neighbour)

-- what an office shares with each office of the plan; or a neighbour with whom it shares nothing
abbrev pub of_office : PlanValue → ℕ → List SharedKey → Result (List (Option (List ℕ))) SecretRefusal
of_office p office keys =
    unless_without (first_without p office keys) (map (secret_between keys office) (range_with_len 0 (length p.offices)))

-- the secrets of an office by a text, or the text's first fault
abbrev pub secrets_of : PlanValue → ℕ → List ℕ → Result (List (Option (List ℕ))) SecretRefusal
secrets_of p office text = keys_of p text >>= of_office p office
