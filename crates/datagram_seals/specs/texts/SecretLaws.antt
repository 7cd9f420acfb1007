-- What holds of secrets that are read.
use Rattle.std.specs.Prelude.{◌≡◌, ◌<◌, ℕ, ◌⊎◌, List, length, get_or, Contains, Option, Some, None, Ok, is_some}
use Rattle.text_lines.specs.Text.{plain_words, statements}
use Rattle.office_map.specs.PlanValue.{PlanValue, office_named, are_neighbours}
use Rattle.office_map.specs.PlanText.{and_then}
use Rattle.office_map.specs.Consistency.{IsConsistent}
use Rattle.datagram_seals.specs.frames.Hmac.{key_block}
use Rattle.datagram_seals.specs.declared.texts.line.SecretLine.{SecretLine}
use Rattle.datagram_seals.specs.texts.SecretText.{line_of, secrets_of}

-- an office of a consistent plan has a secret with each of its neighbours, and with nobody else
abbrev pub NeighboursHaveSecrets : Type 0
NeighboursHaveSecrets = (p : PlanValue) (office other : ℕ) (text : List ℕ) (secrets : List (Option (List ℕ))) → IsConsistent p → secrets_of p office text ≡ Ok secrets
    → is_some (get_or secrets other None) ≡ are_neighbours p office other

-- two offices that read one text have the same secret with each other
abbrev pub NeighboursShareOneSecret : Type 0
NeighboursShareOneSecret = (p : PlanValue) (a b : ℕ) (text : List ℕ) (ours theirs : List (Option (List ℕ))) → a < length p.offices → b < length p.offices
    → secrets_of p a text ≡ Ok ours → secrets_of p b text ≡ Ok theirs → get_or ours b None ≡ get_or theirs a None

-- these are the two offices that a line names, in either order
abbrev pub Names : PlanValue → SecretLine → ℕ → ℕ → Type 0
Names p said a b = ((office_named p said.a ≡ Some a) × (office_named p said.b ≡ Some b)) ⊎ ((office_named p said.a ≡ Some b) × (office_named p said.b ≡ Some a))

-- a line of the text says that these two share this secret
pub record IsSaid (p : PlanValue) (text : List ℕ) (a b : ℕ) (secret : List ℕ) : Type 0 where
  pub line : ℕ × List ℕ
  pub stands : Contains (statements text) line
  pub said : SecretLine
  pub says : and_then (plain_words line.1) line_of ≡ Some said
  pub names : Names p said a b
  pub is : secret ≡ key_block said.key

-- each secret of an office is that of a line which names the office and the other
abbrev pub SecretsAreOfLines : Type 0
SecretsAreOfLines = (p : PlanValue) (office other : ℕ) (text : List ℕ) (secrets : List (Option (List ℕ))) (secret : List ℕ) → secrets_of p office text ≡ Ok secrets
    → get_or secrets other None ≡ Some secret → IsSaid p text office other secret
