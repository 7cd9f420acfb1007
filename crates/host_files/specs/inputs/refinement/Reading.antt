-- What a reader gave.
use Rattle.std.specs.Prelude.{◌≡◌, ◌⊎◌, ℕ, ◌≤◌, List, ◌++◌, length, Option, Some, None}
use Rattle.std.specs.Io.KnownBytes.{Consumes, IsAtEnd}

-- a buffer grew by what the reader lost
abbrev pub Grows : Option (List ℕ) → Option (List ℕ) → List ℕ → List ℕ → Type 0
Grows old new before after = (got : List ℕ) × (after ≡ before ++ got) × Consumes old new got

-- A buffer grew by what the reader lost, until it had so many bytes or the reader none.
pub record IsFilled (old new : Option (List ℕ)) (before after : List ℕ) (most : ℕ) : Type 0 where
  pub got : List ℕ
  pub grown : after ≡ before ++ got
  pub taken : Consumes old new got
  pub full : (most ≤ length after) ⊎ IsAtEnd new

-- what is ahead, and then what the reader has
abbrev pub left : List ℕ → Option (List ℕ) → Option (List ℕ)
left ahead None = None
left ahead (Some rest) = Some (ahead ++ rest)
