-- Bytes that stand in a store, where these are known, and what may be found there after a loss.
use Rattle.std.specs.Prelude.{◌≡◌, ℕ, List, ◌++◌, Bool, Option, Some, None}

-- known bytes stay, and then come these; unknown ones stay unknown
abbrev pub Stands : Option (List ℕ) → List ℕ → Option (List ℕ) → Type 0
Stands None bytes new = new ≡ None
Stands (Some old) bytes new = new ≡ Some (old ++ bytes)

-- they stay as they are
abbrev pub Keeps : Option (List ℕ) → Option (List ℕ) → Type 0
Keeps old new = new ≡ old

-- what stands is found, and no more, where it is known what is
abbrev pub IsFound : Option (List ℕ) → Option (List ℕ) → Type 0
IsFound stood None = Unit {0}
IsFound stood (Some found) = Some found ≡ stood

-- What a start may find of a store in which these bytes stood, where those were to be appended when it was lost, or when an append
-- failed: a beginning of them after what stood.
pub record MayBeFound (stood under_way found : List ℕ) : Type 0 where
  pub part : List ℕ
  pub rest : List ℕ
  pub begins : under_way ≡ part ++ rest
  pub after : found ≡ stood ++ part

-- the same, where both are known
abbrev pub Finds : Option (List ℕ) → List ℕ → Option (List ℕ) → Type 0
Finds None bytes found = Unit {0}
Finds (Some stood) bytes None = Unit {0}
Finds (Some stood) bytes (Some found) = MayBeFound stood bytes found

-- a store in a file: what stands, what was written to the file, where its type tells that, and whether an append failed
pub record Filed : Type 0 where
  pub stood : List ℕ
  pub written : Option (List ℕ)
  pub failed : Bool

-- a store in memory: what stands, what is found after it, and whether an append failed
pub record Kept : Type 0 where
  pub stood : List ℕ
  pub torn : List ℕ
  pub failed : Bool
