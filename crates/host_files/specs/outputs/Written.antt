-- What a call does to the files that were written, each with its name and its text, where these are known.
use Rattle.std.specs.Prelude.{◌≡◌, ℕ, List, ◌++◌, Option, Some, None}

-- the files that were written whole stay as they were, where they are known
abbrev pub KeepsFiles : Option (List (List ℕ × List ℕ)) → Option (List (List ℕ × List ℕ)) → Type 0
KeepsFiles None new = Unit {0}
KeepsFiles (Some files) new = new ≡ Some files

-- they stay, where they are known, and then come these
abbrev pub AddsFiles : Option (List (List ℕ × List ℕ)) → Option (List (List ℕ × List ℕ)) → List (List ℕ × List ℕ) → Type 0
AddsFiles None new more = Unit {0}
AddsFiles (Some files) new more = new ≡ Some (files ++ more)
