-- Lists of entries, each with the tag of the pass that made it.
use Rattle.std.specs.Prelude.{◌≡◌, ℕ, ◌==◌, nat_lt, List, [], ◌∷◌, ◌++◌, length, filter, if◌then◌else◌}
use mathlib.Core.List.{IsPrefix}

-- P holds of each
abbrev pub Every : {A : Type 0} → (A → Type 0) → List A → Type 0
Every P [] = Unit {0}
Every P (x ∷ xs) = P x × Every P xs

-- the longer of two lists; of two that are as long, the first
abbrev pub longer : {A : Type 0} → List A → List A → List A
longer xs ys = if nat_lt (length xs) (length ys) then ys else xs

module _ {E : Type 0} (tag_of : E → ℕ) where
  -- the entries with one tag, in order
  abbrev pub tagged : ℕ → List E → List E
  tagged t es = filter (λ e. tag_of e == t) es

  -- the new list is the old one with more entries at its end, all of this tag
  abbrev pub AddsOnly : ℕ → List E → List E → Type 0
  AddsOnly t old new = (added : List E) × (old ++ added ≡ new) × Every (λ e. tag_of e ≡ t) added

module _ {S K E : Type 0} (key : S → K) (entries : S → List E) where
  -- the newer state has the older one's key, and its entries begin with the older one's
  abbrev pub Extends : S → S → Type 0
  Extends older newer = (key newer ≡ key older) × IsPrefix (entries older) (entries newer)

  -- every state extends itself
  abbrev pub ExtendingIsReflexive : Type 0
  ExtendingIsReflexive = (x : S) → Extends x x

  -- a state that extends another extends each that this one extends
  abbrev pub ExtendingIsTransitive : Type 0
  ExtendingIsTransitive = (x y z : S) → Extends x y → Extends y z → Extends x z
