-- Maps from numbers, as functions, and lists of numbers with what a map has there.
use Rattle.std.specs.Prelude.{ℕ, List, [], ◌∷◌, ◌==◌, if◌then◌else◌}

-- the map with one entry changed
abbrev pub put : {A : Type 0} → (ℕ → A) → ℕ → A → ℕ → A
put m r v j = if j == r then v else m j

-- these keys with their entries
abbrev pub reads_of : {A : Type 0} → List ℕ → (ℕ → A) → List (ℕ × A)
reads_of [] m = []
reads_of (r ∷ rest) m = (r, m r) ∷ reads_of rest m

-- the map after these writes, in order
abbrev pub write_all : {A : Type 0} → List (ℕ × A) → (ℕ → A) → ℕ → A
write_all [] m = m
write_all (w ∷ rest) m = write_all rest (put m w.0 w.1)
