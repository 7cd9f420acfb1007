-- A node as an expression keeps it.
use Rattle.std.specs.Prelude.{ℕ, ◌+◌, ◌≤◌, List, [], take, drop, if◌then◌else◌}
use Rattle.bottle_values.specs.declared.Value.TheVariants as bottle
use Rattle.bottle_values.specs.Texts.{is_text}
use Rattle.session_meaning.specs.declared.node.Node.{Node}
use Rattle.session_meaning.specs.declared.node.Node.TheVariants.{Literal, Variable, Read, Negate, Apply}
use Rattle.session_meaning.specs.declared.kept.Kept.{Kept}
use Rattle.session_meaning.specs.declared.kept.Kept.TheVariants as kept

-- the bytes, where they are a text
abbrev pub text_or_none : List ℕ → List ℕ
text_or_none bytes = if is_text bytes then bytes else []

-- the text of so many bytes from a place on
abbrev pub text_in : List ℕ → ℕ → ℕ → List ℕ
text_in bytes start len = text_or_none (take len (drop start bytes))

-- what a node is that is kept, with these bytes beside it
abbrev pub node_of : List ℕ → Kept → Node
node_of bytes (kept.Number z) = Literal (bottle.Number z)
node_of bytes (kept.Text start len) = Literal (bottle.Text (text_in bytes start len))
node_of bytes (kept.Variable place) = Variable place
node_of bytes (kept.Read r) = Read r
node_of bytes kept.Negate = Negate
node_of bytes (kept.Apply o) = Apply o

-- a text lies within so many bytes
abbrev pub IsWithin : ℕ → Kept → Type 0
IsWithin n (kept.Number z) = Unit {0}
IsWithin n (kept.Text start len) = start + len ≤ n
IsWithin n (kept.Variable place) = Unit {0}
IsWithin n (kept.Read r) = Unit {0}
IsWithin n kept.Negate = Unit {0}
IsWithin n (kept.Apply o) = Unit {0}
