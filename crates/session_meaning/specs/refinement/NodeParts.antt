-- What a node is, but for a text's bytes.
use Rattle.std.specs.Prelude.{◌≡◌, ℕ, List, Option, Some}
use Rattle.bottle_values.specs.declared.Value.TheVariants as bottle
use Rattle.session_meaning.specs.declared.node.Node.{Node}
use Rattle.session_meaning.specs.declared.node.Node.TheVariants.{Literal, Variable, Read, Negate, Apply}
use Rattle.session_meaning.specs.declared.part.Part.{Part}
use Rattle.session_meaning.specs.declared.part.Part.TheVariants as part

-- there is a node, and it is this part
abbrev pub IsPart : Option Node → Part → Type 0
IsPart n (part.Number z) = n ≡ Some (Literal (bottle.Number z))
IsPart n part.Text = (t : List ℕ) × (n ≡ Some (Literal (bottle.Text t)))
IsPart n (part.Variable place) = n ≡ Some (Variable place)
IsPart n (part.Read r) = n ≡ Some (Read r)
IsPart n part.Negate = n ≡ Some Negate
IsPart n (part.Apply o) = n ≡ Some (Apply o)
