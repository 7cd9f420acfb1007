-- Which nodes a session of version 1 has.
use Rattle.std.specs.Prelude.{Bool, true}
use Rattle.bottle_values.specs.Values.{is_number}
use Rattle.session_meaning.specs.declared.node.Node.{Node}
use Rattle.session_meaning.specs.declared.node.Node.TheVariants.{Literal, Variable, Read, Negate, Apply}

abbrev pub node_fits : Node → Bool
node_fits (Literal v) = is_number v
node_fits (Variable k) = true
node_fits (Read r) = true
node_fits Negate = true
node_fits (Apply o) = true
