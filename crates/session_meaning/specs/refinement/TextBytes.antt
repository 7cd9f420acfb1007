-- The bytes of the texts of nodes and of expressions.
use Rattle.std.specs.Prelude.{ℕ, ◌+◌, List, [], ◌∷◌, length}
use Rattle.bottle_values.specs.declared.Value.{Value}
use Rattle.bottle_values.specs.declared.Value.TheVariants.{Number, Text}
use Rattle.session_meaning.specs.declared.node.Node.{Node}
use Rattle.session_meaning.specs.declared.node.Node.TheVariants.{Literal, Variable, Read, Negate, Apply}
use Rattle.session_meaning.specs.Tree.{Term, Constant, Var, ReadOf, Neg, Bin}

abbrev pub value_bytes : Value → ℕ
value_bytes (Number z) = 0
value_bytes (Text t) = length t

abbrev pub node_bytes : Node → ℕ
node_bytes (Literal v) = value_bytes v
node_bytes (Variable k) = 0
node_bytes (Read r) = 0
node_bytes Negate = 0
node_bytes (Apply o) = 0

abbrev pub nodes_bytes : List Node → ℕ
nodes_bytes [] = 0
nodes_bytes (n ∷ ns) = node_bytes n + nodes_bytes ns

abbrev pub term_bytes : Term → ℕ
term_bytes (Constant v) = value_bytes v
term_bytes (Var k) = 0
term_bytes (ReadOf r) = 0
term_bytes (Neg e) = term_bytes e
term_bytes (Bin o a b) = term_bytes a + term_bytes b
