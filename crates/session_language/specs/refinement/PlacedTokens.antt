-- Tokens with their names in their places, and those of the code.
use Rattle.std.specs.Prelude.{pos, Bool, unwrap_or}
use Rattle.bottle_values.specs.declared.Value.TheVariants.{Number, Text}
use Rattle.session_meaning.specs.declared.node.Node.{Node}
use Rattle.session_meaning.specs.declared.node.Node.TheVariants.{Literal, Variable, Read}
use Rattle.session_language.specs.declared.leaf.Leaf.{Leaf}
use Rattle.session_language.specs.declared.leaf.Leaf.TheVariants as leaves
use Rattle.session_language.specs.declared.builder.Element as code
use Rattle.session_language.specs.declared.builder.Element.TheVariants as elements
use Rattle.session_language.specs.declared.names.Placed as code_placed
use Rattle.session_language.specs.Spelling as spelling
use Rattle.session_language.specs.Names.{Scope, variable_named, record_of, token_variable, token_record}

-- the node of an operand, in which an unknown name is at place 0
abbrev pub node_of : Scope → spelling.Operand → Node
node_of s (spelling.ANumber n) = Literal (Number (pos n))
node_of s (spelling.AText t) = Literal (Text t)
node_of s (spelling.AVariable name) = Variable (unwrap_or (variable_named s name) 0)
node_of s (spelling.ARecord name) = Read (unwrap_or (record_of s name) 0)

-- what the builder is handed
pub data Element : Type 0 where
  Operand : (n : Node) → Element
  Plus : Element
  Minus : Element
  Times : Element
  Open : Element
  Close : Element

-- a token with its name in its place
abbrev pub element_of : Scope → spelling.Token → Element
element_of s (spelling.Leaf x) = Operand (node_of s x)
element_of s spelling.Plus = Plus
element_of s spelling.Minus = Minus
element_of s spelling.Times = Times
element_of s spelling.Open = Open
element_of s spelling.Close = Close

-- all that the code keeps of a token
pub record Placed : Type 0 where
  pub element : Element
  pub knows_variable : Bool
  pub knows_record : Bool

-- which that is
abbrev pub placed_of : Scope → spelling.Token → Placed
placed_of s t = record { element = element_of s t; knows_variable = token_variable s t; knows_record = token_record s t }

-- the node of a leaf of the code
abbrev pub leaf_node : Leaf → Node
leaf_node (leaves.Number n) = Literal (Number (pos n.value))
leaf_node (leaves.Variable place) = Variable place
leaf_node (leaves.Read r) = Read r

-- a token of the code as one of these
abbrev pub seen_element : code.Element → Element
seen_element (elements.Operand x) = Operand (leaf_node x)
seen_element elements.Plus = Plus
seen_element elements.Minus = Minus
seen_element elements.Times = Times
seen_element elements.Open = Open
seen_element elements.Close = Close

-- and what it keeps of one
abbrev pub seen_placed : code_placed.Placed → Placed
seen_placed p = record { element = seen_element p.element; knows_variable = p.knows_variable; knows_record = p.knows_record }
