-- The nodes that an expression keeps.
use Rattle.std.specs.Prelude.{List, [], map}
use Rattle.session_meaning.specs.declared.node.Node.{Node}
use Rattle.session_meaning.specs.declared.kept_nodes.KeptNodes.{KeptNodes}
use Rattle.session_meaning.specs.declared.kept_nodes.KeptNodes.TheVariants.{One, Several, Texts}
use Rattle.session_meaning.specs.refinement.KeptNode.{node_of}

-- the nodes of an expression, in each of the forms in which it keeps them
abbrev pub nodes_in : KeptNodes → List Node
nodes_in (One nodes) = map (node_of []) nodes
nodes_in (Several nodes) = map (node_of []) nodes.items
nodes_in (Texts list) = list.value
