-- Expressions in postfix order, each operator after its operands, and the tree that such a list gives back.
use Rattle.std.specs.Prelude.{◌≡◌, List, [], ◌∷◌, ◌++◌, refl}
use Rattle.std.proofs.Common.{ap, ◌∙◌}
use Rattle.session_meaning.specs.declared.node.Node.{Node}
use Rattle.session_meaning.specs.declared.node.Node.TheVariants.{Literal, Variable, Read, Negate, Apply}
use Rattle.session_meaning.specs.Tree.{Term, Constant, Var, ReadOf, Neg, Bin}
use Rattle.bottle_values.specs.Operations.{nought}

abbrev pub postfix : Term → List Node
postfix (Constant v) = Literal v ∷ []
postfix (Var k) = Variable k ∷ []
postfix (ReadOf r) = Read r ∷ []
postfix (Neg e) = postfix e ++ Negate ∷ []
postfix (Bin o a b) = postfix a ++ (postfix b ++ Apply o ∷ [])

-- one node on the trees of those before it, the last one first
abbrev pub push_node : Node → List Term → List Term
push_node (Literal v) st = Constant v ∷ st
push_node (Variable k) st = Var k ∷ st
push_node (Read r) st = ReadOf r ∷ st
push_node Negate (e ∷ st) = Neg e ∷ st
push_node Negate [] = []
push_node (Apply o) (b ∷ a ∷ st) = Bin o a b ∷ st
push_node (Apply o) (b ∷ []) = []
push_node (Apply o) [] = []

abbrev pub push_nodes : List Node → List Term → List Term
push_nodes [] st = st
push_nodes (n ∷ ns) st = push_nodes ns (push_node n st)

abbrev pub last_of : List Term → Term
last_of [] = Constant nought
last_of (e ∷ st) = e

-- the tree of a list in postfix order
abbrev pub tree_of : List Node → Term
tree_of nodes = last_of (push_nodes nodes [])

pub push_nodes-append : (xs ys : List Node) (st : List Term) → push_nodes (xs ++ ys) st ≡ push_nodes ys (push_nodes xs st)
push_nodes-append [] ys st = refl
push_nodes-append (x ∷ xs) ys st = push_nodes-append xs ys (push_node x st)

pub push_nodes-postfix : (e : Term) (st : List Term) → push_nodes (postfix e) st ≡ e ∷ st
push_nodes-postfix (Constant n) st = refl
push_nodes-postfix (Var k) st = refl
push_nodes-postfix (ReadOf r) st = refl
push_nodes-postfix (Neg e) st = push_nodes-append (postfix e) (Negate ∷ []) st ∙ ap (push_nodes (Negate ∷ [])) (push_nodes-postfix e st)
push_nodes-postfix (Bin o a b) st =
    push_nodes-append (postfix a) (postfix b ++ Apply o ∷ []) st ∙ ap (push_nodes (postfix b ++ Apply o ∷ [])) (push_nodes-postfix a st)
    ∙ push_nodes-append (postfix b) (Apply o ∷ []) (a ∷ st) ∙ ap (push_nodes (Apply o ∷ [])) (push_nodes-postfix b (a ∷ st))

pub tree_of-postfix : (e : Term) → tree_of (postfix e) ≡ e
tree_of-postfix e = ap last_of (push_nodes-postfix e [])

-- the list is that of a tree
abbrev pub IsPostfix : List Node → Type 0
IsPostfix nodes = postfix (tree_of nodes) ≡ nodes
