-- The bytes of an expression's texts are those of its nodes.
use Rattle.std.proofs.Common.{◌≡◌, ℕ, ◌+◌, List, [], ◌∷◌, ◌++◌, refl, arith}
use Rattle.session_meaning.specs.declared.node.Node.{Node}
use Rattle.session_meaning.specs.declared.node.Node.TheVariants.{Negate, Apply}
use Rattle.session_meaning.specs.Tree.{Term, Constant, Var, ReadOf, Neg, Bin}
use Rattle.session_meaning.specs.refinement.Postfix.{postfix}
use Rattle.session_meaning.specs.refinement.TextBytes.{node_bytes, nodes_bytes, term_bytes}

nodes_bytes-append : (xs ys : List Node) → nodes_bytes (xs ++ ys) ≡ nodes_bytes xs + nodes_bytes ys
nodes_bytes-append [] ys = omega arith
nodes_bytes-append (x ∷ xs) ys = omega (arith, nodes_bytes-append xs ys)

pub bytes_are : (e : Term) → nodes_bytes (postfix e) ≡ term_bytes e
bytes_are (Constant v) = omega arith
bytes_are (Var k) = omega arith
bytes_are (ReadOf r) = omega arith
bytes_are (Neg e) = omega (arith, nodes_bytes-append (postfix e) (Negate ∷ []), bytes_are e)
bytes_are (Bin o a b) = omega (arith, nodes_bytes-append (postfix a) (postfix b ++ Apply o ∷ []), nodes_bytes-append (postfix b) (Apply o ∷ []), bytes_are a, bytes_are b)
