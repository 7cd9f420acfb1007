-- Where the last expression of a list in postfix order begins.
use Rattle.std.specs.Prelude.{ℕ, zero, suc, List, [], ◌∷◌}
use Rattle.session_meaning.specs.declared.node.Node.{Node}
use Rattle.session_meaning.specs.declared.node.Node.TheVariants.{Literal, Variable, Read, Negate, Apply}

-- what is left of a reversed list after n expressions
abbrev pub after_back : ℕ → List Node → List Node
after_back zero ns = ns
after_back (suc n) [] = []
after_back (suc n) (Literal v ∷ ns) = after_back n ns
after_back (suc n) (Variable k ∷ ns) = after_back n ns
after_back (suc n) (Read r ∷ ns) = after_back n ns
after_back (suc n) (Negate ∷ ns) = after_back (suc n) ns
after_back (suc n) (Apply o ∷ ns) = after_back (suc (suc n)) ns
