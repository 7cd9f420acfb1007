-- How many bytes the texts of expressions have that wait for the operator over them, and how tightly each binds.
use Rattle.std.specs.Prelude.{ℕ, ◌+◌, List, [], ◌∷◌, ◌++◌, length}
use Rattle.session_meaning.specs.declared.node.Operator.{Operator}
use Rattle.session_meaning.specs.declared.node.Operator.TheVariants as op
use Rattle.session_programs.specs.declared.rank.Rank.{Rank}
use Rattle.session_programs.specs.declared.rank.Rank.TheVariants.{Factor, Product, Sum}
use Rattle.session_meaning.specs.Tree.{Term}
use Rattle.session_programs.specs.Text.{Words, rank_of, term_text}

-- the last one at the end
abbrev pub ranks_of : List Term → List Rank
ranks_of [] = []
ranks_of (e ∷ st) = ranks_of st ++ rank_of e ∷ []

abbrev pub bytes_of : Words → List Term → ℕ
bytes_of w [] = 0
bytes_of w (e ∷ st) = length (term_text w e) + bytes_of w st

-- the parentheses around an operand that must be a factor, or a product
abbrev pub around_factor : Rank → ℕ
around_factor Factor = 0
around_factor Product = 2
around_factor Sum = 2

abbrev pub around_product : Rank → ℕ
around_product Factor = 0
around_product Product = 0
around_product Sum = 2

abbrev pub around_both : Operator → Rank → Rank → ℕ
around_both op.Plus left right = around_product right
around_both op.Minus left right = around_product right
around_both op.Times left right = around_product left + around_factor right
