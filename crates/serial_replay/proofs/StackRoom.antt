-- An expression finds room on the stack: no more values stand below the top than it is deep.
use Rattle.std.proofs.Common.{◌≡◌, ℕ, suc, ◌+◌, ◌-◌, ◌<◌, ◌≤◌, max, List, [], ◌∷◌, ◌++◌, sym, ap, subst, ◌∙◌, arith, append_assoc, append-nil}
use Rattle.session_meaning.specs.declared.node.Node.{Node}
use Rattle.session_meaning.specs.declared.node.Node.TheVariants.{Literal, Variable, Read, Negate, Apply}
use Rattle.session_meaning.specs.declared.node.Operator.{Operator}
use Rattle.session_meaning.specs.declared.node.Operator.TheVariants.{Plus, Minus, Times}
use Rattle.session_meaning.specs.Tree.{Term, Constant, Var, ReadOf, Neg, Bin}
use Rattle.session_meaning.specs.refinement.Postfix.{postfix}
use Rattle.session_programs.specs.declared.rank.Rank.{Rank}
use Rattle.session_programs.specs.declared.rank.Rank.TheVariants.{Factor, Product, Sum}
use Rattle.session_programs.specs.Text.{rank_of}
use Rattle.session_programs.specs.WellFormed.{factor_depth, product_depth, depth}
use Rattle.session_programs.specs.Limits.{most_depth}

-- Where k values stand below the top, each operand has room to put the top away, and each operator finds a value there.
abbrev pub FindRoom : List Node → ℕ → Type 0
FindRoom [] k = Unit {0}
FindRoom (Literal v ∷ ns) k = (k < most_depth) × FindRoom ns (k + 1)
FindRoom (Variable i ∷ ns) k = (k < most_depth) × FindRoom ns (k + 1)
FindRoom (Read r ∷ ns) k = (k < most_depth) × FindRoom ns (k + 1)
FindRoom (Negate ∷ ns) k = FindRoom ns k
FindRoom (Apply o ∷ ns) k = (0 < k) × FindRoom ns (k - 1)

factor_more : (r : Rank) (d : ℕ) → d ≤ factor_depth r d
factor_more Factor d = omega arith
factor_more Product d = omega arith
factor_more Sum d = omega arith

product_more : (r : Rank) (d : ℕ) → d ≤ product_depth r d
product_more Factor d = omega arith
product_more Product d = omega arith
product_more Sum d = omega arith

both_below : (a b c d : ℕ) → a ≤ c → b ≤ d → (a < suc (max c d)) × (b < suc (max c d))
both_below a b c d h k = (omega arith, omega arith)

-- an operand is less deep
operands_below : (o : Operator) (a b : Term) → (depth a < depth (Bin o a b)) × (depth b < depth (Bin o a b))
operands_below Plus a b = both_below (depth a) (depth b) (depth a) (product_depth (rank_of b) (depth b)) (omega arith) (product_more (rank_of b) (depth b))
operands_below Minus a b = both_below (depth a) (depth b) (depth a) (product_depth (rank_of b) (depth b)) (omega arith) (product_more (rank_of b) (depth b))
operands_below Times a b =
    both_below (depth a) (depth b) (product_depth (rank_of a) (depth a)) (factor_depth (rank_of b) (depth b)) (product_more (rank_of a) (depth a)) (factor_more (rank_of b) (depth b))

before_more : (e : Term) (rest : List Node) (k : ℕ) → k + depth e ≤ most_depth → FindRoom rest (k + 1) → FindRoom (postfix e ++ rest) k
before_more (Constant v) rest k h next = (omega (arith, h), next)
before_more (Var i) rest k h next = (omega (arith, h), next)
before_more (ReadOf r) rest k h next = (omega (arith, h), next)
before_more (Neg e) rest k h next =
    let less = factor_more (rank_of e) (depth e) in
    subst (λ ns. FindRoom ns k) (sym (append_assoc (postfix e) (Negate ∷ []) rest)) (before_more e (Negate ∷ rest) k (omega (arith, h, less)) next)
before_more (Bin o a b) rest k h next =
    let less = operands_below o a b in
    let same : k + 1 ≡ k + 1 + 1 - 1 = omega arith in
    let second = before_more b (Apply o ∷ rest) (k + 1) (omega (arith, h, less.1)) (omega arith, subst (λ j. FindRoom rest j) same next) in
    subst (λ ns. FindRoom ns k) (sym (append_assoc (postfix a) (postfix b ++ Apply o ∷ []) rest ∙ ap (λ ns. postfix a ++ ns) (append_assoc (postfix b) (Apply o ∷ []) rest)))
    (before_more a (postfix b ++ Apply o ∷ rest) k (omega (arith, h, less.0)) second)

pub finds_room : (e : Term) → depth e ≤ most_depth → FindRoom (postfix e) 0
finds_room e h = subst (λ ns. FindRoom ns 0) (append-nil (postfix e)) (before_more e [] 0 (omega (arith, h)) tt)
