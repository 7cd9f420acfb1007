-- The grammar of expressions: which tokens spell which tree, and how deep. There is no limit here. An operand is 1
-- deep; an operator or a leading minus 1 more than its deepest operand; parentheses 1 more than what they hold.
use Rattle.std.specs.Prelude.{ℕ, suc, max, List, [], ◌∷◌, ◌++◌}
use Rattle.session_meaning.specs.declared.node.Operator.TheVariants as op
use Rattle.session_language.specs.Spelling.{Operand, Spelled, Plain, Negative, Binary, Token, Leaf, Plus, Minus, Times, Open, Close}

mutual
  -- tokens that spell an operand, a leading minus and a factor, or an expression in parentheses
  pub data IsFactor : List Token → Spelled → ℕ → Type 0 where
    operand : (x : Operand) → IsFactor (Leaf x ∷ []) (Plain x) 1
    negative : (ts : List Token) (e : Spelled) (d : ℕ) → IsFactor ts e d → IsFactor (Minus ∷ ts) (Negative e) (suc d)
    enclosed : (ts : List Token) (e : Spelled) (d : ℕ) → IsExpr ts e d → IsFactor (Open ∷ (ts ++ Close ∷ [])) e (suc d)

  -- tokens that spell factors with `*` between them, which binds to the left
  pub data IsProduct : List Token → Spelled → ℕ → Type 0 where
    one : (ts : List Token) (e : Spelled) (d : ℕ) → IsFactor ts e d → IsProduct ts e d
    star : (ts us : List Token) (x y : Spelled) (c d : ℕ) → IsProduct ts x c → IsFactor us y d → IsProduct (ts ++ Times ∷ us) (Binary op.Times x y) (suc (max c d))

  -- tokens that spell products with `+` and `-` between them, which bind to the left
  pub data IsExpr : List Token → Spelled → ℕ → Type 0 where
    alone : (ts : List Token) (e : Spelled) (d : ℕ) → IsProduct ts e d → IsExpr ts e d
    plus : (ts us : List Token) (x y : Spelled) (c d : ℕ) → IsExpr ts x c → IsProduct us y d → IsExpr (ts ++ Plus ∷ us) (Binary op.Plus x y) (suc (max c d))
    minus : (ts us : List Token) (x y : Spelled) (c d : ℕ) → IsExpr ts x c → IsProduct us y d → IsExpr (ts ++ Minus ∷ us) (Binary op.Minus x y) (suc (max c d))
