-- The canonical tokens of an expression: they spell it, and no tokens that spell it are less deep.
use Rattle.std.proofs.Common.{◌≤◌, ℕ, suc, List, [], ◌∷◌, ◌++◌, arith}
use Rattle.bottle_values.specs.declared.Value.{Value}
use Rattle.bottle_values.specs.declared.Value.TheVariants.{Number, Text}
use Rattle.session_meaning.specs.declared.node.Operator.TheVariants as op
use Rattle.session_programs.specs.declared.rank.Rank.{Rank}
use Rattle.session_programs.specs.declared.rank.Rank.TheVariants.{Factor, Product, Sum}
use Rattle.session_meaning.specs.Tree.{Term, Constant, Var, ReadOf, Neg, Bin}
use Rattle.session_language.specs.Spelling.{Operand, ANumber, AText, AVariable, ARecord, Spelled, Plain, Negative, Binary, Token, Leaf, Plus, Minus, Times, Open, Close}
use Rattle.session_language.specs.Grammar.{IsFactor, IsProduct, IsExpr, operand, negative, enclosed, one, star, alone, plus, minus}
use Rattle.session_language.specs.Names.{Scope, placed}
use Rattle.session_language.specs.Phrase.{Phrase}
use Rattle.session_programs.specs.Text.{Words, variable_name, magnitude, rank_of}
use Rattle.session_programs.specs.WellFormed.{factor_depth, product_depth, depth}

abbrev pub enclose : List Token → List Token
enclose ts = Open ∷ (ts ++ Close ∷ [])

abbrev pub factor_tokens : Rank → List Token → List Token
factor_tokens Factor ts = ts
factor_tokens Product ts = enclose ts
factor_tokens Sum ts = enclose ts

abbrev pub product_tokens : Rank → List Token → List Token
product_tokens Factor ts = ts
product_tokens Product ts = ts
product_tokens Sum ts = enclose ts

-- a literal as a token
abbrev pub said : Value → Operand
said (Number z) = ANumber (magnitude z)
said (Text t) = AText t

abbrev pub spelled : Words → Term → Spelled
spelled w (Constant v) = Plain (said v)
spelled w (Var k) = Plain (AVariable (variable_name w k))
spelled w (ReadOf r) = Plain (ARecord (w.record_name r))
spelled w (Neg e) = Negative (spelled w e)
spelled w (Bin o a b) = Binary o (spelled w a) (spelled w b)

abbrev pub tokens : Words → Term → List Token
tokens w (Constant v) = Leaf (said v) ∷ []
tokens w (Var k) = Leaf (AVariable (variable_name w k)) ∷ []
tokens w (ReadOf r) = Leaf (ARecord (w.record_name r)) ∷ []
tokens w (Neg e) = Minus ∷ factor_tokens (rank_of e) (tokens w e)
tokens w (Bin op.Times a b) = product_tokens (rank_of a) (tokens w a) ++ Times ∷ factor_tokens (rank_of b) (tokens w b)
tokens w (Bin op.Plus a b) = tokens w a ++ Plus ∷ product_tokens (rank_of b) (tokens w b)
tokens w (Bin op.Minus a b) = tokens w a ++ Minus ∷ product_tokens (rank_of b) (tokens w b)

-- what an expression is read as
abbrev pub phrase : Words → Term → Phrase
phrase w e = record { tokens = tokens w e; tree = spelled w e; depth = depth e }

module _ (w : Words) where
  -- a tree and its tokens, at the rank that it needs no parentheses for
  abbrev AtRank : Rank → Term → Type 0
  AtRank Factor e = IsFactor (tokens w e) (spelled w e) (depth e)
  AtRank Product e = IsProduct (tokens w e) (spelled w e) (depth e)
  AtRank Sum e = IsExpr (tokens w e) (spelled w e) (depth e)

  factor : (r : Rank) (e : Term) → AtRank r e → IsFactor (factor_tokens r (tokens w e)) (spelled w e) (factor_depth r (depth e))
  factor Factor e h = h
  factor Product e h = enclosed _ _ _ (alone _ _ _ h)
  factor Sum e h = enclosed _ _ _ h

  product : (r : Rank) (e : Term) → AtRank r e → IsProduct (product_tokens r (tokens w e)) (spelled w e) (product_depth r (depth e))
  product Factor e h = one _ _ _ h
  product Product e h = h
  product Sum e h = one _ _ _ (enclosed _ _ _ h)

  expr : (r : Rank) (e : Term) → AtRank r e → IsExpr (tokens w e) (spelled w e) (depth e)
  expr Factor e h = alone _ _ _ (one _ _ _ h)
  expr Product e h = alone _ _ _ h
  expr Sum e h = h

  own : (e : Term) → AtRank (rank_of e) e
  own (Constant v) = operand (said v)
  own (Var k) = operand (AVariable (variable_name w k))
  own (ReadOf r) = operand (ARecord (w.record_name r))
  own (Neg e) = negative _ _ _ (factor (rank_of e) e (own e))
  own (Bin op.Times a b) = star _ _ _ _ _ _ (product (rank_of a) a (own a)) (factor (rank_of b) b (own b))
  own (Bin op.Plus a b) = plus _ _ _ _ _ _ (expr (rank_of a) a (own a)) (product (rank_of b) b (own b))
  own (Bin op.Minus a b) = minus _ _ _ _ _ _ (expr (rank_of a) a (own a)) (product (rank_of b) b (own b))

  pub is_spelled : (e : Term) → IsExpr (tokens w e) (spelled w e) (depth e)
  is_spelled e = expr (rank_of e) e (own e)

factor-le : (r : Rank) (d : ℕ) → factor_depth r d ≤ suc d
factor-le Factor d = omega arith
factor-le Product d = omega arith
factor-le Sum d = omega arith

product-le : (r : Rank) (d : ℕ) → product_depth r d ≤ factor_depth r d
product-le Factor d = omega arith
product-le Product d = omega arith
product-le Sum d = omega arith

expr-le : (r : Rank) (d : ℕ) → d ≤ product_depth r d
expr-le Factor d = omega arith
expr-le Product d = omega arith
expr-le Sum d = omega arith

module _ (s : Scope) where
  abbrev least : Spelled → ℕ
  least e = depth (placed s e)

  abbrev rank : Spelled → Rank
  rank e = rank_of (placed s e)

  leaf_least : (x : Operand) → factor_depth (rank (Plain x)) (least (Plain x)) ≤ 1
  leaf_least (ANumber n) = omega arith
  leaf_least (AText t) = omega arith
  leaf_least (AVariable name) = omega arith
  leaf_least (ARecord name) = omega arith

  mutual
    factor_least : (ts : List Token) (e : Spelled) (d : ℕ) → IsFactor ts e d → factor_depth (rank e) (least e) ≤ d
    factor_least _ _ _ (operand x) = leaf_least x
    factor_least _ _ _ (negative ts e d f) = let h = factor_least ts e d f in omega arith
    factor_least _ _ _ (enclosed ts e d x) = let h = expr_least ts e d x in let k = factor-le (rank e) (least e) in omega arith

    product_least : (ts : List Token) (e : Spelled) (d : ℕ) → IsProduct ts e d → product_depth (rank e) (least e) ≤ d
    product_least _ _ _ (one ts e d f) = let h = factor_least ts e d f in let k = product-le (rank e) (least e) in omega arith
    product_least _ _ _ (star ts us x y c d p f) = let h = product_least ts x c p in let k = factor_least us y d f in omega arith

    pub expr_least : (ts : List Token) (e : Spelled) (d : ℕ) → IsExpr ts e d → least e ≤ d
    expr_least _ _ _ (alone ts e d p) = let h = product_least ts e d p in let k = expr-le (rank e) (least e) in omega arith
    expr_least _ _ _ (plus ts us x y c d e p) = let h = expr_least ts x c e in let k = product_least us y d p in omega arith
    expr_least _ _ _ (minus ts us x y c d e p) = let h = expr_least ts x c e in let k = product_least us y d p in omega arith
