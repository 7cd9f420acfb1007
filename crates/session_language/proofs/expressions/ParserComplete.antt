-- What is in the grammar is read.
use Rattle.std.proofs.Common.{◌≡◌, ℕ, suc, List, [], ◌∷◌, ◌++◌, Option, Some, None, refl, sym, ap, ◌∙◌, append_assoc}
use Rattle.std.proofs.lemmas.List.{append-nil}
use Rattle.session_language.specs.Spelling.{Spelled, Token, Plus, Minus, Times, Close}
use Rattle.session_language.specs.Parse.{Part, Sum, NoSum, Added, Taken, Level, fresh, State, Wants, Has, in_parentheses, summed, take_operand, take_all, finished, read_part}
use Rattle.session_language.specs.Grammar.{IsFactor, IsProduct, IsExpr, operand, negative, enclosed, one, star, alone, plus, minus}

abbrev part : Spelled → ℕ → Part
part e d = record { tree = e; depth = d }

abbrev from : Sum → Level
from s = record { sum = s; product = None; minuses = 0 }

-- reading the tokens of an expression leaves its last product, after a sum
record Reads (ts : List Token) (x : Part) : Type 0 where
  sum : Sum
  last : Part
  is : summed sum last ≡ x
  taken : (outer : List Level) (rest : List Token) → take_all (Wants outer fresh) (ts ++ rest) ≡ take_all (Has outer sum last) rest

regroup : (s : State) (ts : List Token) (t : Token) (us rest : List Token) → take_all s ((ts ++ t ∷ us) ++ rest) ≡ take_all s (ts ++ t ∷ (us ++ rest))
regroup s ts t us rest = ap (take_all s) (append_assoc ts (t ∷ us) rest)

mutual
  factor_taken : (ts : List Token) (e : Spelled) (d : ℕ) → IsFactor ts e d → (outer : List Level) (l : Level) (rest : List Token) → take_all (Wants outer l) (ts ++ rest) ≡ take_all (take_operand outer l (part e d)) rest
  factor_taken _ _ _ (operand x) outer l rest = refl
  factor_taken _ _ _ (negative ts e d f) outer l rest = factor_taken ts e d f outer (record l { minuses = suc l.minuses }) rest
  factor_taken _ _ _ (enclosed ts e d x) outer l rest =
      let r : Reads ts (part e d) = expr_taken ts e d x in
      regroup (Wants (l ∷ outer) fresh) ts Close [] rest ∙ r.taken (l ∷ outer) (Close ∷ rest)
      ∙ ap (λ (y : Part). take_all (take_operand outer l (in_parentheses y)) rest) r.is

  product_taken : (ts : List Token) (e : Spelled) (d : ℕ) → IsProduct ts e d → (outer : List Level) (s : Sum) (rest : List Token) → take_all (Wants outer (from s)) (ts ++ rest) ≡ take_all (Has outer s (part e d)) rest
  product_taken _ _ _ (one ts e d f) outer s rest = factor_taken ts e d f outer (from s) rest
  product_taken _ _ _ (star ts us x y c d p f) outer s rest =
      regroup (Wants outer (from s)) ts Times us rest ∙ product_taken ts x c p outer s (Times ∷ (us ++ rest))
      ∙ factor_taken us y d f outer (record { sum = s; product = Some (part x c); minuses = 0 }) rest

  expr_taken : (ts : List Token) (e : Spelled) (d : ℕ) → IsExpr ts e d → Reads ts (part e d)
  expr_taken _ _ _ (alone ts e d p) = record { sum = NoSum; last = part e d; is = refl; taken = λ outer rest. product_taken ts e d p outer NoSum rest }
  expr_taken _ _ _ (plus ts us x y c d e p) =
      let r : Reads ts (part x c) = expr_taken ts x c e in record {
        sum = Added (part x c);
        last = part y d;
        is = refl;
        taken = λ outer rest.
            regroup (Wants outer fresh) ts Plus us rest ∙ r.taken outer (Plus ∷ (us ++ rest))
            ∙ ap (λ (z : Part). take_all (Wants outer (from (Added z))) (us ++ rest)) r.is ∙ product_taken us y d p outer (Added (part x c)) rest;
      }
  expr_taken _ _ _ (minus ts us x y c d e p) =
      let r : Reads ts (part x c) = expr_taken ts x c e in record {
        sum = Taken (part x c);
        last = part y d;
        is = refl;
        taken = λ outer rest.
            regroup (Wants outer fresh) ts Minus us rest ∙ r.taken outer (Minus ∷ (us ++ rest))
            ∙ ap (λ (z : Part). take_all (Wants outer (from (Taken z))) (us ++ rest)) r.is ∙ product_taken us y d p outer (Taken (part x c)) rest;
      }

-- all of the tokens
pub expression_read : (ts : List Token) (e : Spelled) (d : ℕ) → IsExpr ts e d → read_part ts ≡ Some (part e d)
expression_read ts e d x =
    let r : Reads ts (part e d) = expr_taken ts e d x in
    ap read_part (sym (append-nil ts)) ∙ ap finished (r.taken [] []) ∙ ap (λ (y : Part). Some y) r.is

-- tokens spell one tree at most, at one depth
pub one_tree : (ts : List Token) (e f : Spelled) (c d : ℕ) → IsExpr ts e c → IsExpr ts f d → (e ≡ f) × (c ≡ d)
one_tree ts e f c d x y =
    let both : ◌≡◌ {A = Option Part} (Some (part e c)) (Some (part f d)) = sym (expression_read ts e c x) ∙ expression_read ts f d y in
    let same : part e c ≡ part f d = (cc) in (ap (λ (p : Part). p.tree) same, ap (λ (p : Part). p.depth) same)
