-- Reading an expression token by token, with a stack of the parentheses that are open.
use Rattle.std.specs.Prelude.{ℕ, zero, suc, max, List, [], ◌∷◌, Option, Some, None}
use Rattle.session_meaning.specs.declared.node.Operator.{Operator}
use Rattle.session_meaning.specs.declared.node.Operator.TheVariants as op
use Rattle.session_language.specs.Spelling.{Operand, Spelled, Plain, Negative, Binary, Token, Leaf, Plus, Minus, Times, Open, Close}

-- a tree, and how deep its text is
pub record Part : Type 0 where
  pub tree : Spelled
  pub depth : ℕ

abbrev pub leaf : Operand → Part
leaf x = record { tree = Plain x; depth = 1 }

abbrev pub leading_minus : Part → Part
leading_minus x = record { tree = Negative x.tree; depth = suc x.depth }

abbrev pub in_parentheses : Part → Part
in_parentheses x = record { tree = x.tree; depth = suc x.depth }

abbrev pub joined : Operator → Part → Part → Part
joined o x y = record { tree = Binary o x.tree y.tree; depth = suc (max x.depth y.depth) }

-- the left operand of a sign, with the sign
pub data Sum : Type 0 where
  NoSum : Sum
  Added : (x : Part) → Sum
  Taken : (x : Part) → Sum

-- What stands before an operand since the last open parenthesis: a sum and its sign, a product and its star, and
-- leading minuses.
pub record Level : Type 0 where
  pub sum : Sum
  pub product : Option Part
  pub minuses : ℕ

abbrev pub after_sign : Sum → Level
after_sign s = record { sum = s; product = None; minuses = 0 }

abbrev pub fresh : Level
fresh = after_sign NoSum

-- An operand is wanted; or one is complete, and an operator, a parenthesis or the end is. Levels outside, innermost
-- first.
pub data State : Type 0 where
  Wants : (outer : List Level) (here : Level) → State
  Has : (outer : List Level) (sum : Sum) (product : Part) → State

abbrev pub negated : ℕ → Part → Part
negated zero x = x
negated (suc n) x = negated n (leading_minus x)

abbrev pub multiplied : Option Part → Part → Part
multiplied None y = y
multiplied (Some x) y = joined op.Times x y

abbrev pub summed : Sum → Part → Part
summed NoSum y = y
summed (Added x) y = joined op.Plus x y
summed (Taken x) y = joined op.Minus x y

abbrev pub take_operand : List Level → Level → Part → State
take_operand outer l x = Has outer l.sum (multiplied l.product (negated l.minuses x))

abbrev pub take : State → Token → Option State
take (Wants outer l) (Leaf x) = Some (take_operand outer l (leaf x))
take (Wants outer l) Minus = Some (Wants outer (record l { minuses = suc l.minuses }))
take (Wants outer l) Open = Some (Wants (l ∷ outer) fresh)
take (Wants outer l) Plus = None
take (Wants outer l) Times = None
take (Wants outer l) Close = None
take (Has outer s x) Plus = Some (Wants outer (after_sign (Added (summed s x))))
take (Has outer s x) Minus = Some (Wants outer (after_sign (Taken (summed s x))))
take (Has outer s x) Times = Some (Wants outer (record { sum = s; product = Some x; minuses = 0 }))
take (Has (l ∷ outer) s x) Close = Some (take_operand outer l (in_parentheses (summed s x)))
take (Has [] s x) Close = None
take (Has outer s x) (Leaf y) = None
take (Has outer s x) Open = None

abbrev pub and_take : Option State → (State → Option State) → Option State
and_take None go = None
and_take (Some s) go = go s

abbrev pub take_all : State → List Token → Option State
take_all s [] = Some s
take_all s (t ∷ ts) = and_take (take s t) (λ u. take_all u ts)

abbrev pub finished : Option State → Option Part
finished (Some (Has [] s x)) = Some (summed s x)
finished (Some (Has (l ∷ outer) s x)) = None
finished (Some (Wants outer l)) = None
finished None = None

abbrev pub start : State
start = Wants [] fresh

abbrev pub read_part : List Token → Option Part
read_part ts = finished (take_all start ts)
