-- An expression in postfix order, built from its tokens: an operator's node comes after its right operand. Of what
-- waits only the depth is kept, exact up to 32, and 33 past it.
use Rattle.std.specs.Prelude.{ℕ, suc, ◌+◌, ◌<◌, ◌^◌, min, max, List, [], ◌∷◌, ◌++◌, reverse, replicate, Option, Some, None}
use Rattle.session_meaning.specs.declared.node.Node.{Node}
use Rattle.session_meaning.specs.declared.node.Node.TheVariants.{Negate, Apply}
use Rattle.session_meaning.specs.declared.node.Operator.TheVariants as op
use Rattle.session_language.specs.refinement.PlacedTokens.{Element, Operand, Plus, Minus, Times, Open, Close}
use Rattle.session_language.specs.declared.builder.Sum.{Sum}
use Rattle.session_language.specs.declared.builder.Sum.TheVariants.{Nothing, Added, Taken}
use Rattle.session_language.specs.declared.builder.Level.{Level}
use Rattle.session_language.specs.declared.builder.Stage.{Stage}
use Rattle.session_language.specs.declared.builder.Stage.TheVariants.{Wants, Has}
use Rattle.session_language.specs.declared.builder.Builder.{Builder}

-- the open parentheses, the innermost first
pub record Build : Type 0 where
  pub outer : List Level
  pub stage : Stage
  pub nodes : List Node

abbrev pub build_of : Builder → Build
build_of b = record { outer = reverse b.outer.items; stage = b.stage; nodes = b.nodes }

abbrev pub joined_depth : ℕ → ℕ → ℕ
joined_depth a b = min 33 (suc (max a b))

abbrev pub product_depth : Option ℕ → ℕ → ℕ
product_depth None d = d
product_depth (Some c) d = joined_depth c d

abbrev pub product_end : Option ℕ → List Node
product_end None = []
product_end (Some c) = Apply op.Times ∷ []

abbrev pub sum_depth : Sum → ℕ → ℕ
sum_depth Nothing d = d
sum_depth (Added c) d = joined_depth c d
sum_depth (Taken c) d = joined_depth c d

abbrev pub sum_end : Sum → List Node
sum_end Nothing = []
sum_end (Added c) = Apply op.Plus ∷ []
sum_end (Taken c) = Apply op.Minus ∷ []

abbrev pub after_sign : Sum → Level
after_sign s = record { sum = s; product = None; minuses = 0 }

-- after an operand of this depth, whose nodes stand at the end
abbrev pub completed : List Level → Level → List Node → ℕ → Build
completed outer l nodes d = record {
  outer = outer;
  stage = Has l.sum (product_depth l.product (min 33 (l.minuses + d)));
  nodes = nodes ++ (replicate l.minuses Negate ++ product_end l.product);
}

abbrev pub emit_wanting : List Level → Level → List Node → Element → Option Build
emit_wanting outer l nodes (Operand n) = Some (completed outer l (nodes ++ n ∷ []) 1)
emit_wanting outer l nodes Minus = Some (record { outer = outer; stage = Wants (record l { minuses = suc l.minuses }); nodes = nodes })
emit_wanting outer l nodes Open = Some (record { outer = l ∷ outer; stage = Wants (after_sign Nothing); nodes = nodes })
emit_wanting outer l nodes Plus = None
emit_wanting outer l nodes Times = None
emit_wanting outer l nodes Close = None

abbrev pub emit_closed : List Level → List Node → ℕ → Option Build
emit_closed [] nodes d = None
emit_closed (l ∷ outer) nodes d = Some (completed outer l nodes (min 33 (suc d)))

abbrev pub emit_having : List Level → Sum → ℕ → List Node → Element → Option Build
emit_having outer s d nodes Plus = Some (record { outer = outer; stage = Wants (after_sign (Added (sum_depth s d))); nodes = nodes ++ sum_end s })
emit_having outer s d nodes Minus = Some (record { outer = outer; stage = Wants (after_sign (Taken (sum_depth s d))); nodes = nodes ++ sum_end s })
emit_having outer s d nodes Times = Some (record { outer = outer; stage = Wants (record { sum = s; product = Some d; minuses = 0 }); nodes = nodes })
emit_having outer s d nodes Close = emit_closed outer (nodes ++ sum_end s) (sum_depth s d)
emit_having outer s d nodes (Operand n) = None
emit_having outer s d nodes Open = None

abbrev pub emit_at : List Level → Stage → List Node → Element → Option Build
emit_at outer (Wants l) nodes e = emit_wanting outer l nodes e
emit_at outer (Has s d) nodes e = emit_having outer s d nodes e

abbrev pub emit : Build → Element → Option Build
emit b e = emit_at b.outer b.stage b.nodes e

-- an expression before its first token
abbrev pub fresh_build : Build
fresh_build = record { outer = []; stage = Wants (after_sign Nothing); nodes = [] }

-- how deep the whole is, and its nodes, where it may end
abbrev pub ended_at : List Level → Stage → List Node → Option (ℕ × List Node)
ended_at [] (Has s d) nodes = Some (sum_depth s d, nodes ++ sum_end s)
ended_at [] (Wants l) nodes = None
ended_at (l ∷ outer) stage nodes = None

abbrev pub ended : Build → Option (ℕ × List Node)
ended b = ended_at b.outer b.stage b.nodes

-- n more minuses can be counted
abbrev pub HasRoomFor : ℕ → Stage → Type 0
HasRoomFor n (Wants l) = l.minuses + n < 2 ^ 64
HasRoomFor n (Has s d) = n < 2 ^ 64

abbrev pub HasRoom : Stage → Type 0
HasRoom = HasRoomFor 1
