-- What is built of an expression follows what is read of it: the nodes of each part that waits, and how deep it is.
use Rattle.std.proofs.Common.{◌≡◌, ℕ, zero, suc, ◌+◌, min, List, [], ◌∷◌, ◌++◌, map, replicate, Option, Some, None, option_map, refl, sym, ap, ◌∙◌, append_assoc, arith}
use Rattle.std.proofs.lemmas.List.{append-nil}
use Rattle.session_meaning.specs.declared.node.Node.{Node}
use Rattle.session_meaning.specs.declared.node.Node.TheVariants.{Negate, Apply}
use Rattle.session_meaning.specs.declared.node.Operator.TheVariants as op
use Rattle.session_language.specs.declared.builder.Level as code_level
use Rattle.session_language.specs.declared.builder.Sum as code_sum
use Rattle.session_language.specs.declared.builder.Sum.TheVariants as sums
use Rattle.session_language.specs.declared.builder.Stage.TheVariants as stages
use Rattle.session_language.specs.Spelling.{Operand, ANumber, AText, AVariable, ARecord, Token, Leaf, Plus, Minus, Times, Open, Close}
use Rattle.session_meaning.specs.refinement.Postfix.{postfix}
use Rattle.session_language.specs.Parse.{Part, leaf, leading_minus, in_parentheses, Sum, NoSum, Added, Taken, Level, State, Wants, Has, negated, multiplied, summed, take_operand, take, finished}
use Rattle.session_language.specs.Names.{Scope, operand_of, placed}
use Rattle.session_language.specs.refinement.PlacedTokens.{node_of, element_of}
use Rattle.session_language.specs.refinement.PostfixBuilder.{Build, completed, emit, product_depth, product_end, sum_depth, sum_end, ended}

abbrev pub depth_of : Part → ℕ
depth_of x = min 33 x.depth

abbrev sum_of : Sum → code_sum.Sum
sum_of NoSum = sums.Nothing
sum_of (Added x) = sums.Added (depth_of x)
sum_of (Taken x) = sums.Taken (depth_of x)

abbrev level_of : Level → code_level.Level
level_of l = record { sum = sum_of l.sum; product = option_map depth_of l.product; minuses = l.minuses }

module _ (sc : Scope) where
  abbrev pub nodes_of : Part → List Node
  nodes_of x = postfix (placed sc x.tree)

  abbrev sum_nodes : Sum → List Node
  sum_nodes NoSum = []
  sum_nodes (Added x) = nodes_of x
  sum_nodes (Taken x) = nodes_of x

  abbrev product_nodes : Option Part → List Node
  product_nodes None = []
  product_nodes (Some x) = nodes_of x

  abbrev level_nodes : Level → List Node
  level_nodes l = sum_nodes l.sum ++ product_nodes l.product

  abbrev outer_nodes : List Level → List Node
  outer_nodes [] = []
  outer_nodes (l ∷ outer) = outer_nodes outer ++ level_nodes l

  -- what is built where reading stands so
  abbrev pub build : State → Build
  build (Wants outer l) = record { outer = map level_of outer; stage = stages.Wants (level_of l); nodes = outer_nodes outer ++ level_nodes l }
  build (Has outer s x) = record { outer = map level_of outer; stage = stages.Has (sum_of s) (depth_of x); nodes = outer_nodes outer ++ (sum_nodes s ++ nodes_of x) }

  -- leading minuses
  negated_depth : (n : ℕ) (x : Part) → (negated n x).depth ≡ n + x.depth
  negated_depth zero x = omega arith
  negated_depth (suc n) x = let h = negated_depth n (leading_minus x) in omega arith

  negated_nodes : (n : ℕ) (x : Part) → nodes_of (negated n x) ≡ nodes_of x ++ replicate n Negate
  negated_nodes zero x = sym (append-nil (nodes_of x))
  negated_nodes (suc n) x = negated_nodes n (leading_minus x) ∙ append_assoc (nodes_of x) (Negate ∷ []) (replicate n Negate)

  product_depth_is : (o : Option Part) (y : Part) (d : ℕ) → d ≡ depth_of y → product_depth (option_map depth_of o) d ≡ depth_of (multiplied o y)
  product_depth_is None y d h = h
  product_depth_is (Some x) y d h = omega arith

  product_nodes_is : (o : Option Part) (y : Part) → product_nodes o ++ (nodes_of y ++ product_end (option_map depth_of o)) ≡ nodes_of (multiplied o y)
  product_nodes_is None y = append-nil (nodes_of y)
  product_nodes_is (Some x) y = refl

  pub sum_depth_is : (s : Sum) (y : Part) → sum_depth (sum_of s) (depth_of y) ≡ depth_of (summed s y)
  sum_depth_is NoSum y = refl
  sum_depth_is (Added x) y = omega arith
  sum_depth_is (Taken x) y = omega arith

  pub sum_nodes_is : (s : Sum) (y : Part) → (sum_nodes s ++ nodes_of y) ++ sum_end (sum_of s) ≡ nodes_of (summed s y)
  sum_nodes_is NoSum y = append-nil (nodes_of y)
  sum_nodes_is (Added x) y = append_assoc (nodes_of x) (nodes_of y) (Apply op.Plus ∷ [])
  sum_nodes_is (Taken x) y = append_assoc (nodes_of x) (nodes_of y) (Apply op.Minus ∷ [])

  -- an operand is complete
  operand_built : (outer : List Level) (l : Level) (x : Part) → completed (map level_of outer) (level_of l) ((outer_nodes outer ++ level_nodes l) ++ nodes_of x) (depth_of x) ≡ build (take_operand outer l x)
  operand_built outer l x =
      let deep : min 33 (l.minuses + depth_of x) ≡ depth_of (negated l.minuses x) = let h = negated_depth l.minuses x in omega arith in
      let d = product_depth_is l.product (negated l.minuses x) (min 33 (l.minuses + depth_of x)) deep in
      let regroup : ((outer_nodes outer ++ (sum_nodes l.sum ++ product_nodes l.product)) ++ nodes_of x) ++ (replicate l.minuses Negate ++ product_end (option_map depth_of l.product))
      ≡ outer_nodes outer ++ (sum_nodes l.sum ++ (product_nodes l.product ++ ((nodes_of x ++ replicate l.minuses Negate) ++ product_end (option_map depth_of l.product)))) = simp append_assoc in
      let n : ((outer_nodes outer ++ (sum_nodes l.sum ++ product_nodes l.product)) ++ nodes_of x) ++ (replicate l.minuses Negate ++ product_end (option_map depth_of l.product))
      ≡ outer_nodes outer ++ (sum_nodes l.sum ++ nodes_of (multiplied l.product (negated l.minuses x))) =
      regroup ∙ ap (λ ns. outer_nodes outer ++ (sum_nodes l.sum ++ (product_nodes l.product ++ (ns ++ product_end (option_map depth_of l.product))))) (sym (negated_nodes l.minuses x))
      ∙ ap (λ ns. outer_nodes outer ++ (sum_nodes l.sum ++ ns)) (product_nodes_is l.product (negated l.minuses x)) in
      ap (λ e. made e.0 e.1) (both d n)
    where
      made : ℕ → List Node → Build
      made e ns = record { outer = map level_of outer; stage = stages.Has (sum_of l.sum) e; nodes = ns }

      both : {a b : ℕ} {p q : List Node} → a ≡ b → p ≡ q → ◌≡◌ {A = ℕ × List Node} (a, p) (b, q)
      both e f = (cc)

  leaf_nodes : (x : Operand) → postfix (operand_of sc x) ≡ node_of sc x ∷ []
  leaf_nodes (ANumber n) = refl
  leaf_nodes (AText t) = refl
  leaf_nodes (AVariable name) = refl
  leaf_nodes (ARecord name) = refl

  -- a sign after a sum
  sign_built : (outer : List Level) (s : Sum) (x : Part) → (outer_nodes outer ++ (sum_nodes s ++ nodes_of x)) ++ sum_end (sum_of s) ≡ outer_nodes outer ++ (nodes_of (summed s x) ++ [])
  sign_built outer s x = append_assoc (outer_nodes outer) _ _ ∙ ap (λ ns. outer_nodes outer ++ ns) (sum_nodes_is s x ∙ sym (append-nil _))

  abbrev made : State → Option Build
  made s = Some (build s)

  -- each token is taken alike
  pub taken_alike : (s : State) (t : Token) → emit (build s) (element_of sc t) ≡ option_map build (take s t)
  taken_alike (Wants outer l) (Leaf x) =
      ap (λ ns. Some (completed (map level_of outer) (level_of l) ((outer_nodes outer ++ level_nodes l) ++ ns) 1)) (sym (leaf_nodes x))
      ∙ ap (λ (b : Build). Some b) (operand_built outer l (leaf x))
  taken_alike (Wants outer l) Minus = refl
  taken_alike (Wants outer l) Open = ap (λ ns. Some (record { outer = level_of l ∷ map level_of outer; stage = stages.Wants (level_of (record { sum = NoSum; product = None; minuses = 0 })); nodes = ns })) (sym (append-nil (outer_nodes outer ++ level_nodes l)))
  taken_alike (Wants outer l) Plus = refl
  taken_alike (Wants outer l) Times = refl
  taken_alike (Wants outer l) Close = refl
  taken_alike (Has outer s x) Plus =
      let d = sum_depth_is s x in let n = sign_built outer s x in rw (d, n) refl
  taken_alike (Has outer s x) Minus =
      let d = sum_depth_is s x in let n = sign_built outer s x in rw (d, n) refl
  taken_alike (Has outer s x) Times = refl
  taken_alike (Has (l ∷ outer) s x) Close =
      let y = summed s x in
      let d : min 33 (suc (sum_depth (sum_of s) (depth_of x))) ≡ depth_of (in_parentheses (summed s x)) = let h = sum_depth_is s x in omega arith in
      let n : ((outer_nodes outer ++ level_nodes l) ++ (sum_nodes s ++ nodes_of x)) ++ sum_end (sum_of s) ≡ (outer_nodes outer ++ level_nodes l) ++ nodes_of (summed s x) =
      append_assoc (outer_nodes outer ++ level_nodes l) _ _ ∙ ap (λ ns. (outer_nodes outer ++ level_nodes l) ++ ns) (sum_nodes_is s x) in
      rw (d, n) (ap (λ (b : Build). Some b) (operand_built outer l (in_parentheses (summed s x))))
  taken_alike (Has [] s x) Close = refl
  taken_alike (Has outer s x) (Leaf y) = refl
  taken_alike (Has outer s x) Open = refl

  -- how deep an expression is, and its nodes
  abbrev pub ending : Part → ℕ × List Node
  ending x = (depth_of x, nodes_of x)

  pub ended_alike : (s : State) → ended (build s) ≡ option_map ending (finished (Some s))
  ended_alike (Wants [] l) = refl
  ended_alike (Wants (k ∷ outer) l) = refl
  ended_alike (Has [] s x) = let d = sum_depth_is s x in let n = sum_nodes_is s x in rw (d, n) refl
  ended_alike (Has (l ∷ outer) s x) = refl
