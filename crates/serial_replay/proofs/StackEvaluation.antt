-- The stack after an expression has its value on top.
use Rattle.std.proofs.Common.{◌≡◌, ℕ, ◌+◌, ◌-◌, ◌<◌, ◌≤◌, List, [], ◌∷◌, ◌++◌, length, take, get_or, set, reverse, Result, Ok, Err, refl, sym, ap, ◌∙◌, arith}
use Rattle.std.proofs.lemmas.List.{length-set, take_more, take_more_set, reverse-append}
use Rattle.std.specs.List.{slice_index_or}
use Rattle.bottle_values.specs.declared.Value.{Value}
use Rattle.bottle_values.specs.declared.ValueFault.{ValueFault}
use Rattle.bottle_values.specs.Operations.{nought, opposite}
use Rattle.session_meaning.specs.declared.node.Node.{Node}
use Rattle.session_meaning.specs.declared.node.Node.TheVariants.{Literal, Variable, Read, Negate, Apply}
use Rattle.session_meaning.specs.declared.node.Operator.{Operator}
use Rattle.session_meaning.specs.Tree.{Term, Constant, Var, ReadOf, Neg, Bin}
use Rattle.session_meaning.specs.refinement.Postfix.{postfix}
use Rattle.session_meaning.specs.Meaning.{Environment, value_in, value_of, apply, negated, both}
use Rattle.session_programs.specs.WellFormed.{depth}
use Rattle.session_programs.specs.Limits.{most_depth}
use Rattle.serial_replay.specs.refinement.PostfixEvaluation.{after_node, after_nodes, and_after, on_top}
use Rattle.serial_replay.proofs.StackRoom.{FindRoom, finds_room}

and_after-alike : (o : Result (List Value) ValueFault) (f g : List Value → Result (List Value) ValueFault) → ((u : List Value) → f u ≡ g u) → and_after o f ≡ and_after o g
and_after-alike (Err e) f g h = refl
and_after-alike (Ok u) f g h = h u

append : (d : Environment) (xs ys : List Node) (st : List Value) → after_nodes d (xs ++ ys) st ≡ and_after (after_nodes d xs st) (after_nodes d ys)
append d [] ys st = refl
append d (x ∷ xs) ys st = by_put (after_node d x st) (λ u. append d xs ys u)
  where
    by_put : (o : Result (List Value) ValueFault) → ((u : List Value) → after_nodes d (xs ++ ys) u ≡ and_after (after_nodes d xs u) (after_nodes d ys)) → and_after o (after_nodes d (xs ++ ys)) ≡ and_after (and_after o (after_nodes d xs)) (after_nodes d ys)
    by_put (Err e) h = refl
    by_put (Ok u) h = h u

-- nothing more is done
put_alone : (d : Environment) (st : List Value) (o : Result Value ValueFault) → and_after (on_top st o) (after_nodes d []) ≡ on_top st o
put_alone d st (Err e) = refl
put_alone d st (Ok y) = refl

minus_put : (d : Environment) (st : List Value) (o : Result Value ValueFault) → and_after (on_top st o) (after_nodes d (Negate ∷ [])) ≡ on_top st (negated o)
minus_put d st (Err e) = refl
minus_put d st (Ok x) = put_alone d st (opposite x)

operator_put : (d : Environment) (op : Operator) (st : List Value) (a b : Result Value ValueFault) → and_after (on_top st a) (λ u. and_after (on_top u b) (after_nodes d (Apply op ∷ []))) ≡ on_top st (both a b (apply op))
operator_put d op st (Err e) b = refl
operator_put d op st (Ok x) (Err e) = refl
operator_put d op st (Ok x) (Ok y) = put_alone d st (apply op x y)

worked_out : (d : Environment) (e : Term) (st : List Value) → after_nodes d (postfix e) st ≡ on_top st (value_of e d)
worked_out d (Constant v) st = refl
worked_out d (Var k) st = refl
worked_out d (ReadOf r) st = refl
worked_out d (Neg e) st = append d (postfix e) (Negate ∷ []) st ∙ ap (λ o. and_after o (after_nodes d (Negate ∷ []))) (worked_out d e st) ∙ minus_put d st (value_of e d)
worked_out d (Bin op a b) st =
    append d (postfix a) (postfix b ++ Apply op ∷ []) st ∙ ap (λ o. and_after o (after_nodes d (postfix b ++ Apply op ∷ []))) (worked_out d a st)
    ∙ and_after-alike (on_top st (value_of a d)) (after_nodes d (postfix b ++ Apply op ∷ [])) (λ u. and_after (on_top u (value_of b d)) (after_nodes d (Apply op ∷ [])))
    (λ u. append d (postfix b) (Apply op ∷ []) u ∙ ap (λ o. and_after o (after_nodes d (Apply op ∷ []))) (worked_out d b u))
    ∙ operator_put d op st (value_of a d) (value_of b d)

-- The nodes that are left leave the expression's value on a 0, where the stack is a top on the first k values of the
-- array, the last one first.
pub record IsSoFar (d : Environment) (e : Term) (rest : List Node) (top : Value) (below : List Value) (k : ℕ) : Type 0 where
  pub room : FindRoom rest k
  pub few : k ≤ most_depth
  pub whole : length below ≡ most_depth
  pub leaves : after_nodes d rest (top ∷ reverse (take k below)) ≡ on_top (nought ∷ []) (value_of e d)

pub begun : (d : Environment) (e : Term) (nodes : List Node) (top : Value) (below : List Value) → nodes ≡ postfix e → top ≡ nought → depth e ≤ most_depth → length below ≡ most_depth
    → IsSoFar d e nodes top below 0
begun d e nodes top below is none h whole =
    rw (is, none) (record { room = finds_room e h; few = omega arith; whole = whole; leaves = worked_out d e (nought ∷ []) })

-- ---- one node

-- the stack with the top put away
put_away : (below : List Value) (k : ℕ) (top v : Value) → k < length below → v ∷ (top ∷ reverse (take k below)) ≡ v ∷ reverse (take (k + 1) (set below k top))
put_away below k top v lt =
    ap (λ l. v ∷ l) (sym (ap reverse (take_more_set below k top lt) ∙ reverse-append (take k below) (top ∷ [])))

-- an operand, with its value on top
operand : (d : Environment) (e : Term) (rest : List Node) (top v : Value) (below : List Value) (k : ℕ) → k < most_depth → FindRoom rest (k + 1) → length below ≡ most_depth
    → after_nodes d rest (v ∷ (top ∷ reverse (take k below))) ≡ on_top (nought ∷ []) (value_of e d) → IsSoFar d e rest v (set below k top) (k + 1)
operand d e rest top v below k lt room whole leaves = record {
  room = room;
  few = omega (arith, lt);
  whole = length-set below k top ∙ whole;
  leaves = ap (after_nodes d rest) (sym (put_away below k top v (omega (arith, lt, whole)))) ∙ leaves;
}

pub literal_put : (d : Environment) (e : Term) (rest : List Node) (top v : Value) (below : List Value) (k : ℕ) → IsSoFar d e (Literal v ∷ rest) top below k → IsSoFar d e rest v (set below k top) (k + 1)
literal_put d e rest top v below k h = operand d e rest top v below k h.room.0 h.room.1 h.whole h.leaves

pub variable_put : (d : Environment) (e : Term) (rest : List Node) (top : Value) (place : ℕ) (below : List Value) (k : ℕ) → IsSoFar d e (Variable place ∷ rest) top below k → IsSoFar d e rest (slice_index_or d.variables place nought) (set below k top) (k + 1)
variable_put d e rest top place below k h = operand d e rest top _ below k h.room.0 h.room.1 h.whole h.leaves

pub record_put : (d : Environment) (e : Term) (rest : List Node) (top : Value) (r : ℕ) (below : List Value) (k : ℕ) → IsSoFar d e (Read r ∷ rest) top below k → IsSoFar d e rest (value_in d.slots r) (set below k top) (k + 1)
record_put d e rest top r below k h = operand d e rest top _ below k h.room.0 h.room.1 h.whole h.leaves

-- a minus
pub negated_top : (d : Environment) (e : Term) (rest : List Node) (top v : Value) (below : List Value) (k : ℕ) → IsSoFar d e (Negate ∷ rest) top below k → opposite top ≡ Ok v → IsSoFar d e rest v below k
negated_top d e rest top v below k h is = record {
  room = h.room;
  few = h.few;
  whole = h.whole;
  leaves = sym (ap (λ o. and_after (on_top (reverse (take k below)) o) (after_nodes d rest)) is) ∙ h.leaves;
}

-- what an expression has, by the stack that it leaves
abbrev top_of : Result (List Value) ValueFault → Result Value ValueFault
top_of (Err e) = Err e
top_of (Ok []) = Ok nought
top_of (Ok (x ∷ st)) = Ok x

top_is : (st : List Value) (o : Result Value ValueFault) → top_of (on_top st o) ≡ o
top_is st (Err e) = refl
top_is st (Ok v) = refl

fault_is : (f : ValueFault) (o : Result Value ValueFault) → Err f ≡ on_top (nought ∷ []) o → Err f ≡ o
fault_is f o h = ap top_of h ∙ top_is (nought ∷ []) o

pub negated_fault : (d : Environment) (e : Term) (rest : List Node) (top : Value) (f : ValueFault) (below : List Value) (k : ℕ) → IsSoFar d e (Negate ∷ rest) top below k → opposite top ≡ Err f → Err f ≡ value_of e d
negated_fault d e rest top f below k h is = fault_is f (value_of e d) (sym (ap (λ o. and_after (on_top (reverse (take k below)) o) (after_nodes d rest)) is) ∙ h.leaves)

-- the stack below the top, by its last value
last_below : (below : List Value) (k : ℕ) (x : Value) → 0 < k → k ≤ length below → reverse (take k below) ≡ get_or below (k - 1) x ∷ reverse (take (k - 1) below)
last_below below k x pos le =
    let same : k ≡ (k - 1) + 1 = omega (arith, pos) in
    ap (λ n. reverse (take n below)) same ∙ ap reverse (take_more below (k - 1) x (omega (arith, pos, le))) ∙ reverse-append (take (k - 1) below) (get_or below (k - 1) x ∷ [])

-- an operator, with its left operand below the top
applied : (d : Environment) (e : Term) (rest : List Node) (o : Operator) (top x : Value) (below : List Value) (k : ℕ) → IsSoFar d e (Apply o ∷ rest) top below k
    → and_after (on_top (reverse (take (k - 1) below)) (apply o (get_or below (k - 1) x) top)) (after_nodes d rest) ≡ on_top (nought ∷ []) (value_of e d)
applied d e rest o top x below k h =
    ap (λ l. after_nodes d (Apply o ∷ rest) (top ∷ l)) (sym (last_below below k x h.room.0 (omega (arith, h.few, h.whole)))) ∙ h.leaves

pub combined_top : (d : Environment) (e : Term) (rest : List Node) (o : Operator) (top x v : Value) (below : List Value) (k : ℕ) → IsSoFar d e (Apply o ∷ rest) top below k → apply o (get_or below (k - 1) x) top ≡ Ok v → IsSoFar d e rest v below (k - 1)
combined_top d e rest o top x v below k h is = record {
  room = h.room.1;
  few = omega (arith, h.few);
  whole = h.whole;
  leaves = sym (ap (λ y. and_after (on_top (reverse (take (k - 1) below)) y) (after_nodes d rest)) is) ∙ applied d e rest o top x below k h;
}

pub combined_fault : (d : Environment) (e : Term) (rest : List Node) (o : Operator) (top x : Value) (f : ValueFault) (below : List Value) (k : ℕ) → IsSoFar d e (Apply o ∷ rest) top below k → apply o (get_or below (k - 1) x) top ≡ Err f → Err f ≡ value_of e d
combined_fault d e rest o top x f below k h is =
    fault_is f (value_of e d) (sym (ap (λ y. and_after (on_top (reverse (take (k - 1) below)) y) (after_nodes d rest)) is) ∙ applied d e rest o top x below k h)
