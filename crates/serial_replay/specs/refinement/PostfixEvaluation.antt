-- An expression worked out in postfix order, on a stack of values, the last one first.
use Rattle.std.specs.Prelude.{List, [], ◌∷◌, Result, Ok, Err}
use Rattle.std.specs.List.{slice_index_or}
use Rattle.bottle_values.specs.declared.Value.{Value}
use Rattle.bottle_values.specs.declared.ValueFault.{ValueFault}
use Rattle.bottle_values.specs.declared.ValueFault.TheVariants.{Overflow}
use Rattle.session_meaning.specs.declared.node.Node.{Node}
use Rattle.session_meaning.specs.declared.node.Node.TheVariants.{Literal, Variable, Read, Negate, Apply}
use Rattle.session_meaning.specs.Meaning.{Environment, value_in, apply}
use Rattle.bottle_values.specs.Operations.{nought, opposite}

abbrev pub on_top : List Value → Result Value ValueFault → Result (List Value) ValueFault
on_top st (Ok v) = Ok (v ∷ st)
on_top st (Err e) = Err e

-- a list that was made of an expression lacks no operand
abbrev pub after_node : Environment → Node → List Value → Result (List Value) ValueFault
after_node d (Literal v) st = Ok (v ∷ st)
after_node d (Variable k) st = Ok (slice_index_or d.variables k nought ∷ st)
after_node d (Read r) st = Ok (value_in d.slots r ∷ st)
after_node d Negate (x ∷ st) = on_top st (opposite x)
after_node d Negate [] = Err Overflow
after_node d (Apply o) (b ∷ a ∷ st) = on_top st (apply o a b)
after_node d (Apply o) (b ∷ []) = Err Overflow
after_node d (Apply o) [] = Err Overflow

abbrev pub and_after : Result (List Value) ValueFault → (List Value → Result (List Value) ValueFault) → Result (List Value) ValueFault
and_after (Err e) go = Err e
and_after (Ok st) go = go st

abbrev pub after_nodes : Environment → List Node → List Value → Result (List Value) ValueFault
after_nodes d [] st = Ok st
after_nodes d (n ∷ ns) st = and_after (after_node d n st) (after_nodes d ns)
