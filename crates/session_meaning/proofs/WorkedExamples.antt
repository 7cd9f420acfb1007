-- Worked examples of the definitions, by computing.
use Rattle.std.specs.Prelude.{◌≡◌, ℕ, pos, negsuc, ℤ, List, [], ◌∷◌, codes, replicate, refl}
use Rattle.bottle_values.specs.declared.Value.{Value}
use Rattle.bottle_values.specs.declared.Value.TheVariants.{Number, Text}
use Rattle.session_meaning.specs.declared.node.Operator.TheVariants as op
use Rattle.session_meaning.specs.declared.node.Comparison.{Comparison}
use Rattle.session_meaning.specs.declared.node.Comparison.TheVariants as cmp
use Rattle.session_meaning.specs.declared.ending.End.TheVariants.{Done, Refused, Overflow, Mismatch}
use Rattle.session_meaning.specs.Tree.{Term, Constant, Var, ReadOf, Neg, Bin, Test, LetVar, SetTo, GiveOf, Requires, When, Choice, Loop, Block, Nothing, Then}
use Rattle.session_meaning.specs.ProgramValue.{ProgramValue}
use Rattle.session_meaning.specs.Meaning.{alone}
use Rattle.session_meaning.specs.Length.{length_on}

abbrev pub value : ℤ → Value
value z = Number z

abbrev pub number : ℕ → Term
number n = Constant (value (pos n))

abbrev pub program : List (List ℕ) → Block → ProgramValue
program variables body = record { office = 0; variables = variables; body = body }

-- give 1
pub one_given : ◌≡◌ {A = ℕ} (length_on (program [] (Then (GiveOf (number 1)) Nothing)) []) 3
unfolding length_on
one_given = refl

-- let i = 0, repeat 3, let i = i + 1, if i * 2 > 3, give i, else, give -i, end, end
abbrev pub counting : ProgramValue
counting =
    program ((105 ∷ []) ∷ [])
    (Then (LetVar 0 (number 0))
    (Then (Loop 3 (Then (LetVar 0 (Bin op.Plus (Var 0) (number 1))) (Then (Choice (record { left = Bin op.Times (Var 0) (number 2); comparison = cmp.Greater; right = number 3 }) (Then (GiveOf (Var 0)) Nothing) (Then (GiveOf (Neg (Var 0))) Nothing)) Nothing))) Nothing))

pub counting_length : ◌≡◌ {A = ℕ} (length_on counting []) 44
unfolding length_on
counting_length = refl

pub counting_gives : alone counting [] ≡ record { end = Done; reads = []; writes = []; gives = value (negsuc 0) ∷ value (pos 2) ∷ value (pos 3) ∷ [] }
unfolding alone
counting_gives = refl

-- set x = read x - 100, require read x >= 0 else 7: on 99 it is refused, and has neither the end's 1 nor a write
abbrev pub withdrawal : ProgramValue
withdrawal = program [] (Then (SetTo 0 (Bin op.Minus (ReadOf 0) (number 100))) (Then (Requires (record { left = ReadOf 0; comparison = cmp.AtLeast; right = number 0 }) 7) Nothing))

pub refused_length : ◌≡◌ {A = ℕ} (length_on withdrawal ((0, value (pos 99)) ∷ [])) 8
unfolding length_on
refused_length = refl

pub refused_ending : alone withdrawal ((0, value (pos 99)) ∷ []) ≡ record { end = Refused 7; reads = (0, value (pos 99)) ∷ []; writes = []; gives = [] }
unfolding alone
refused_ending = refl

-- set x = 1, set x = 9223372036854775807 + 1
pub overflow_ending : alone (program [] (Then (SetTo 0 (number 1)) (Then (SetTo 0 (Bin op.Plus (number 9223372036854775807) (number 1))) Nothing))) ((0, value (pos 100)) ∷ []) ≡ record { end = Overflow; reads = (0, value (pos 100)) ∷ []; writes = []; gives = [] }
unfolding alone
overflow_ending = refl

-- Lengths, each worked out by hand: in the order in which things are done, 1 each.
abbrev pub compared : Term → Comparison → Term → Test
compared a c b = record { left = a; comparison = c; right = b }

-- give -(0 - 9223372036854775807 - 1): four nodes and the two operators are worked out, the minus in front last; it
-- overflows with its own 1, and neither `give` nor the end is reached
pub overflow_at_a_minus : ◌≡◌ {A = ℕ} (length_on (program [] (Then (GiveOf (Neg (Bin op.Minus (Bin op.Minus (number 0) (number 9223372036854775807)) (number 1)))) Nothing)) []) 6
unfolding length_on
overflow_at_a_minus = refl

-- give 9223372036854775807 + 1: two numbers, and the operator that overflows
pub overflow_at_an_operator : ◌≡◌ {A = ℕ} (length_on (program [] (Then (GiveOf (Bin op.Plus (number 9223372036854775807) (number 1))) Nothing)) []) 3
unfolding length_on
overflow_at_an_operator = refl

-- give (9223372036854775807 + 1) * (2 + 3): the right operand is not worked out, nor the operator
pub overflow_in_the_left_operand : ◌≡◌ {A = ℕ} (length_on (program [] (Then (GiveOf (Bin op.Times (Bin op.Plus (number 9223372036854775807) (number 1)) (Bin op.Plus (number 2) (number 3)))) Nothing)) []) 3
unfolding length_on
overflow_in_the_left_operand = refl

-- give (2 + 3) * (9223372036854775807 + 1): the left operand's 3 and the right operand's 3, but not the operator
pub overflow_in_the_right_operand : ◌≡◌ {A = ℕ} (length_on (program [] (Then (GiveOf (Bin op.Times (Bin op.Plus (number 2) (number 3)) (Bin op.Plus (number 9223372036854775807) (number 1)))) Nothing)) []) 6
unfolding length_on
overflow_in_the_right_operand = refl

-- give 4, require 9223372036854775807 + 1 < 2 else 9: 2 for `give`, then 3 up to the overflow; the right side, the
-- condition and `require` are not reached
pub overflow_in_a_condition : ◌≡◌ {A = ℕ} (length_on (program [] (Then (GiveOf (number 4)) (Then (Requires (compared (Bin op.Plus (number 9223372036854775807) (number 1)) cmp.Less (number 2)) 9) Nothing))) []) 5
unfolding length_on
overflow_in_a_condition = refl

-- if 1 < 2, give 5, end: two numbers and the condition, `if`, 2 for `give`, and the session's end
pub if_runs : ◌≡◌ {A = ℕ} (length_on (program [] (Then (When (compared (number 1) cmp.Less (number 2)) (Then (GiveOf (number 5)) Nothing)) Nothing)) []) 7
unfolding length_on
if_runs = refl

-- if 2 < 1, give 5, end: the same without `give`
pub if_runs_nothing : ◌≡◌ {A = ℕ} (length_on (program [] (Then (When (compared (number 2) cmp.Less (number 1)) (Then (GiveOf (number 5)) Nothing)) Nothing)) []) 5
unfolding length_on
if_runs_nothing = refl

-- if 1 < 2, give 5, else, give -6, end: 4 with `if`, 2 for the first part, and the end
pub first_part_runs : ◌≡◌ {A = ℕ} (length_on (program [] (Then (Choice (compared (number 1) cmp.Less (number 2)) (Then (GiveOf (number 5)) Nothing) (Then (GiveOf (Neg (number 6))) Nothing)) Nothing)) []) 7
unfolding length_on
first_part_runs = refl

-- if 2 < 1, give 5, else, give -6, end: 4 with `if`, 3 for the part after `else`, and the end
pub second_part_runs : ◌≡◌ {A = ℕ} (length_on (program [] (Then (Choice (compared (number 2) cmp.Less (number 1)) (Then (GiveOf (number 5)) Nothing) (Then (GiveOf (Neg (number 6))) Nothing)) Nothing)) []) 8
unfolding length_on
second_part_runs = refl

-- repeat 0, give 1, end: once after the last turn, of which there is none, and the end
pub no_turn : ◌≡◌ {A = ℕ} (length_on (program [] (Then (Loop 0 (Then (GiveOf (number 1)) Nothing)) Nothing)) []) 2
unfolding length_on
no_turn = refl

-- let v = 0, repeat 3, let v = v + 1, require v < 2 else 9, end: 2 for the first line, then each turn 1, 4 for `let` and
-- 4 for `require`; the second turn's `require` is false and ends the session with its own 1
pub refused_in_the_second_turn : ◌≡◌ {A = ℕ} (length_on
    (program ((118 ∷ []) ∷ []) (Then (LetVar 0 (number 0)) (Then (Loop 3 (Then (LetVar 0 (Bin op.Plus (Var 0) (number 1))) (Then (Requires (compared (Var 0) cmp.Less (number 2)) 9) Nothing))) Nothing))) []) 20
unfolding length_on
refused_in_the_second_turn = refl

-- Texts: record 0 holds "no", and record 1 the number 7.
abbrev pub text : List ℕ → Term
text t = Constant (Text t)

-- require read x == "no" else 3, set x = read x + "-yes", give read x
abbrev pub joining : ProgramValue
joining =
    program [] (Then (Requires (compared (ReadOf 0) cmp.Equal (text (codes "no"))) 3)
    (Then (SetTo 0 (Bin op.Plus (ReadOf 0) (text (codes "-yes")))) (Then (GiveOf (ReadOf 0)) Nothing)))

pub joined_texts : alone joining ((0, Text (codes "no")) ∷ []) ≡ record { end = Done; reads = (0, Text (codes "no")) ∷ []; writes = (0, Text (codes "no-yes")) ∷ []; gives = Text (codes "no-yes") ∷ [] }
unfolding alone
joined_texts = refl

abbrev pub no_and_seven : List (ℕ × Value)
no_and_seven = (0, Text (codes "no")) ∷ (1, value (pos 7)) ∷ []

-- set x = read x + read y: two reads, and the operator that ends the session
abbrev pub mixing : ProgramValue
mixing = program [] (Then (SetTo 0 (Bin op.Plus (ReadOf 0) (ReadOf 1))) Nothing)

pub mixed_values : alone mixing no_and_seven ≡ record { end = Mismatch; reads = no_and_seven; writes = []; gives = [] }
unfolding alone
mixed_values = refl

pub mixed_length : ◌≡◌ {A = ℕ} (length_on mixing no_and_seven) 3
unfolding length_on
mixed_length = refl

-- require read x < read y else 3: two reads, and the condition, which ends it
pub texts_have_no_order : ◌≡◌ {A = ℕ} (length_on (program [] (Then (Requires (compared (ReadOf 0) cmp.Less (ReadOf 1)) 3) Nothing)) no_and_seven) 3
unfolding length_on
texts_have_no_order = refl

-- require read x != read y else 3: a number and a text differ, so 4 with `require`, and the end
pub texts_are_no_numbers : ◌≡◌ {A = ℕ} (length_on (program [] (Then (Requires (compared (ReadOf 0) cmp.NotEqual (ReadOf 1)) 3) Nothing)) no_and_seven) 5
unfolding length_on
texts_are_no_numbers = refl

-- give -read x: the read, and the minus
pub minus_of_a_text : ◌≡◌ {A = ℕ} (length_on (program [] (Then (GiveOf (Neg (ReadOf 0))) Nothing)) no_and_seven) 2
unfolding length_on
minus_of_a_text = refl

-- set x = read x + read y, where x has 64 bytes and y one more
pub joined_past_64 : alone mixing ((0, Text (replicate 64 97)) ∷ (1, Text (98 ∷ [])) ∷ []) ≡ record { end = Overflow; reads = (0, Text (replicate 64 97)) ∷ (1, Text (98 ∷ [])) ∷ []; writes = []; gives = [] }
unfolding alone
joined_past_64 = refl
