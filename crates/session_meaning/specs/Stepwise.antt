-- A session read one step at a time: a list of what is left to do, from which each step takes one thing. Nodes come
-- after their operands, a statement and a comparison after their expressions. So a session's length is how many steps
-- it takes.
use Rattle.std.specs.Prelude.{◌≡◌, ℕ, zero, suc, List, [], ◌∷◌, ◌++◌, Bool, true, false, Option, Some, None, Result, Ok, Err, slice_set}
use Rattle.std.specs.List.{slice_index_or}
use Rattle.bottle_values.specs.declared.Value.{Value}
use Rattle.bottle_values.specs.declared.ValueFault.{ValueFault}
use Rattle.bottle_values.specs.Operations.{nought, opposite}
use Rattle.session_meaning.specs.declared.node.Operator.{Operator}
use Rattle.session_meaning.specs.declared.node.Comparison.{Comparison}
use Rattle.session_meaning.specs.declared.ending.End.TheVariants.{Refused, Overflow}
use Rattle.session_meaning.specs.Tree.{Term, Constant, Var, ReadOf, Neg, Bin, Test, Command, LetVar, SetTo, GiveOf, Requires, When, Choice, Loop, Block, Nothing, Then}
use Rattle.session_meaning.specs.ProgramValue.{ProgramValue}
use Rattle.session_meaning.specs.Meaning.{Environment, Step, Goes, Ends, ended_by, apply, holds, value_in, set_in, block, begun}
use Rattle.session_meaning.specs.Length.{length_on}

-- one thing to do
pub data Item : Type 0 where
  number : (v : Value) → Item
  variable : (place : ℕ) → Item
  read : (r : ℕ) → Item
  minus : Item
  operator : (op : Operator) → Item
  compare : (comparison : Comparison) → Item
  to_variable : (place : ℕ) → Item
  to_record : (r : ℕ) → Item
  give : Item
  require : (code : ℕ) → Item
  choose : (first second : Block) → Item
  repeat : (turns : ℕ) (body : Block) → Item

-- an expression's nodes, and then the rest
abbrev pub term_items : Term → List Item → List Item
term_items (Constant v) rest = number v ∷ rest
term_items (Var place) rest = variable place ∷ rest
term_items (ReadOf r) rest = read r ∷ rest
term_items (Neg e) rest = term_items e (minus ∷ rest)
term_items (Bin op a b) rest = term_items a (term_items b (operator op ∷ rest))

abbrev pub test_items : Test → List Item → List Item
test_items t rest = term_items t.left (term_items t.right (compare t.comparison ∷ rest))

-- a statement, and then the rest; what stands in a block comes when it is entered
abbrev pub command_items : Command → List Item → List Item
command_items (LetVar place e) rest = term_items e (to_variable place ∷ rest)
command_items (SetTo r e) rest = term_items e (to_record r ∷ rest)
command_items (GiveOf e) rest = term_items e (give ∷ rest)
command_items (Requires t code) rest = test_items t (require code ∷ rest)
command_items (When t body) rest = test_items t (choose body Nothing ∷ rest)
command_items (Choice t first second) rest = test_items t (choose first second ∷ rest)
command_items (Loop n body) rest = repeat n body ∷ rest

abbrev pub block_items : Block → List Item → List Item
block_items Nothing rest = rest
block_items (Then c b) rest = command_items c (block_items b rest)

-- How far a session is: what is left to do, the values in hand, the last first, the truth in hand if there is one, and
-- what the session has; or how its statements left it.
pub data Stage : Type 0 where
  Left : (items : List Item) (values : List Value) (truth : Option Bool) (d : Environment) → Stage
  Over : (s : Step) → Stage

-- a value comes in hand, unless there is none
abbrev pub in_hand : Result Value ValueFault → List Item → List Value → Option Bool → Environment → Stage
in_hand (Err e) rest vs t d = Over (Ends (ended_by e))
in_hand (Ok v) rest vs t d = Left rest (v ∷ vs) t d

-- a truth comes in hand, unless there is none
abbrev pub told : Result Bool ValueFault → List Item → List Value → Environment → Stage
told (Err e) rest vs d = Over (Ends (ended_by e))
told (Ok b) rest vs d = Left rest vs (Some b) d

-- one step. Where nothing is left it is the session's end
abbrev pub step : Stage → Stage
step (Over s) = Over s
step (Left [] vs t d) = Over (Goes d)
step (Left (number v ∷ rest) vs t d) = Left rest (v ∷ vs) t d
step (Left (variable place ∷ rest) vs t d) = Left rest (slice_index_or d.variables place nought ∷ vs) t d
step (Left (read r ∷ rest) vs t d) = Left rest (value_in d.slots r ∷ vs) t d
step (Left (minus ∷ rest) (v ∷ vs) t d) = in_hand (opposite v) rest vs t d
step (Left (operator op ∷ rest) (b ∷ (a ∷ vs)) t d) = in_hand (apply op a b) rest vs t d
step (Left (compare c ∷ rest) (b ∷ (a ∷ vs)) t d) = told (holds c a b) rest vs d
step (Left (to_variable place ∷ rest) (v ∷ vs) t d) = Left rest vs t (record d { variables = slice_set d.variables place v })
step (Left (to_record r ∷ rest) (v ∷ vs) t d) = Left rest vs t (record d { slots = set_in r v d.slots })
step (Left (give ∷ rest) (v ∷ vs) t d) = Left rest vs t (record d { gives = d.gives ++ v ∷ [] })
step (Left (require code ∷ rest) vs (Some true) d) = Left rest vs None d
step (Left (require code ∷ rest) vs (Some false) d) = Over (Ends (Refused code))
step (Left (choose first second ∷ rest) vs (Some true) d) = Left (block_items first rest) vs None d
step (Left (choose first second ∷ rest) vs (Some false) d) = Left (block_items second rest) vs None d
step (Left (repeat (suc n) body ∷ rest) vs t d) = Left (block_items body (repeat n body ∷ rest)) vs t d
step (Left (repeat zero body ∷ rest) vs t d) = Left rest vs t d
-- a list that was made of a session never comes here
step (Left (item ∷ rest) vs t d) = Over (Ends Overflow)

abbrev pub IsLeft : Stage → Type 0
IsLeft (Left items vs t d) = Unit {0}
IsLeft (Over s) = ⊥

-- so many steps, each from a stage where the session isn't over, lead from one stage to another
pub data Takes : ℕ → Stage → Stage → Type 0 where
  no_step : (s : Stage) → Takes 0 s s
  step_more : (n : ℕ) (s t : Stage) → IsLeft s → Takes n (step s) t → Takes (suc n) s t

-- a program that begins with these reads
abbrev pub start : ProgramValue → List (ℕ × Value) → Stage
start p reads = Left (block_items p.body []) [] None (begun p reads)

-- a session takes as many steps as its length, no more and no fewer, and is left as its meaning says
pub record IsCounted (p : ProgramValue) (reads : List (ℕ × Value)) : Type 0 where
  pub takes : Takes (length_on p reads) (start p reads) (Over (block p.body (begun p reads)))
  pub no_other : (n : ℕ) (s : Step) → Takes n (start p reads) (Over s) → n ≡ length_on p reads

-- so it is of every session, whatever it reads
abbrev pub LengthCountsSteps : Type 0
LengthCountsSteps = (p : ProgramValue) (reads : List (ℕ × Value)) → IsCounted p reads
