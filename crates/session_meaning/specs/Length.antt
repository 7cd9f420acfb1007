-- The length of a session on given values: how much is done, 1 each. Every node that is worked out, after its operands;
-- a statement and a condition after their expressions; a `repeat` before each turn and once after the last; and the
-- session's end, unless a false `require` or an overflow ended it, which have had their own 1.
use Rattle.std.specs.Prelude.{ℕ, zero, suc, ◌+◌, Bool, true, false, List, Result, Ok, Err}
use Rattle.bottle_values.specs.declared.Value.{Value}
use Rattle.bottle_values.specs.declared.ValueFault.{ValueFault}
use Rattle.session_meaning.specs.Tree.{Term, Constant, Var, ReadOf, Neg, Bin, Test, Command, LetVar, SetTo, GiveOf, Requires, When, Choice, Loop, Block, Nothing, Then}
use Rattle.session_meaning.specs.ProgramValue.{ProgramValue}
use Rattle.session_meaning.specs.Meaning.{Environment, Step, Goes, Ends, value_of, truth_of, command, block, begun}

-- what comes after a value, unless there is none
abbrev pub if_ok : {A : Type 0} → Result A ValueFault → ℕ → ℕ
if_ok (Err e) n = 0
if_ok (Ok x) n = n

-- what comes after a truth
abbrev pub if_true : Result Bool ValueFault → ℕ → ℕ → ℕ
if_true (Err e) m n = 0
if_true (Ok true) m n = m
if_true (Ok false) m n = n

-- what comes after a statement, unless the session has ended
abbrev pub if_goes : Step → (Environment → ℕ) → ℕ
if_goes (Goes d) n = n d
if_goes (Ends e) n = 0

-- one more, where the operand before it has a value
abbrev pub term_length : Term → Environment → ℕ
term_length (Constant v) d = 1
term_length (Var place) d = 1
term_length (ReadOf r) d = 1
term_length (Neg e) d = term_length e d + if_ok (value_of e d) 1
term_length (Bin op a b) d = term_length a d + if_ok (value_of a d) (term_length b d + if_ok (value_of b d) 1)

abbrev pub test_length : Test → Environment → ℕ
test_length t d = term_length t.left d + if_ok (value_of t.left d) (term_length t.right d + if_ok (value_of t.right d) 1)

abbrev pub times_length : ℕ → (Environment → Step) → (Environment → ℕ) → Environment → ℕ
times_length zero go count d = 1
times_length (suc n) go count d = suc (count d + if_goes (go d) (times_length n go count))

abbrev mutual
  pub command_length : Command → Environment → ℕ
  command_length (LetVar place e) d = term_length e d + if_ok (value_of e d) 1
  command_length (SetTo r e) d = term_length e d + if_ok (value_of e d) 1
  command_length (GiveOf e) d = term_length e d + if_ok (value_of e d) 1
  command_length (Requires t code) d = test_length t d + if_ok (truth_of t d) 1
  command_length (When t body) d = test_length t d + if_true (truth_of t d) (suc (block_length body d)) 1
  command_length (Choice t first second) d = test_length t d + if_true (truth_of t d) (suc (block_length first d)) (suc (block_length second d))
  command_length (Loop n body) d = times_length n (block body) (block_length body) d

  pub block_length : Block → Environment → ℕ
  block_length Nothing d = 0
  block_length (Then c rest) d = command_length c d + if_goes (command c d) (block_length rest)

-- How much a program does that begins with these reads: 1 for each node that is worked out, each statement, each turn
-- of a `repeat` and one more after its last, and the end.
unfoldable pub length_on : ProgramValue → List (ℕ × Value) → ℕ
length_on p reads = block_length p.body (begun p reads) + if_goes (block p.body (begun p reads)) (λ d. 1)
