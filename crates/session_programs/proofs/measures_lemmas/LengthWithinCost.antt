-- A session does something, and at most one more than its cost.
use Rattle.std.proofs.Common.{ℕ, zero, suc, ◌+◌, ◌*◌, ◌≤◌, Bool, true, false, Result, Ok, Err, arith, max}
use Rattle.std.proofs.Math.Nat.{suc-mul}
use Rattle.bottle_values.specs.declared.ValueFault.{ValueFault}
use Rattle.session_meaning.specs.Tree.{Term, Constant, Var, ReadOf, Neg, Bin, Test, Command, LetVar, SetTo, GiveOf, Requires, When, Choice, Loop, Block, Nothing, Then}
use Rattle.session_meaning.specs.Meaning.{Environment, Step, Goes, Ends, value_of, truth_of, command, block, begun}
use Rattle.session_programs.specs.measures.Measures.{nodes, test_nodes, cost, block_cost}
use Rattle.session_meaning.specs.Length.{if_ok, if_goes, if_true, term_length, test_length, times_length, command_length, block_length, length_on}
use Rattle.session_programs.specs.measures.Laws.{EndsWithinItsCost}

ok_le : {A : Type 0} (o : Result A ValueFault) (m n : ℕ) → m ≤ n → if_ok o m ≤ n
ok_le (Err e) m n le = omega arith
ok_le (Ok x) m n le = le

true_le : (o : Result Bool ValueFault) (a b n : ℕ) → a ≤ n → b ≤ n → if_true o a b ≤ n
true_le (Err e) a b n la lb = omega arith
true_le (Ok true) a b n la lb = la
true_le (Ok false) a b n la lb = lb

goes_le : (x : Step) (f : Environment → ℕ) (n : ℕ) → ((d : Environment) → f d ≤ n) → if_goes x f ≤ n
goes_le (Goes d) f n h = h d
goes_le (Ends e) f n h = omega arith

term_le : (e : Term) (d : Environment) → term_length e d ≤ nodes e
term_le (Constant n) d = omega arith
term_le (Var place) d = omega arith
term_le (ReadOf r) d = omega arith
term_le (Neg e) d = let h = term_le e d in let s = ok_le (value_of e d) 1 1 (omega arith) in omega (arith, h, s)
term_le (Bin op a b) d =
    let s = ok_le (value_of b d) 1 1 (omega arith) in
    let r = ok_le (value_of a d) (term_length b d + if_ok (value_of b d) 1) (nodes b + 1) (omega (arith, term_le b d, s)) in
    omega (arith, term_le a d, r)

test_le : (t : Test) (d : Environment) → test_length t d ≤ test_nodes t
test_le t d =
    let s = ok_le (value_of t.right d) 1 1 (omega arith) in
    let r = ok_le (value_of t.left d) (term_length t.right d + if_ok (value_of t.right d) 1) (nodes t.right + 1) (omega (arith, term_le t.right d, s)) in
    omega (arith, term_le t.left d, r)

times_le : (n c : ℕ) (go : Environment → Step) (count : Environment → ℕ) (d : Environment) → ((x : Environment) → count x ≤ c) → times_length n go count d ≤ 1 + n * (1 + c)
times_le zero c go count d h = omega arith
times_le (suc n) c go count d h =
    let r = goes_le (go d) (times_length n go count) (1 + n * (1 + c)) (λ x. times_le n c go count x h) in
    omega (arith, r, h d, suc-mul n (1 + c))

mutual
  command_le : (c : Command) (d : Environment) → command_length c d ≤ cost c
  command_le (LetVar place e) d = let s = ok_le (value_of e d) 1 1 (omega arith) in omega (arith, term_le e d, s)
  command_le (SetTo r e) d = let s = ok_le (value_of e d) 1 1 (omega arith) in omega (arith, term_le e d, s)
  command_le (GiveOf e) d = let s = ok_le (value_of e d) 1 1 (omega arith) in omega (arith, term_le e d, s)
  command_le (Requires t code) d = let s = ok_le (truth_of t d) 1 1 (omega arith) in omega (arith, test_le t d, s)
  command_le (When t body) d =
      let r = true_le (truth_of t d) (suc (block_length body d)) 1 (suc (block_cost body)) (omega (arith, block_le body d)) (omega arith) in
      omega (arith, test_le t d, r)
  command_le (Choice t first second) d =
      let r = true_le (truth_of t d) (suc (block_length first d)) (suc (block_length second d)) (suc (max (block_cost first) (block_cost second))) (omega (arith, block_le first d)) (omega (arith, block_le second d)) in
      omega (arith, test_le t d, r)
  command_le (Loop n body) d = times_le n (block_cost body) (block body) (block_length body) d (λ x. block_le body x)

  block_le : (b : Block) (d : Environment) → block_length b d ≤ block_cost b
  block_le Nothing d = omega arith
  block_le (Then c rest) d =
      let r = goes_le (command c d) (block_length rest) (block_cost rest) (λ x. block_le rest x) in
      omega (arith, command_le c d, r)

term_some : (e : Term) (d : Environment) → 1 ≤ term_length e d
term_some (Constant v) d = omega arith
term_some (Var place) d = omega arith
term_some (ReadOf r) d = omega arith
term_some (Neg e) d = let h = term_some e d in omega arith
term_some (Bin op a b) d = let h = term_some a d in omega arith

times_some : (n : ℕ) (go : Environment → Step) (count : Environment → ℕ) (d : Environment) → 1 ≤ times_length n go count d
times_some zero go count d = omega arith
times_some (suc n) go count d = omega arith

command_some : (c : Command) (d : Environment) → 1 ≤ command_length c d
command_some (LetVar place e) d = let h = term_some e d in omega arith
command_some (SetTo r e) d = let h = term_some e d in omega arith
command_some (GiveOf e) d = let h = term_some e d in omega arith
command_some (Requires t code) d = let h = term_some t.left d in omega arith
command_some (When t body) d = let h = term_some t.left d in omega arith
command_some (Choice t first second) d = let h = term_some t.left d in omega arith
command_some (Loop n body) d = times_some n (block body) (block_length body) d

some_by : (b : Block) (d : Environment) → 1 ≤ block_length b d + if_goes (block b d) (λ after. 1)
some_by Nothing d = omega arith
some_by (Then c rest) d = let h = command_some c d in omega arith

pub ends_within : EndsWithinItsCost
unfolding length_on
ends_within p reads =
    let d = begun p reads in
    let r = goes_le (block p.body d) (λ after. 1) 1 (λ after. omega arith) in
    (some_by p.body d, omega (arith, block_le p.body d, r))
