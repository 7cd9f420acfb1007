-- A session takes as many steps as its length.
use Rattle.std.proofs.Common.{◌≡◌, ◌+◌, ℕ, zero, suc, List, [], ◌∷◌, Bool, true, false, Option, Some, None, Result, Ok, Err, refl, sym, ap, subst, arith}
use Rattle.bottle_values.specs.declared.Value.{Value}
use Rattle.bottle_values.specs.declared.ValueFault.{ValueFault}
use Rattle.session_meaning.specs.declared.ending.End.TheVariants.{Refused}
use Rattle.session_meaning.specs.Tree.{Term, Constant, Var, ReadOf, Neg, Bin, Test, Command, LetVar, SetTo, GiveOf, Requires, When, Choice, Loop, Block, Nothing, Then}
use Rattle.session_meaning.specs.Meaning.{Environment, Step, Goes, Ends, ended_by, apply, holds, negated, both, value_of, truth_of, with_value, with_truth, and_then, repeated, command, block, begun}
use Rattle.session_meaning.specs.Length.{length_on, if_ok, if_true, if_goes, term_length, test_length, times_length, command_length, block_length}
use Rattle.session_meaning.specs.Stepwise.{Item, minus, operator, compare, to_variable, to_record, give, require, choose, repeat, term_items, test_items, command_items, block_items, Stage, Left, Over, in_hand, told, step, IsLeft, Takes, no_step, step_more, start, LengthCountsSteps}

-- ---- steps after steps

as_many : (m n : ℕ) (s t : Stage) → m ≡ n → Takes m s t → Takes n s t
as_many m n s t e h = subst (λ k. Takes k s t) e h

and_more : (m n : ℕ) (s t u : Stage) → Takes m s t → Takes n t u → Takes (m + n) s u
and_more _ n _ _ u (no_step s) k = as_many n (0 + n) s u (omega arith) k
and_more _ n _ _ u (step_more m s t l h) k =
    as_many (suc (m + n)) (suc m + n) s u (omega arith) (step_more (m + n) s u l (and_more m n (step s) t u h k))

one_step : (s : Stage) → IsLeft s → Takes 1 s (step s)
one_step s l = step_more 0 s (step s) l (no_step (step s))

-- ---- expressions

-- what comes next, where there is a value
then_in_hand : (o : Result Value ValueFault) (rest : List Item) (vs : List Value) (t : Option Bool) (d : Environment) (n : ℕ) (next : Result Value ValueFault → Stage)
    → ((e : ValueFault) → next (Err e) ≡ Over (Ends (ended_by e))) → ((v : Value) → Takes n (Left rest (v ∷ vs) t d) (next (Ok v)))
    → Takes (if_ok o n) (in_hand o rest vs t d) (next o)
then_in_hand (Err e) rest vs t d n next over h = subst (Takes 0 (Over (Ends (ended_by e)))) (sym (over e)) (no_step (Over (Ends (ended_by e))))
then_in_hand (Ok v) rest vs t d n next over h = h v

pub term_steps : (e : Term) (rest : List Item) (vs : List Value) (t : Option Bool) (d : Environment)
    → Takes (term_length e d) (Left (term_items e rest) vs t d) (in_hand (value_of e d) rest vs t d)
term_steps (Constant v) rest vs t d = one_step (Left (term_items (Constant v) rest) vs t d) tt
term_steps (Var place) rest vs t d = one_step (Left (term_items (Var place) rest) vs t d) tt
term_steps (ReadOf r) rest vs t d = one_step (Left (term_items (ReadOf r) rest) vs t d) tt
term_steps (Neg e) rest vs t d =
    and_more (term_length e d) (if_ok (value_of e d) 1) (Left (term_items e (minus ∷ rest)) vs t d) (in_hand (value_of e d) (minus ∷ rest) vs t d)
    (in_hand (negated (value_of e d)) rest vs t d) (term_steps e (minus ∷ rest) vs t d)
    (then_in_hand (value_of e d) (minus ∷ rest) vs t d 1 (λ o. in_hand (negated o) rest vs t d) (λ e. refl) (λ v. one_step (Left (minus ∷ rest) (v ∷ vs) t d) tt))
term_steps (Bin op a b) rest vs t d =
    and_more (term_length a d) (if_ok (value_of a d) (term_length b d + if_ok (value_of b d) 1)) (Left (term_items a (term_items b (operator op ∷ rest))) vs t d)
    (in_hand (value_of a d) (term_items b (operator op ∷ rest)) vs t d) (in_hand (both (value_of a d) (value_of b d) (apply op)) rest vs t d)
    (term_steps a (term_items b (operator op ∷ rest)) vs t d)
    (then_in_hand (value_of a d) (term_items b (operator op ∷ rest)) vs t d (term_length b d + if_ok (value_of b d) 1) (λ o. in_hand (both o (value_of b d) (apply op)) rest vs t d) (λ e. refl)
    (λ x. and_more (term_length b d) (if_ok (value_of b d) 1) (Left (term_items b (operator op ∷ rest)) (x ∷ vs) t d)
    (in_hand (value_of b d) (operator op ∷ rest) (x ∷ vs) t d) (in_hand (both (Ok x) (value_of b d) (apply op)) rest vs t d)
    (term_steps b (operator op ∷ rest) (x ∷ vs) t d)
    (then_in_hand (value_of b d) (operator op ∷ rest) (x ∷ vs) t d 1 (λ o. in_hand (both (Ok x) o (apply op)) rest vs t d) (λ e. refl)
    (λ y. one_step (Left (operator op ∷ rest) (y ∷ (x ∷ vs)) t d) tt))))

-- ---- conditions

abbrev truth_in_hand : Result Bool ValueFault → List Item → Environment → Stage
truth_in_hand b rest d = told b rest [] d

test_steps : (t : Test) (rest : List Item) (d : Environment)
    → Takes (test_length t d) (Left (test_items t rest) [] None d) (truth_in_hand (truth_of t d) rest d)
test_steps t rest d =
    let compared = compare t.comparison ∷ rest in
    and_more (term_length t.left d) (if_ok (value_of t.left d) (term_length t.right d + if_ok (value_of t.right d) 1)) (Left (test_items t rest) [] None d)
    (in_hand (value_of t.left d) (term_items t.right compared) [] None d) (truth_in_hand (truth_of t d) rest d)
    (term_steps t.left (term_items t.right compared) [] None d)
    (then_in_hand (value_of t.left d) (term_items t.right compared) [] None d (term_length t.right d + if_ok (value_of t.right d) 1) (λ o. truth_in_hand (both o (value_of t.right d) (holds t.comparison)) rest d) (λ e. refl)
    (λ x. and_more (term_length t.right d) (if_ok (value_of t.right d) 1) (Left (term_items t.right compared) (x ∷ []) None d)
    (in_hand (value_of t.right d) compared (x ∷ []) None d) (truth_in_hand (both (Ok x) (value_of t.right d) (holds t.comparison)) rest d)
    (term_steps t.right compared (x ∷ []) None d)
    (then_in_hand (value_of t.right d) compared (x ∷ []) None d 1 (λ o. truth_in_hand (both (Ok x) o (holds t.comparison)) rest d) (λ e. refl)
    (λ y. one_step (Left compared (y ∷ (x ∷ [])) None d) tt))))

-- ---- statements

-- after a statement the rest comes, unless the session has ended
abbrev goes_on : Step → List Item → Stage
goes_on (Goes d) rest = Left rest [] None d
goes_on (Ends e) rest = Over (Ends e)

then_goes : (s : Step) (n : Environment → ℕ) (middle rest : List Item) (go : Environment → Step)
    → ((d : Environment) → Takes (n d) (Left middle [] None d) (goes_on (go d) rest)) → Takes (if_goes s n) (goes_on s middle) (goes_on (and_then s go) rest)
then_goes (Goes d) n middle rest go h = h d
then_goes (Ends e) n middle rest go h = no_step (Over (Ends e))

given : (o : Result Value ValueFault) (item : Item) (rest : List Item) (d : Environment) (go : Value → Step)
    → ((v : Value) → Takes 1 (Left (item ∷ rest) (v ∷ []) None d) (goes_on (go v) rest))
    → Takes (if_ok o 1) (in_hand o (item ∷ rest) [] None d) (goes_on (with_value o go) rest)
given (Err e) item rest d go h = no_step (Over (Ends (ended_by e)))
given (Ok v) item rest d go h = h v

required : (o : Result Bool ValueFault) (code : ℕ) (rest : List Item) (d : Environment)
    → Takes (if_ok o 1) (truth_in_hand o (require code ∷ rest) d) (goes_on (with_truth o (Goes d) (Ends (Refused code))) rest)
required (Err e) code rest d = no_step (Over (Ends (ended_by e)))
required (Ok true) code rest d = one_step (Left (require code ∷ rest) [] (Some true) d) tt
required (Ok false) code rest d = one_step (Left (require code ∷ rest) [] (Some false) d) tt

chosen : (o : Result Bool ValueFault) (first second : Block) (rest : List Item) (d : Environment) (m n : ℕ) (a b : Step)
    → Takes m (Left (block_items first rest) [] None d) (goes_on a rest) → Takes n (Left (block_items second rest) [] None d) (goes_on b rest)
    → Takes (if_true o (suc m) (suc n)) (truth_in_hand o (choose first second ∷ rest) d) (goes_on (with_truth o a b) rest)
chosen (Err e) first second rest d m n a b h k = no_step (Over (Ends (ended_by e)))
chosen (Ok true) first second rest d m n a b h k = step_more m (Left (choose first second ∷ rest) [] (Some true) d) (goes_on a rest) tt h
chosen (Ok false) first second rest d m n a b h k = step_more n (Left (choose first second ∷ rest) [] (Some false) d) (goes_on b rest) tt k

turns : (n : ℕ) (body : Block) (rest : List Item) (d : Environment)
    → ((after : List Item) (e : Environment) → Takes (block_length body e) (Left (block_items body after) [] None e) (goes_on (block body e) after))
    → Takes (times_length n (block body) (block_length body) d) (Left (repeat n body ∷ rest) [] None d) (goes_on (repeated n (block body) d) rest)
turns zero body rest d h = one_step (Left (repeat zero body ∷ rest) [] None d) tt
turns (suc n) body rest d h =
    let after = repeat n body ∷ rest in
    step_more (block_length body d + if_goes (block body d) (times_length n (block body) (block_length body))) (Left (repeat (suc n) body ∷ rest) [] None d)
    (goes_on (repeated (suc n) (block body) d) rest) tt
    (and_more (block_length body d) (if_goes (block body d) (times_length n (block body) (block_length body))) (Left (block_items body after) [] None d)
    (goes_on (block body d) after) (goes_on (repeated (suc n) (block body) d) rest) (h after d)
    (then_goes (block body d) (times_length n (block body) (block_length body)) after rest (repeated n (block body)) (λ e. turns n body rest e h)))

mutual
  command_steps : (c : Command) (rest : List Item) (d : Environment) → Takes (command_length c d) (Left (command_items c rest) [] None d) (goes_on (command c d) rest)
  command_steps (LetVar place e) rest d =
      and_more (term_length e d) (if_ok (value_of e d) 1) (Left (command_items (LetVar place e) rest) [] None d) (in_hand (value_of e d) (to_variable place ∷ rest) [] None d)
      (goes_on (command (LetVar place e) d) rest) (term_steps e (to_variable place ∷ rest) [] None d)
      (given (value_of e d) (to_variable place) rest d _ (λ v. one_step (Left (to_variable place ∷ rest) (v ∷ []) None d) tt))
  command_steps (SetTo r e) rest d =
      and_more (term_length e d) (if_ok (value_of e d) 1) (Left (command_items (SetTo r e) rest) [] None d) (in_hand (value_of e d) (to_record r ∷ rest) [] None d)
      (goes_on (command (SetTo r e) d) rest) (term_steps e (to_record r ∷ rest) [] None d)
      (given (value_of e d) (to_record r) rest d _ (λ v. one_step (Left (to_record r ∷ rest) (v ∷ []) None d) tt))
  command_steps (GiveOf e) rest d =
      and_more (term_length e d) (if_ok (value_of e d) 1) (Left (command_items (GiveOf e) rest) [] None d) (in_hand (value_of e d) (give ∷ rest) [] None d)
      (goes_on (command (GiveOf e) d) rest) (term_steps e (give ∷ rest) [] None d)
      (given (value_of e d) give rest d _ (λ v. one_step (Left (give ∷ rest) (v ∷ []) None d) tt))
  command_steps (Requires t code) rest d =
      and_more (test_length t d) (if_ok (truth_of t d) 1) (Left (command_items (Requires t code) rest) [] None d) (truth_in_hand (truth_of t d) (require code ∷ rest) d)
      (goes_on (command (Requires t code) d) rest) (test_steps t (require code ∷ rest) d) (required (truth_of t d) code rest d)
  command_steps (When t body) rest d =
      and_more (test_length t d) (if_true (truth_of t d) (suc (block_length body d)) 1) (Left (command_items (When t body) rest) [] None d)
      (truth_in_hand (truth_of t d) (choose body Nothing ∷ rest) d) (goes_on (command (When t body) d) rest) (test_steps t (choose body Nothing ∷ rest) d)
      (chosen (truth_of t d) body Nothing rest d (block_length body d) 0 (block body d) (Goes d) (block_steps body rest d) (no_step (Left rest [] None d)))
  command_steps (Choice t first second) rest d =
      and_more (test_length t d) (if_true (truth_of t d) (suc (block_length first d)) (suc (block_length second d))) (Left (command_items (Choice t first second) rest) [] None d)
      (truth_in_hand (truth_of t d) (choose first second ∷ rest) d) (goes_on (command (Choice t first second) d) rest) (test_steps t (choose first second ∷ rest) d)
      (chosen (truth_of t d) first second rest d (block_length first d) (block_length second d) (block first d) (block second d) (block_steps first rest d) (block_steps second rest d))
  command_steps (Loop n body) rest d = turns n body rest d (λ after e. block_steps body after e)

  block_steps : (b : Block) (rest : List Item) (d : Environment) → Takes (block_length b d) (Left (block_items b rest) [] None d) (goes_on (block b d) rest)
  block_steps Nothing rest d = no_step (Left rest [] None d)
  block_steps (Then c b) rest d =
      and_more (command_length c d) (if_goes (command c d) (block_length b)) (Left (block_items (Then c b) rest) [] None d) (goes_on (command c d) (block_items b rest))
      (goes_on (block (Then c b) d) rest) (command_steps c (block_items b rest) d)
      (then_goes (command c d) (block_length b) (block_items b rest) rest (block b) (λ e. block_steps b rest e))

-- ---- the session's end, and no other number

at_its_end : (s : Step) → Takes (if_goes s (λ d. 1)) (goes_on s []) (Over s)
at_its_end (Goes d) = one_step (Left [] [] None d) tt
at_its_end (Ends e) = no_step (Over (Ends e))

abbrev IsOver : Stage → Type 0
IsOver (Left items vs t d) = ⊥
IsOver (Over s) = Unit {0}

not_both : {A : Type 0} (s : Stage) → IsOver s → IsLeft s → A
not_both (Left items vs t d) h k = absurd h
not_both (Over s) h k = absurd k

one_number : (m n : ℕ) (s u w : Stage) → Takes m s u → Takes n s w → IsOver u → IsOver w → m ≡ n
one_number _ _ _ _ _ (no_step s) (no_step _) h k = refl
one_number _ _ _ _ _ (no_step s) (step_more n _ w l more) h k = not_both s h l
one_number _ _ _ _ _ (step_more m s u l more) (no_step _) h k = not_both s k l
one_number _ _ _ _ _ (step_more m s u l more) (step_more n _ w l' more') h k = ap suc (one_number m n (step s) u w more more' h k)

pub counted : LengthCountsSteps
unfolding length_on
counted p reads =
    let begins = begun p reads in
    let all : Takes (length_on p reads) (start p reads) (Over (block p.body begins)) =
    and_more (block_length p.body begins) (if_goes (block p.body begins) (λ d. 1)) (start p reads) (goes_on (block p.body begins) []) (Over (block p.body begins))
    (block_steps p.body [] begins) (at_its_end (block p.body begins)) in
    record { takes = all; no_other = λ n s h. one_number n (length_on p reads) (start p reads) (Over s) (Over (block p.body begins)) h all tt tt }
