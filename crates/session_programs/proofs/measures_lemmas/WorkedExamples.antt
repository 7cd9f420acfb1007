-- A worked example of the measures, by computing.
use Rattle.std.specs.Prelude.{◌≡◌, ℕ, pos, refl}
use Rattle.bottle_values.specs.declared.Value.TheVariants.{Number}
use Rattle.session_meaning.specs.declared.node.Operator.TheVariants as op
use Rattle.session_meaning.specs.declared.node.Comparison.TheVariants as cmp
use Rattle.session_meaning.specs.Tree.{Term, Constant, Var, Neg, Bin, LetVar, GiveOf, Choice, Loop, Block, Nothing, Then}
use Rattle.session_programs.specs.measures.Measures.{block_cost, block_gives, block_statements}

abbrev pub number : ℕ → Term
number n = Constant (Number (pos n))

-- let i = 0, repeat 3, let i = i + 1, if i * 2 > 3, give i, else, give -i, end, end
abbrev pub counting : Block
counting =
    Then (LetVar 0 (number 0))
    (Then (Loop 3 (Then (LetVar 0 (Bin op.Plus (Var 0) (number 1))) (Then (Choice (record { left = Bin op.Times (Var 0) (number 2); comparison = cmp.Greater; right = number 3 }) (Then (GiveOf (Var 0)) Nothing) (Then (GiveOf (Neg (Var 0))) Nothing)) Nothing))) Nothing)

pub counting_cost : ◌≡◌ {A = ℕ} (block_cost counting) 45
counting_cost = refl

pub counting_gives : ◌≡◌ {A = ℕ} (block_gives counting) 3
counting_gives = refl

pub counting_statements : ◌≡◌ {A = ℕ} (block_statements counting) 6
counting_statements = refl
