-- What holds of every program: all that a text can mean, and no more.
use Rattle.std.specs.Prelude.{◌≡◌, ◌≢◌, ◌<◌, ◌≤◌, ◌^◌, ℕ, suc, max, ℤ, pos, negsuc, List, length, All, AllPairs, IsTrue, false}
use Rattle.bottle_values.specs.declared.Value.{Value}
use Rattle.bottle_values.specs.declared.Value.TheVariants.{Number, Text}
use Rattle.bottle_values.specs.Texts.{is_text}
use Rattle.text_lines.specs.Text.{is_name}
use Rattle.session_meaning.specs.declared.node.Operator.TheVariants as op
use Rattle.session_programs.specs.declared.rank.Rank.{Rank}
use Rattle.session_programs.specs.declared.rank.Rank.TheVariants.{Factor, Product, Sum}
use Rattle.session_meaning.specs.Tree.{Term, Constant, Var, ReadOf, Neg, Bin, Test, Command, LetVar, SetTo, GiveOf, Requires, When, Choice, Loop, Block, Nothing, Then}
use Rattle.session_meaning.specs.ProgramValue.{ProgramValue}
use Rattle.session_programs.specs.measures.Needs.{needs_of}
use Rattle.session_programs.specs.measures.Measures.{block_gives}
use Rattle.session_programs.specs.Text.{rank_of}
use Rattle.session_programs.specs.Program.{is_too_long}
use Rattle.session_programs.specs.Limits.{most_depth, most_blocks, most_turns, codes_end, most_records, most_variables, most_gives}

-- one more for parentheses, where the canonical text has them
abbrev pub factor_depth : Rank → ℕ → ℕ
factor_depth Factor d = d
factor_depth Product d = suc d
factor_depth Sum d = suc d

abbrev pub product_depth : Rank → ℕ → ℕ
product_depth Factor d = d
product_depth Product d = d
product_depth Sum d = suc d

-- how deep an expression is in its canonical text; no other text of it is less deep
abbrev pub depth : Term → ℕ
depth (Constant v) = 1
depth (Var k) = 1
depth (ReadOf r) = 1
depth (Neg e) = suc (factor_depth (rank_of e) (depth e))
depth (Bin op.Times a b) = suc (max (product_depth (rank_of a) (depth a)) (factor_depth (rank_of b) (depth b)))
depth (Bin op.Plus a b) = suc (max (depth a) (product_depth (rank_of b) (depth b)))
depth (Bin op.Minus a b) = suc (max (depth a) (product_depth (rank_of b) (depth b)))

abbrev pub IsUnsigned : ℤ → Type 0
IsUnsigned (pos n) = n < 2 ^ 63
IsUnsigned (negsuc n) = ⊥

-- a literal is a number, which has no sign, or a text that isn't too long
abbrev pub IsLiteral : Value → Type 0
IsLiteral (Number z) = IsUnsigned z
IsLiteral (Text t) = IsTrue (is_text t)

-- an expression over the first variables, so many as are known
abbrev pub IsOver : ℕ → Term → Type 0
IsOver known (Constant v) = IsLiteral v
IsOver known (Var k) = k < known
IsOver known (ReadOf r) = Unit {0}
IsOver known (Neg e) = IsOver known e
IsOver known (Bin o a b) = IsOver known a × IsOver known b

-- which is no deeper than a text may be
abbrev pub IsExpressionOver : ℕ → Term → Type 0
IsExpressionOver known e = IsOver known e × (depth e ≤ most_depth)

abbrev pub IsTestOver : ℕ → Test → Type 0
IsTestOver known t = IsExpressionOver known t.left × IsExpressionOver known t.right

-- how many variables are known after a statement; a `let` in a block counts for all later lines
abbrev mutual
  pub known_after : ℕ → Command → ℕ
  known_after known (LetVar k e) = max known (suc k)
  known_after known (SetTo r e) = known
  known_after known (GiveOf e) = known
  known_after known (Requires t code) = known
  known_after known (When t b) = known_after_block known b
  known_after known (Choice t a b) = known_after_block (known_after_block known a) b
  known_after known (Loop n b) = known_after_block known b

  pub known_after_block : ℕ → Block → ℕ
  known_after_block known Nothing = known
  known_after_block known (Then c rest) = known_after_block (known_after known c) rest

-- A statement with so many blocks around it, where so many variables are known. A `let` names a variable that is known,
-- or the next; its expression knows only those before.
abbrev mutual
  pub IsStatementOver : (around known : ℕ) → Command → Type 0
  IsStatementOver around known (LetVar k e) = (k ≤ known) × IsExpressionOver known e
  IsStatementOver around known (SetTo r e) = IsExpressionOver known e
  IsStatementOver around known (GiveOf e) = IsExpressionOver known e
  IsStatementOver around known (Requires t code) = IsTestOver known t × (code < codes_end)
  IsStatementOver around known (When t b) = (around < most_blocks) × IsTestOver known t × AreStatements (suc around) known b
  IsStatementOver around known (Choice t a b) = (around < most_blocks) × IsTestOver known t × AreStatements (suc around) known a × AreStatements (suc around) (known_after_block known a) b
  IsStatementOver around known (Loop n b) = (around < most_blocks) × (n ≤ most_turns) × AreStatements (suc around) known b

  pub AreStatements : (around known : ℕ) → Block → Type 0
  AreStatements around known Nothing = Unit {0}
  AreStatements around known (Then c rest) = IsStatementOver around known c × AreStatements around (known_after known c) rest

-- the variables are distinct names, in the order in which lines first let them
pub record IsDeclared (variables : List (List ℕ)) (body : Block) : Type 0 where
  pub names : All (λ v. IsTrue (is_name v)) variables
  pub distinct : AllPairs (λ a b. a ≢ b) variables
  pub statements : AreStatements 0 0 body
  pub all_let : known_after_block 0 body ≡ length variables

-- The variables are distinct names in the order of their first `let`, and no line reads one that none before it lets;
-- literals have no sign; and codes, counts of turns, depths, blocks in one another and measures are within the limits.
pub record IsWellFormed (p : ProgramValue) : Type 0 where
  pub declared : IsDeclared p.variables p.body
  pub few_records : length (needs_of p.body) ≤ most_records
  pub few_variables : length p.variables ≤ most_variables
  pub few_gives : block_gives p.body ≤ most_gives
  pub short : is_too_long p ≡ false
