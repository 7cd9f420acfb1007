-- What holds of a session that is open, after each line.
use Rattle.std.specs.Prelude.{◌≡◌, ◌≢◌, ◌<◌, ◌≤◌, ℕ, suc, List, [], ◌∷◌, length, All, AllPairs, IsTrue}
use Rattle.text_lines.specs.Text.{is_name}
use Rattle.session_meaning.specs.refinement.TreeOfStatements.{block_from}
use Rattle.session_programs.specs.measures.Needs.{test_needs, block_needs}
use Rattle.session_language.specs.Reading.{Head, IfHead, ElseHead, RepeatHead, OpenBlock, Draft, Spoken, SpeaksLet, SpeaksSet, SpeaksGive, SpeaksDemand, SpeaksIf, SpeaksRepeat}
use Rattle.session_programs.specs.WellFormed.{IsExpressionOver, IsTestOver, AreStatements, known_after_block}
use Rattle.session_programs.specs.Limits.{most_blocks, most_turns, codes_end, most_records, most_variables}

-- what holds of the first line of a statement, whose variable is still a name, where so many variables are known
abbrev pub IsSpokenOver : ℕ → Spoken → Type 0
IsSpokenOver known (SpeaksLet name e) = IsTrue (is_name name) × IsExpressionOver known e
IsSpokenOver known (SpeaksSet r e) = IsExpressionOver known e
IsSpokenOver known (SpeaksGive e) = IsExpressionOver known e
IsSpokenOver known (SpeaksDemand t code) = IsTestOver known t × (code < codes_end)
IsSpokenOver known (SpeaksIf t) = IsTestOver known t
IsSpokenOver known (SpeaksRepeat n) = n ≤ most_turns

-- how many variables are known where the statements of a block go on
abbrev pub known_past : Head → ℕ → ℕ
known_past (IfHead t) n = n
known_past (ElseHead t first) n = known_after_block n first
known_past (RepeatHead turns) n = n

abbrev pub known_in : List OpenBlock → ℕ
known_in [] = 0
known_in (b ∷ outer) = known_past b.head (known_after_block (known_in outer) (block_from b.before))

-- the records that are named before them
abbrev pub named_past : Head → List ℕ → List ℕ
named_past (IfHead t) rs = test_needs t rs
named_past (ElseHead t first) rs = block_needs first (test_needs t rs)
named_past (RepeatHead turns) rs = rs

abbrev pub named_in : List OpenBlock → List ℕ
named_in [] = []
named_in (b ∷ outer) = named_past b.head (block_needs (block_from b.before) (named_in outer))

abbrev pub IsHeadOver : (around known : ℕ) → Head → Type 0
IsHeadOver around known (IfHead t) = IsTestOver known t
IsHeadOver around known (ElseHead t first) = IsTestOver known t × AreStatements around known first
IsHeadOver around known (RepeatHead turns) = turns ≤ most_turns

abbrev pub AreOpen : List OpenBlock → Type 0
AreOpen [] = Unit {0}
AreOpen (b ∷ outer) =
    (length outer < most_blocks) × AreStatements (length outer) (known_in outer) (block_from b.before)
    × IsHeadOver (suc (length outer)) (known_after_block (known_in outer) (block_from b.before)) b.head × AreOpen outer

-- the records named so far are those that its statements need
abbrev pub IsNamed : Draft → Type 0
IsNamed d = d.named ≡ block_needs (block_from d.body) (named_in d.outer)

pub record IsKept (d : Draft) : Type 0 where
  pub names : All (λ v. IsTrue (is_name v)) d.variables
  pub distinct : AllPairs (λ a b. a ≢ b) d.variables
  pub blocks : AreOpen d.outer
  pub statements : AreStatements (length d.outer) (known_in d.outer) (block_from d.body)
  pub all_let : known_after_block (known_in d.outer) (block_from d.body) ≡ length d.variables
  pub named : IsNamed d
  pub few_named : length d.named ≤ most_records
  pub few_variables : length d.variables ≤ most_variables
