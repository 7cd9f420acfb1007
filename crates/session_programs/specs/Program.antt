-- What is asked of a whole program: whether it fits a plan, its canonical text under that plan, and whether it is too long.
use Rattle.std.specs.Prelude.{ℕ, List, [], length, Bool, ◌&&◌, ◌||◌, nat_lt, unwrap_or}
use Rattle.std.specs.List.{list_all}
use Rattle.office_map.specs.PlanValue.{PlanValue, is_end, office_name_of, record_name_of}
use Rattle.session_meaning.specs.ProgramValue.{ProgramValue}
use Rattle.session_meaning.specs.Tree.{Block}
use Rattle.session_meaning.specs.Fitting.{block_fits}
use Rattle.session_programs.specs.measures.Needs.{needs_of}
use Rattle.session_programs.specs.measures.Measures.{block_statements, block_cost}
use Rattle.session_programs.specs.Limits.{most_statements, most_cost, most_bytes}
use Rattle.session_programs.specs.Text.{Words, session_text, wide_words}

-- the program's office is the plan's, each record that it needs is of that office, and the plan's version has its literals
abbrev pub fits : PlanValue → ProgramValue → Bool
fits p x = (nat_lt x.office (length p.offices) && list_all (λ r. is_end p r x.office) (needs_of x.body)) && block_fits p.version x.body

-- the plan's names, and the program's own
abbrev pub words_under : PlanValue → ProgramValue → Words
words_under p x = record { office = unwrap_or (office_name_of p x.office) []; variables = x.variables; record_name = λ r. unwrap_or (record_name_of p r) [] }

-- the canonical text of a program under a plan's names
abbrev pub text_under : PlanValue → ProgramValue → List ℕ
text_under p x = session_text (words_under p x) x.body

-- statements over these variables are past one of the limits of a session's length
abbrev pub are_too_long : (variables : List (List ℕ)) → Block → Bool
are_too_long variables body = (nat_lt most_statements (block_statements body) || nat_lt most_cost (block_cost body)) || nat_lt most_bytes (length (session_text (wide_words variables) body))

-- past one of the limits of a session's length
abbrev pub is_too_long : ProgramValue → Bool
is_too_long p = are_too_long p.variables p.body
