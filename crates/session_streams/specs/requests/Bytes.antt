-- What a client asks by bytes, in whatever parts they come.
use Rattle.std.specs.Prelude.{ℕ, ◌+◌, ◌^◌, ◌==◌, List, [], ◌∷◌, ◌++◌, length, Bool, true, false, nat_lt, if◌then◌else◌}
use Rattle.text_lines.specs.Text.{lines, statements_from}
use Rattle.office_map.specs.PlanValue.{PlanValue}
use Rattle.session_language.specs.Limits.{most_text}
use Rattle.session_streams.specs.declared.requests.asked.Asked.{Asked}
use Rattle.session_streams.specs.requests.Requests.{Asking, quiet, ask_all, overlong, given_up}

-- where it stands: the number of the line that comes, and its bytes so far, or that it is too long and was told
pub record Taking : Type 0 where
  pub asking : Asking
  pub number : ℕ
  pub ahead : List ℕ
  pub skips : Bool

-- before the first byte
abbrev pub nothing_taken : Taking
nothing_taken = record { asking = quiet; number = 1; ahead = []; skips = false }

-- lines are numbered so far
abbrev pub last_number : ℕ
last_number = 2 ^ 62

abbrev pub next_number : ℕ → ℕ
next_number n = if nat_lt n last_number then n + 1 else n

-- where the next line begins, after what a line asked for
abbrev pub next_line : Taking → Asking × List Asked → Taking × List Asked
next_line t asked = (record { asking = asked.0; number = next_number t.number; ahead = []; skips = false }, asked.1)

-- the line whose bytes these are says something, or nothing
abbrev pub line_asks : PlanValue → ℕ → Taking → List ℕ → Asking × List Asked
line_asks p me t bytes = ask_all p me t.asking (statements_from t.number (lines bytes))

abbrev pub line_ended : PlanValue → ℕ → Taking → Taking × List Asked
line_ended p me t = if t.skips then next_line t (t.asking, []) else next_line t (line_asks p me t (t.ahead ++ 10 ∷ []))

-- one byte more of a line, which may have as many as a text
abbrev pub too_long : Taking → Taking × List Asked
too_long t = (record { asking = (overlong t.number t.asking).0; number = t.number; ahead = []; skips = true }, (overlong t.number t.asking).1)

abbrev pub byte_kept : Taking → ℕ → Taking × List Asked
byte_kept t b =
    if t.skips then (t, []) else if nat_lt (length t.ahead) most_text then (record t { ahead = t.ahead ++ b ∷ [] }, []) else too_long t

abbrev pub byte_taken : PlanValue → ℕ → Taking → ℕ → Taking × List Asked
byte_taken p me t b = if b == 10 then line_ended p me t else byte_kept t b

-- Bytes in order: what they ask for, and where the stream stands then.
abbrev pub taken : PlanValue → ℕ → Taking → List ℕ → Taking × List Asked
taken p me t [] = (t, [])
taken p me t (b ∷ bs) = ((taken p me (byte_taken p me t b).0 bs).0, (byte_taken p me t b).1 ++ (taken p me (byte_taken p me t b).0 bs).1)

-- what is there of a line is one
abbrev pub last_line : PlanValue → ℕ → Taking → Taking × List Asked
last_line p me t = if t.skips then next_line t (t.asking, []) else if length t.ahead == 0 then (t, []) else next_line t (line_asks p me t t.ahead)

-- what is asked where the stream ends: by its last line, and by what is given up
abbrev pub at_end : PlanValue → ℕ → Taking → List Asked
at_end p me t = (last_line p me t).1 ++ given_up (last_line p me t).0.number (last_line p me t).0.asking

-- What is asked by a text that ends.
abbrev pub asked_by : PlanValue → ℕ → List ℕ → List Asked
asked_by p me text = (taken p me nothing_taken text).1 ++ at_end p me (taken p me nothing_taken text).0
