-- What a text of sessions means under a plan, line by line, and which is its first fault.
use Rattle.std.specs.Prelude.{ℕ, ◌+◌, List, [], ◌∷◌, ◌++◌, length, Bool, true, false, not, ◌&&◌, ◌||◌, nat_lt, nat_le, is_some, Option, Some, None, Result, Ok, Err, if◌then◌else◌, position, unwrap_or}
use Rattle.std.specs.Option.{ok_or}
use Rattle.std.specs.Str.{bytes_eq}
use Rattle.office_map.specs.PlanValue.{PlanValue, office_named}
use Rattle.office_map.specs.PlanText.{◌>>=◌, ◌>>◌, refuse_if}
use Rattle.text_lines.specs.Text.{lines, statements}
use Rattle.session_language.specs.declared.fault.SessionRule.{SessionRule}
use Rattle.session_language.specs.declared.fault.SessionRule.TheVariants.{Syntax, UnknownName, UnknownRecord, TooDeep, TooLong, TooManyRecords, TooManyGives, TooManyVariables}
use Rattle.session_language.specs.declared.fault.SessionRefusal.{SessionRefusal}
use Rattle.session_meaning.specs.Tree.{Term, Test, Command, LetVar, SetTo, GiveOf, Requires, When, Choice, Loop, Block}
use Rattle.session_meaning.specs.refinement.TreeOfStatements.{block_from}
use Rattle.session_meaning.specs.ProgramValue.{ProgramValue}
use Rattle.session_language.specs.Names.{Scope, placed, record_of, knows_variables, knows_records}
use Rattle.session_programs.specs.measures.Needs.{with_record, term_needs, test_needs}
use Rattle.session_programs.specs.measures.Measures.{block_gives}
use Rattle.session_programs.specs.Program.{is_too_long}
use Rattle.session_language.specs.declared.keyword.Keyword.{Keyword}
use Rattle.session_language.specs.Lexer.{Piece, pieces_of}
use Rattle.session_language.specs.Form.{Said, Lets, Sets, Gives, Demands, Asks, Repeats, Form, Opens, Says, Otherwise, Closes, form_of, form_after}
use Rattle.session_language.specs.Limits.{most_sessions, most_text}
use Rattle.session_programs.specs.Limits.{most_depth, most_blocks, most_records, most_variables, most_gives}

-- how an open block begins: an `if` before its `else`, or after it, with its first part, or a `repeat`
pub data Head : Type 0 where
  IfHead : (t : Test) → Head
  ElseHead : (t : Test) (first : Block) → Head
  RepeatHead : (turns : ℕ) → Head

-- a block that is open, and the statements before it in the block around it
pub record OpenBlock : Type 0 where
  pub before : List Command
  pub head : Head

-- a session that is open: its office, its variables and the records that it names so far, the blocks that are open, the
-- innermost first, and the statements so far of the innermost
pub record Draft : Type 0 where
  pub office : ℕ
  pub variables : List (List ℕ)
  pub named : List ℕ
  pub outer : List OpenBlock
  pub body : List Command

-- the sessions that are closed, and the one that is open
pub record Reading : Type 0 where
  pub done : List ProgramValue
  pub open_session : Option Draft

abbrev pub scope_in : PlanValue → Draft → Scope
scope_in p d = record { plan = p; office = d.office; variables = d.variables }

-- the first line of a statement with its names in their places; a variable that is let is still text
pub data Spoken : Type 0 where
  SpeaksLet : (name : List ℕ) (e : Term) → Spoken
  SpeaksSet : (r : ℕ) (e : Term) → Spoken
  SpeaksGive : (e : Term) → Spoken
  SpeaksDemand : (t : Test) (code : ℕ) → Spoken
  SpeaksIf : (t : Test) → Spoken
  SpeaksRepeat : (turns : ℕ) → Spoken

abbrev pub spoken_of : Scope → Said → Spoken
spoken_of s (Lets name e) = SpeaksLet name (placed s e.tree)
spoken_of s (Sets name e) = SpeaksSet (unwrap_or (record_of s name) 0) (placed s e.tree)
spoken_of s (Gives e) = SpeaksGive (placed s e.tree)
spoken_of s (Demands l c r code) = SpeaksDemand (record { left = placed s l.tree; comparison = c; right = placed s r.tree }) code
spoken_of s (Asks l c r) = SpeaksIf (record { left = placed s l.tree; comparison = c; right = placed s r.tree })
spoken_of s (Repeats n) = SpeaksRepeat n

abbrev pub are_variables_known : Scope → Said → Bool
are_variables_known s (Lets name e) = knows_variables s e.tokens
are_variables_known s (Sets name e) = knows_variables s e.tokens
are_variables_known s (Gives e) = knows_variables s e.tokens
are_variables_known s (Demands l c r code) = knows_variables s l.tokens && knows_variables s r.tokens
are_variables_known s (Asks l c r) = knows_variables s l.tokens && knows_variables s r.tokens
are_variables_known s (Repeats n) = true

abbrev pub are_records_known : Scope → Said → Bool
are_records_known s (Lets name e) = knows_records s e.tokens
are_records_known s (Sets name e) = is_some (record_of s name) && knows_records s e.tokens
are_records_known s (Gives e) = knows_records s e.tokens
are_records_known s (Demands l c r code) = knows_records s l.tokens && knows_records s r.tokens
are_records_known s (Asks l c r) = knows_records s l.tokens && knows_records s r.tokens
are_records_known s (Repeats n) = true

abbrev pub is_too_deep : Said → Bool
is_too_deep (Lets name e) = nat_lt most_depth e.depth
is_too_deep (Sets name e) = nat_lt most_depth e.depth
is_too_deep (Gives e) = nat_lt most_depth e.depth
is_too_deep (Demands l c r code) = nat_lt most_depth l.depth || nat_lt most_depth r.depth
is_too_deep (Asks l c r) = nat_lt most_depth l.depth || nat_lt most_depth r.depth
is_too_deep (Repeats n) = false

-- the statement, or the first refusal of its names and depth
abbrev pub speak : Scope → Said → Result Spoken SessionRule
speak s said = do
  refuse_if (not (are_variables_known s said)) UnknownName
  refuse_if (not (are_records_known s said)) UnknownRecord
  refuse_if (is_too_deep said) TooDeep
  Ok (spoken_of s said)

-- the variables, with one more unless it is there
abbrev pub with_variable : List ℕ → List (List ℕ) → List (List ℕ)
with_variable name variables = if is_some (position (λ v. bytes_eq v name) variables) then variables else variables ++ name ∷ []

abbrev pub place_of : List ℕ → List (List ℕ) → ℕ
place_of name variables = unwrap_or (position (λ v. bytes_eq v name) variables) 0

abbrev pub variables_after : List (List ℕ) → Spoken → List (List ℕ)
variables_after variables (SpeaksLet name e) = with_variable name variables
variables_after variables (SpeaksSet r e) = variables
variables_after variables (SpeaksGive e) = variables
variables_after variables (SpeaksDemand t code) = variables
variables_after variables (SpeaksIf t) = variables
variables_after variables (SpeaksRepeat n) = variables

-- the records, with those that one more line names
abbrev pub named_after : List ℕ → Spoken → List ℕ
named_after rs (SpeaksLet name e) = term_needs e rs
named_after rs (SpeaksSet r e) = term_needs e (with_record r rs)
named_after rs (SpeaksGive e) = term_needs e rs
named_after rs (SpeaksDemand t code) = test_needs t rs
named_after rs (SpeaksIf t) = test_needs t rs
named_after rs (SpeaksRepeat n) = rs

-- one more statement of one line, and one more block
abbrev pub with_command : Draft → Command → Draft
with_command d c = record { office = d.office; variables = d.variables; named = d.named; outer = d.outer; body = d.body ++ c ∷ [] }

abbrev pub with_block : Draft → Head → Draft
with_block d head = record { office = d.office; variables = d.variables; named = d.named; outer = record { before = d.body; head = head } ∷ d.outer; body = [] }

-- the line in its place, once its names are known
abbrev pub with_line : Draft → Spoken → Draft
with_line d (SpeaksLet name e) = with_command d (LetVar (place_of name d.variables) e)
with_line d (SpeaksSet r e) = with_command d (SetTo r e)
with_line d (SpeaksGive e) = with_command d (GiveOf e)
with_line d (SpeaksDemand t code) = with_command d (Requires t code)
with_line d (SpeaksIf t) = with_block d (IfHead t)
with_line d (SpeaksRepeat n) = with_block d (RepeatHead n)

abbrev pub with_names : Draft → Spoken → Draft
with_names d x = record { office = d.office; variables = variables_after d.variables x; named = named_after d.named x; outer = d.outer; body = d.body }

abbrev pub opens_block : Spoken → Bool
opens_block (SpeaksLet name e) = false
opens_block (SpeaksSet r e) = false
opens_block (SpeaksGive e) = false
opens_block (SpeaksDemand t code) = false
opens_block (SpeaksIf t) = true
opens_block (SpeaksRepeat n) = true

abbrev pub within_limits : Draft → Result Draft SessionRule
within_limits d = do
  refuse_if (nat_lt most_records (length d.named)) TooManyRecords
  refuse_if (nat_lt most_variables (length d.variables)) TooManyVariables
  Ok d

abbrev pub add : Draft → Spoken → Result Draft SessionRule
add d x = do
  refuse_if (opens_block x && nat_le most_blocks (length d.outer)) TooDeep
  within_limits (with_line (with_names d x) x)

-- an `else`: the innermost block has to be the first part of an `if`
abbrev pub with_second : Draft → List Command → Test → List OpenBlock → Draft
with_second d before t outer = record { office = d.office; variables = d.variables; named = d.named; outer = record { before = before; head = ElseHead t (block_from d.body) } ∷ outer; body = [] }

abbrev pub turned : Draft → List Command → Head → List OpenBlock → Result Draft SessionRule
turned d before (IfHead t) outer = Ok (with_second d before t outer)
turned d before (ElseHead t first) outer = Err Syntax
turned d before (RepeatHead n) outer = Err Syntax

abbrev pub turned_in : Draft → List OpenBlock → Result Draft SessionRule
turned_in d [] = Err Syntax
turned_in d (b ∷ outer) = turned d b.before b.head outer

-- the statement that a block is, once it ends
abbrev pub whole : Head → Block → Command
whole (IfHead t) body = When t body
whole (ElseHead t first) body = Choice t first body
whole (RepeatHead n) body = Loop n body

abbrev pub with_end : Draft → OpenBlock → List OpenBlock → Draft
with_end d b outer = record { office = d.office; variables = d.variables; named = d.named; outer = outer; body = b.before ++ whole b.head (block_from d.body) ∷ [] }

abbrev pub program_of : Draft → ProgramValue
program_of d = record { office = d.office; variables = d.variables; body = block_from d.body }

-- a session that is closed, all blocks of which have ended
abbrev pub closed : Draft → Result ProgramValue SessionRule
closed d = do
  refuse_if (is_too_long (program_of d)) TooLong
  refuse_if (nat_lt most_gives (block_gives (block_from d.body))) TooManyGives
  Ok (program_of d)

-- an `end` closes the innermost block, or else the session
pub data Ended : Type 0 where
  Going : (d : Draft) → Ended
  Closed : (p : ProgramValue) → Ended

abbrev pub ended_in : Draft → List OpenBlock → Result Ended SessionRule
ended_in d [] = do
  program ← closed d
  Ok (Closed program)
ended_in d (b ∷ outer) = Ok (Going (with_end d b outer))

abbrev pub ended : Draft → Result Ended SessionRule
ended d = ended_in d d.outer

abbrev pub begun : ℕ → Draft
begun office = record { office = office; variables = []; named = []; outer = []; body = [] }

abbrev pub with_open : Reading → Draft → Reading
with_open x d = record { done = x.done; open_session = Some d }

abbrev pub with_closed : Reading → ProgramValue → Reading
with_closed x p = record { done = x.done ++ p ∷ []; open_session = None }

abbrev pub with_ended : Reading → Ended → Reading
with_ended x (Going d) = with_open x d
with_ended x (Closed p) = with_closed x p

-- a line of each form; one that can't stand where it stands is a fault of syntax
abbrev pub take_opening : PlanValue → Reading → Option Draft → List ℕ → Result Reading SessionRule
take_opening p x (Some d) name = Err Syntax
take_opening p x None name = do
  office ← ok_or (office_named p name) UnknownName
  refuse_if (nat_le most_sessions (length x.done)) TooLong
  Ok (with_open x (begun office))

abbrev pub take_statement : PlanValue → Reading → Option Draft → Said → Result Reading SessionRule
take_statement p x None said = Err Syntax
take_statement p x (Some d) said = do
  spoken ← speak (scope_in p d) said
  next ← add d spoken
  Ok (with_open x next)

abbrev pub take_closing : Reading → Option Draft → Result Reading SessionRule
take_closing x None = Err Syntax
take_closing x (Some d) = do
  e ← ended d
  Ok (with_ended x e)

abbrev pub take_otherwise : Reading → Option Draft → Result Reading SessionRule
take_otherwise x None = Err Syntax
take_otherwise x (Some d) = do
  next ← turned_in d d.outer
  Ok (with_open x next)

abbrev pub take_form : PlanValue → Reading → Form → Result Reading SessionRule
take_form p x (Opens name) = take_opening p x x.open_session name
take_form p x (Says said) = take_statement p x x.open_session said
take_form p x Otherwise = take_otherwise x x.open_session
take_form p x Closes = take_closing x x.open_session

abbrev pub take_formed : PlanValue → Reading → Option Form → Result Reading SessionRule
take_formed p x form = ok_or form Syntax >>= take_form p x

-- what a line leaves of what was read before it, or why it is refused
abbrev pub take_line : PlanValue → Reading → List ℕ → Result Reading SessionRule
take_line p x line = take_formed p x (form_of p.version (pieces_of line))

-- what stands after the first word of a line
abbrev pub take_after : PlanValue → Reading → Keyword → List Piece → Result Reading SessionRule
take_after p x k ps = take_formed p x (form_after p.version k ps)

abbrev pub at_line : {A : Type 0} → ℕ → Result A SessionRule → Result A SessionRefusal
at_line n (Ok x) = Ok x
at_line n (Err rule) = Err (record { rule = rule; line = n })

-- each line in order, on what those before it leave
abbrev pub read_lines : PlanValue → Reading → List (ℕ × List ℕ) → Result Reading SessionRefusal
read_lines p x [] = Ok x
read_lines p x (l ∷ ls) = at_line l.0 (take_line p x l.1) >>= λ y. read_lines p y ls

-- before the first line
abbrev pub nothing_read : Reading
nothing_read = record { done = []; open_session = None }

-- all sessions are closed; else the fault is past the last line
abbrev pub unless_open : ℕ → List ProgramValue → Option Draft → Result (List ProgramValue) SessionRefusal
unless_open count ps None = Ok ps
unless_open count ps (Some d) = Err (record { rule = Syntax; line = count + 1 })

abbrev pub all_closed : ℕ → Reading → Result (List ProgramValue) SessionRefusal
all_closed count x = unless_open count x.done x.open_session

-- The programs that a text means under a plan, or its first fault.
unfoldable pub sessions_of : PlanValue → List ℕ → Result (List ProgramValue) SessionRefusal
sessions_of p text = do
  refuse_if (nat_lt most_text (length text)) (record { rule = TooLong; line = 0 })
  x ← read_lines p nothing_read (statements text)
  all_closed (length (lines text)) x
