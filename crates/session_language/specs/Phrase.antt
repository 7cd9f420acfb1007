-- An expression within a line: the longest run of pieces that an expression may have.
use Rattle.std.specs.Prelude.{◌≡◌, ◌<◌, ◌≤◌, ℕ, min, List, [], ◌∷◌, Bool, true, false, Option, Some, None, if◌then◌else◌, option_map, codes}
use Rattle.std.specs.Str.{bytes_eq}
use Rattle.text_lines.specs.Text.{name_of, number_of}
use Rattle.bottle_values.specs.Texts.{is_text}
use Rattle.bottle_values.specs.declared.version.Version.{Version}
use Rattle.bottle_values.specs.declared.version.Version.TheVariants.{One, Two}
use Rattle.session_language.specs.declared.lexer.Symbol.{Symbol}
use Rattle.session_language.specs.declared.lexer.Symbol.TheVariants as symbol
use Rattle.session_language.specs.declared.lexer.Piece as code_piece
use Rattle.session_language.specs.declared.token.Operand as code_operand
use Rattle.session_language.specs.declared.token.Operand.TheVariants as operands
use Rattle.session_language.specs.declared.token.Token as code_token
use Rattle.session_language.specs.declared.token.Token.TheVariants as tokens
use Rattle.session_language.specs.declared.token.Next.{Next}
use Rattle.session_language.specs.declared.token.Next.TheVariants as nexts
use Rattle.session_meaning.specs.declared.node.Node.{Node}
use Rattle.session_language.specs.declared.summary.Summary.{Summary}
use Rattle.session_language.specs.Lexer.{Piece, AWord, ASymbol, AQuoted, AStray, seen}
use Rattle.session_meaning.specs.refinement.Postfix.{postfix}
use Rattle.session_language.specs.Spelling.{Operand, ANumber, AText, AVariable, ARecord, Spelled, Token, Leaf, Plus, Minus, Times, Open, Close}
use Rattle.session_language.specs.Parse.{Part, read_part}
use Rattle.session_language.specs.Names.{Scope, placed, knows_variables, knows_records}

abbrev pub expression_symbol : Symbol → Option Token
expression_symbol symbol.Plus = Some Plus
expression_symbol symbol.Minus = Some Minus
expression_symbol symbol.Times = Some Times
expression_symbol symbol.Open = Some Open
expression_symbol symbol.Close = Some Close
expression_symbol symbol.Assign = None
expression_symbol symbol.Equal = None
expression_symbol symbol.NotEqual = None
expression_symbol symbol.Less = None
expression_symbol symbol.AtMost = None
expression_symbol symbol.Greater = None
expression_symbol symbol.AtLeast = None

abbrev pub or_variable : Option ℕ → Option (List ℕ) → Option Operand
or_variable (Some n) name = Some (ANumber n)
or_variable None name = option_map AVariable name

-- a number or a variable's name
abbrev pub operand_in : List ℕ → Option Operand
operand_in word = or_variable (number_of word) (name_of word)

-- A text, where a plan of this version has texts, by what stands between two quotation marks.
abbrev pub text_in : Version → List ℕ → Option Operand
text_in One bytes = None
text_in Two bytes = if is_text bytes then Some (AText bytes) else None

-- the tokens at the front of a line, and the pieces after them
pub record Run : Type 0 where
  pub tokens : List Token
  pub rest : List Piece

abbrev pub stop_at : List Piece → Option Run
stop_at ps = Some (record { tokens = []; rest = ps })

abbrev pub with_token : Token → Option Run → Option Run
with_token t = option_map (λ r. record { tokens = t ∷ r.tokens; rest = r.rest })

abbrev pub with_symbol : Option Token → List Piece → Option Run → Option Run
with_symbol (Some t) here further = with_token t further
with_symbol None here further = stop_at here

abbrev pub with_operand : Option Operand → List Piece → Option Run → Option Run
with_operand (Some x) here further = with_token (Leaf x) further
with_operand None here further = stop_at here

abbrev pub with_record : Option (List ℕ) → Option Run → Option Run
with_record (Some name) further = with_token (Leaf (ARecord name)) further
with_record None further = None

abbrev pub is_read : List ℕ → Bool
is_read word = bytes_eq word (codes "read")

-- the flag says that the last word was `read`, after which a record's name must stand
abbrev pub run : Version → Bool → List Piece → Option Run
run v false [] = stop_at []
run v true [] = None
run v false (AWord w ∷ ps) = if is_read w then run v true ps else with_operand (operand_in w) (AWord w ∷ ps) (run v false ps)
run v true (AWord w ∷ ps) = with_record (name_of w) (run v false ps)
run v false (ASymbol s ∷ ps) = with_symbol (expression_symbol s) (ASymbol s ∷ ps) (run v false ps)
run v true (ASymbol s ∷ ps) = None
run v false (AQuoted bytes ∷ ps) = with_operand (text_in v bytes) (AQuoted bytes ∷ ps) (run v false ps)
run v true (AQuoted bytes ∷ ps) = None
run v false (AStray ∷ ps) = stop_at (AStray ∷ ps)
run v true (AStray ∷ ps) = None

-- an expression: its tokens, the tree that they spell, and how deep it is
pub record Phrase : Type 0 where
  pub tokens : List Token
  pub tree : Spelled
  pub depth : ℕ

abbrev pub phrase_of : List Token → List Piece → Option Part → Option (Phrase × List Piece)
phrase_of ts rest = option_map (λ x. (record { tokens = ts; tree = x.tree; depth = x.depth }, rest))

abbrev pub phrase_in : Option Run → Option (Phrase × List Piece)
phrase_in None = None
phrase_in (Some r) = phrase_of r.tokens r.rest (read_part r.tokens)

-- the expression at the front of a line, and the pieces after it
unfoldable pub phrase_at : Version → List Piece → Option (Phrase × List Piece)
phrase_at v ps = phrase_in (run v false ps)

-- the code's tokens
abbrev pub leaf_of : code_operand.Operand → Operand
leaf_of (operands.Number n) = ANumber n.value
leaf_of (operands.Variable name) = AVariable name
leaf_of (operands.Record name) = ARecord name

abbrev pub token_of : code_token.Token → Token
token_of (tokens.Leaf x) = Leaf (leaf_of x)
token_of tokens.Plus = Plus
token_of tokens.Minus = Minus
token_of tokens.Times = Times
token_of tokens.Open = Open
token_of tokens.Close = Close

-- the pieces from where an expression stopped
abbrev pub stopped : Option code_piece.Piece → List Piece → List Piece
stopped None ps = []
stopped (Some p) ps = seen p ∷ ps

-- what comes next in a run, and what follows it
abbrev pub Tells : Version → Next → Option Run → List Piece → Type 0
Tells v (nexts.Token t) r ps = r ≡ with_token (token_of t) (run v false ps)
Tells v (nexts.Text bytes) r ps = (r ≡ with_token (Leaf (AText bytes.now)) (run v false ps)) × (is_text bytes.now ≡ true)
Tells v (nexts.Stop p) r ps = r ≡ stop_at (stopped p ps)
Tells v nexts.Wrong r ps = r ≡ None

-- what the code keeps of an expression besides its nodes
abbrev pub summary_of : Scope → Phrase → Summary
summary_of s e = record { depth = min 33 e.depth; knows_variables = knows_variables s e.tokens; knows_records = knows_records s e.tokens }

abbrev pub Keeps : Summary → Scope → List Node → Phrase → Type 0
Keeps x s nodes e = (nodes ≡ postfix (placed s e.tree)) × (x ≡ summary_of s e)

abbrev pub Reads : Option (Summary × Option code_piece.Piece) → Scope → List Node → Option (Phrase × List Piece) → List Piece → Type 0
Reads None s nodes read ps = read ≡ None
Reads (Some (x, p)) s nodes read ps = (e : Phrase) × (read ≡ Some (e, stopped p ps)) × Keeps x s nodes e

-- a token takes a byte at least
abbrev pub IsShorter : Next → ℕ → ℕ → Type 0
IsShorter (nexts.Token t) old new = new < old
IsShorter (nexts.Text bytes) old new = new < old
IsShorter (nexts.Stop p) old new = new ≤ old
IsShorter nexts.Wrong old new = new ≤ old
