-- The forms of a line of sessions.
use Rattle.std.specs.Prelude.{ℕ, List, [], ◌∷◌, Option, Some, None, if◌then◌else◌, nat_lt, nat_le, option_map, option_and_then, codes}
use Rattle.std.specs.Str.{bytes_eq}
use Rattle.text_lines.specs.Text.{name_of, number_of}
use Rattle.bottle_values.specs.declared.version.Version.{Version}
use Rattle.session_meaning.specs.declared.node.Comparison.{Comparison}
use Rattle.session_meaning.specs.declared.node.Comparison.TheVariants.{Equal, NotEqual, Less, AtMost, Greater, AtLeast}
use Rattle.session_language.specs.declared.lexer.Symbol.{Symbol}
use Rattle.session_language.specs.declared.lexer.Symbol.TheVariants as symbol
use Rattle.session_language.specs.declared.keyword.Keyword.{Keyword}
use Rattle.session_language.specs.declared.keyword.Keyword.TheVariants.{Session, Let, Set, Give, Require, If, Else, Repeat, End, Other}
use Rattle.session_language.specs.Lexer.{Piece, AWord, ASymbol}
use Rattle.session_language.specs.Phrase.{Phrase, phrase_at}
use Rattle.session_programs.specs.Limits.{codes_end, most_turns}

-- the first line of a statement, its names still text; the lines of a block follow it
pub data Said : Type 0 where
  Lets : (name : List ℕ) (e : Phrase) → Said
  Sets : (name : List ℕ) (e : Phrase) → Said
  Gives : (e : Phrase) → Said
  Demands : (left : Phrase) (comparison : Comparison) (right : Phrase) (code : ℕ) → Said
  Asks : (left : Phrase) (comparison : Comparison) (right : Phrase) → Said
  Repeats : (turns : ℕ) → Said

pub data Form : Type 0 where
  Opens : (office : List ℕ) → Form
  Says : (s : Said) → Form
  Otherwise : Form
  Closes : Form

-- what the first word of a line says that the line is
abbrev pub keyword_of : List ℕ → Keyword
keyword_of w =
    if bytes_eq w (codes "session") then Session else if bytes_eq w (codes "let") then Let else if bytes_eq w (codes "set") then Set
    else if bytes_eq w (codes "give") then Give else if bytes_eq w (codes "require") then Require
    else if bytes_eq w (codes "if") then If else if bytes_eq w (codes "else") then Else else if bytes_eq w (codes "repeat") then Repeat
    else if bytes_eq w (codes "end") then End else Other

abbrev pub comparison_of : Symbol → Option Comparison
comparison_of symbol.Equal = Some Equal
comparison_of symbol.NotEqual = Some NotEqual
comparison_of symbol.Less = Some Less
comparison_of symbol.AtMost = Some AtMost
comparison_of symbol.Greater = Some Greater
comparison_of symbol.AtLeast = Some AtLeast
comparison_of symbol.Assign = None
comparison_of symbol.Plus = None
comparison_of symbol.Minus = None
comparison_of symbol.Times = None
comparison_of symbol.Open = None
comparison_of symbol.Close = None

-- a name, and nothing after it
abbrev pub name_alone : List Piece → Option (List ℕ)
name_alone (AWord w ∷ []) = name_of w
name_alone ps = None

-- an expression, and nothing after it
abbrev pub ends_there : Phrase × List Piece → Option Phrase
ends_there (e, []) = Some e
ends_there (e, p ∷ ps) = None

abbrev pub phrase_alone : Version → List Piece → Option Phrase
phrase_alone v ps = option_and_then ends_there (phrase_at v ps)

abbrev pub if_named : Option (List ℕ) → Option Phrase → Option (List ℕ × Phrase)
if_named (Some name) e = option_map (λ x. (name, x)) e
if_named None e = None

-- NAME = expression
abbrev pub assigned : Version → List Piece → Option (List ℕ × Phrase)
assigned v (AWord w ∷ ASymbol symbol.Assign ∷ ps) = if_named (name_of w) (phrase_alone v ps)
assigned v ps = None

abbrev pub small_code : Option ℕ → Option ℕ
small_code None = None
small_code (Some n) = if nat_lt n codes_end then Some n else None

-- else CODE, and nothing after it
abbrev pub else_code : List Piece → Option ℕ
else_code (AWord w ∷ AWord code ∷ []) = if bytes_eq w (codes "else") then small_code (number_of code) else None
else_code ps = None

abbrev pub demand : Phrase → Comparison → Phrase × List Piece → Option Said
demand left c x = option_map (Demands left c x.0) (else_code x.1)

abbrev pub question : Phrase → Comparison → Phrase × List Piece → Option Said
question left c x = option_map (Asks left c) (ends_there x)

-- what a line with a condition says, by what its last expression says
abbrev pub Last : Type 0
Last = Phrase → Comparison → Phrase × List Piece → Option Said

abbrev pub compared : Version → Last → Phrase → Option Comparison → List Piece → Option Said
compared v last left None ps = None
compared v last left (Some c) ps = option_and_then (last left c) (phrase_at v ps)

abbrev pub after_left : Version → Last → Phrase × List Piece → Option Said
after_left v last (left, ASymbol s ∷ ps) = compared v last left (comparison_of s) ps
after_left v last (left, ps) = None

-- expression comparison expression, and what comes last
abbrev pub condition : Version → Last → List Piece → Option Said
condition v last ps = option_and_then (after_left v last) (phrase_at v ps)

abbrev pub few_turns : Option ℕ → Option ℕ
few_turns None = None
few_turns (Some n) = if nat_le n most_turns then Some n else None

-- COUNT, and nothing after it
abbrev pub count_alone : List Piece → Option ℕ
count_alone (AWord w ∷ []) = few_turns (number_of w)
count_alone ps = None

abbrev pub if_empty : Form → List Piece → Option Form
if_empty f [] = Some f
if_empty f (p ∷ ps) = None

-- what stands after the first word, in a session under a plan of this version
abbrev pub said_after : Version → Keyword → List Piece → Option Said
said_after v Let ps = option_map (λ x. Lets x.0 x.1) (assigned v ps)
said_after v Set ps = option_map (λ x. Sets x.0 x.1) (assigned v ps)
said_after v Give ps = option_map Gives (phrase_alone v ps)
said_after v Require ps = condition v demand ps
said_after v If ps = condition v question ps
said_after v Repeat ps = option_map Repeats (count_alone ps)
said_after v Else ps = None
said_after v Session ps = None
said_after v End ps = None
said_after v Other ps = None

abbrev pub form_after : Version → Keyword → List Piece → Option Form
form_after v Session ps = option_map Opens (name_alone ps)
form_after v End ps = if_empty Closes ps
form_after v Let ps = option_map Says (said_after v Let ps)
form_after v Set ps = option_map Says (said_after v Set ps)
form_after v Give ps = option_map Says (said_after v Give ps)
form_after v Require ps = option_map Says (said_after v Require ps)
form_after v If ps = option_map Says (said_after v If ps)
form_after v Repeat ps = option_map Says (said_after v Repeat ps)
form_after v Else ps = if_empty Otherwise ps
form_after v Other ps = None

-- the form of a line, if it has one
abbrev pub form_of : Version → List Piece → Option Form
form_of v (AWord w ∷ ps) = form_after v (keyword_of w) ps
form_of v ps = None

-- a keyword that begins neither the first line of a session, nor `else`, nor `end`
abbrev pub IsStatement : Keyword → Type 0
IsStatement Session = ⊥
IsStatement End = ⊥
IsStatement Let = Unit {0}
IsStatement Set = Unit {0}
IsStatement Give = Unit {0}
IsStatement Require = Unit {0}
IsStatement If = Unit {0}
IsStatement Repeat = Unit {0}
IsStatement Else = ⊥
IsStatement Other = Unit {0}
