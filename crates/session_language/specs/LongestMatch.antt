-- How a line is cut: into its longest pieces, with blanks between them.
use Rattle.std.specs.Prelude.{◌≡◌, ◌≢◌, ◌<◌, ℕ, List, [], ◌∷◌, ◌++◌, length, true, false, codes}
use Rattle.std.specs.List.{list_all, list_any}
use Rattle.text_lines.specs.Text.{is_blank, is_name_byte}
use Rattle.bottle_values.specs.Printed.{quoted}
use Rattle.session_language.specs.declared.lexer.Symbol.{Symbol}
use Rattle.session_language.specs.declared.lexer.Symbol.TheVariants.{Assign, Equal, NotEqual, Less, AtMost, Greater, AtLeast, Plus, Minus, Times, Open, Close}
use Rattle.session_language.specs.Lexer.{Piece, AWord, ASymbol, AQuoted, AStray, is_quote, pieces_of}

abbrev pub spelling : Symbol → List ℕ
spelling Assign = codes "="
spelling Equal = codes "=="
spelling NotEqual = codes "!="
spelling Less = codes "<"
spelling AtMost = codes "<="
spelling Greater = codes ">"
spelling AtLeast = codes ">="
spelling Plus = codes "+"
spelling Minus = codes "-"
spelling Times = codes "*"
spelling Open = codes "("
spelling Close = codes ")"

-- a byte that is no blank, no byte of a word, and no symbol
pub record IsStray (b : ℕ) : Type 0 where
  pub no_blank : is_blank b ≡ false
  pub no_word : is_name_byte b ≡ false
  pub no_symbol : (s : Symbol) → spelling s ≢ b ∷ []

-- these bytes are this piece: letters, digits and _, or a symbol, or two quotation marks and none between them, or a stray
-- byte
abbrev pub IsPiece : List ℕ → Piece → Type 0
IsPiece bs (AWord w) = (bs ≡ w) × (0 < length w) × (list_all is_name_byte w ≡ true)
IsPiece bs (ASymbol s) = bs ≡ spelling s
IsPiece bs (AQuoted t) = (bs ≡ quoted t) × (list_any is_quote t ≡ false)
IsPiece bs AStray = (b : ℕ) × (bs ≡ b ∷ []) × IsStray b

-- with more of the bytes that follow it, it would be no piece
abbrev pub IsLongest : List ℕ → List ℕ → Type 0
IsLongest front rest = (more after : List ℕ) (q : Piece) → rest ≡ more ++ after → IsPiece (front ++ more) q → more ≡ []

-- a line is these pieces, one after the other, each the longest there, and blanks
pub data IsCut : List ℕ → List Piece → Type 0 where
  nothing : IsCut [] []
  blank : (b : ℕ) (bs : List ℕ) (ps : List Piece) → is_blank b ≡ true → IsCut bs ps → IsCut (b ∷ bs) ps
  piece : (front rest : List ℕ) (p : Piece) (ps : List Piece) → IsPiece front p → IsLongest front rest → IsCut rest ps → IsCut (front ++ rest) (p ∷ ps)

-- the lexer's pieces of a line are those, and no others
pub record IsCutBy (line : List ℕ) (ps : List Piece) : Type 0 where
  pub cut : IsCut line ps → pieces_of line ≡ ps
  pub pieces : pieces_of line ≡ ps → IsCut line ps

-- the lexer cuts every line so
abbrev pub CutsTheLongest : Type 0
CutsTheLongest = (line : List ℕ) (ps : List Piece) → IsCutBy line ps
