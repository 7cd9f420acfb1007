-- A line cut into words, symbols and what stands between two quotation marks, the longest each time.
use Rattle.std.specs.Prelude.{◌≡◌, ℕ, zero, suc, List, [], ◌∷◌, length, take, drop, Bool, true, false, ◌==◌, nat_lt, Option, Some, None, if◌then◌else◌}
use Rattle.std.specs.List.{prefix_len, position_or_len}
use Rattle.text_lines.specs.Text.{is_blank, is_name_byte}
use Rattle.session_language.specs.declared.lexer.Symbol.{Symbol}
use Rattle.session_language.specs.declared.lexer.Symbol.TheVariants.{Assign, Equal, NotEqual, Less, AtMost, Greater, AtLeast, Plus, Minus, Times, Open, Close}
use Rattle.session_language.specs.declared.lexer.Piece as code
use Rattle.session_language.specs.declared.lexer.Start.{Start}
use Rattle.session_language.specs.declared.lexer.Start.TheVariants.{Blank, Word, Sign, Quote, Other}
use Rattle.session_language.specs.declared.lexer.Piece.TheVariants as pieces

-- a word, a symbol, what stands between two quotation marks, or a stray byte
pub data Piece : Type 0 where
  AWord : (bytes : List ℕ) → Piece
  ASymbol : (s : Symbol) → Piece
  AQuoted : (bytes : List ℕ) → Piece
  -- a byte that begins none of these
  AStray : Piece

-- a piece of code as one of these
abbrev pub seen : code.Piece → Piece
seen (pieces.Word bytes) = AWord bytes.now
seen (pieces.Symbol s) = ASymbol s
seen (pieces.Quoted bytes) = AQuoted bytes.now
seen pieces.Stray = AStray

abbrev pub begins_equals : List ℕ → Bool
begins_equals [] = false
begins_equals (b ∷ bs) = b == 61

-- the symbol of one byte, and that of a byte and =
abbrev pub one_byte : ℕ → Option Symbol
one_byte b =
    if b == 61 then Some Assign else if b == 60 then Some Less else if b == 62 then Some Greater
    else if b == 43 then Some Plus else if b == 45 then Some Minus else if b == 42 then Some Times
    else if b == 40 then Some Open else if b == 41 then Some Close else None

abbrev pub two_bytes : ℕ → Option Symbol
two_bytes b = if b == 61 then Some Equal else if b == 33 then Some NotEqual else if b == 60 then Some AtMost else if b == 62 then Some AtLeast else None

abbrev pub symbol_or_stray : Option Symbol → Piece
symbol_or_stray (Some s) = ASymbol s
symbol_or_stray None = AStray

-- a symbol of two bytes where there is one, and else of one
abbrev pub symbol_at : Option Symbol → ℕ → List ℕ → Piece × List ℕ
symbol_at (Some s) b bs = (ASymbol s, drop 1 bs)
symbol_at None b bs = (symbol_or_stray (one_byte b), bs)

abbrev pub long_symbol : ℕ → List ℕ → Option Symbol
long_symbol b bs = if begins_equals bs then two_bytes b else None

-- how many bytes the word at the front has
abbrev pub word_len : List ℕ → ℕ
word_len = prefix_len is_name_byte

-- a quotation mark
abbrev pub is_quote : ℕ → Bool
is_quote b = b == 34

-- how many bytes come before the next quotation mark
abbrev pub quoted_len : List ℕ → ℕ
quoted_len = position_or_len is_quote

-- What a quotation mark begins, by the bytes after it: all up to the next one. Where there is no next one it is a stray byte.
abbrev pub quoted_at : List ℕ → Piece × List ℕ
quoted_at bs = if nat_lt (quoted_len bs) (length bs) then (AQuoted (take (quoted_len bs) bs), drop (suc (quoted_len bs)) bs) else (AStray, bs)

-- the piece that begins with the byte b, and what follows it
abbrev pub piece_at : ℕ → List ℕ → Piece × List ℕ
piece_at b bs =
    if is_name_byte b then (AWord (take (word_len (b ∷ bs)) (b ∷ bs)), drop (word_len (b ∷ bs)) (b ∷ bs))
    else if is_quote b then quoted_at bs else symbol_at (long_symbol b bs) b bs

-- what the code says of the byte that a piece begins with
abbrev pub Begins : Start → ℕ → Type 0
Begins Blank b = is_blank b ≡ true
Begins Word b = (is_blank b ≡ false) × (is_name_byte b ≡ true)
Begins (Sign s) b = (is_blank b ≡ false) × ((bs : List ℕ) → piece_at b bs ≡ (ASymbol s, bs))
Begins Quote b = (is_blank b ≡ false) × ((bs : List ℕ) → piece_at b bs ≡ quoted_at bs)
Begins Other b = (is_blank b ≡ false) × (is_name_byte b ≡ false) × (is_quote b ≡ false)

-- each step takes a byte at least, so n is enough where it is the length
abbrev pub pieces_in : ℕ → List ℕ → List Piece
pieces_in zero bs = []
pieces_in (suc n) [] = []
pieces_in (suc n) (b ∷ bs) = if is_blank b then pieces_in n bs else (piece_at b bs).0 ∷ pieces_in n (piece_at b bs).1

-- the pieces of a line, each the longest there
unfoldable pub pieces_of : List ℕ → List Piece
pieces_of line = pieces_in (length line) line
