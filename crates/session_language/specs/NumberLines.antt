-- Lines of sessions of numbers alone, in which a quotation mark is a stray byte as any other that begins nothing.
use Rattle.std.specs.Prelude.{◌≡◌, ℕ, zero, suc, List, [], ◌∷◌, length, take, drop, Result, if◌then◌else◌}
use Rattle.bottle_values.specs.declared.version.Version.TheVariants.{One}
use Rattle.office_map.specs.PlanValue.{PlanValue}
use Rattle.text_lines.specs.Text.{is_blank, is_name_byte}
use Rattle.session_language.specs.declared.fault.SessionRule.{SessionRule}
use Rattle.session_language.specs.Lexer.{Piece, AWord, word_len, long_symbol, symbol_at}
use Rattle.session_language.specs.Form.{form_of}
use Rattle.session_language.specs.Reading.{Reading, take_formed, take_line}

-- the piece that begins with the byte b, and what follows it
abbrev pub number_piece_at : ℕ → List ℕ → Piece × List ℕ
number_piece_at b bs = if is_name_byte b then (AWord (take (word_len (b ∷ bs)) (b ∷ bs)), drop (word_len (b ∷ bs)) (b ∷ bs)) else symbol_at (long_symbol b bs) b bs

-- each step takes a byte at least, so n is enough where it is the length
abbrev pub number_pieces_in : ℕ → List ℕ → List Piece
number_pieces_in zero bs = []
number_pieces_in (suc n) [] = []
number_pieces_in (suc n) (b ∷ bs) = if is_blank b then number_pieces_in n bs else (number_piece_at b bs).0 ∷ number_pieces_in n (number_piece_at b bs).1

-- the pieces of a line: words, symbols and stray bytes
abbrev pub number_pieces_of : List ℕ → List Piece
number_pieces_of line = number_pieces_in (length line) line

-- what a line leaves of what was read before it, or why it is refused
abbrev pub take_number_line : PlanValue → Reading → List ℕ → Result Reading SessionRule
take_number_line p x line = take_formed p x (form_of One (number_pieces_of line))

-- A line under a plan of version 1 means what it means as a line of numbers alone, or has the fault that it has there.
abbrev pub NumbersMeanTheSame : Type 0
NumbersMeanTheSame = (p : PlanValue) (x : Reading) (line : List ℕ) → p.version ≡ One → take_line p x line ≡ take_number_line p x line
