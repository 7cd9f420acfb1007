-- A line, one piece after another.
use Rattle.std.proofs.Common.{◌≡◌, ℕ, zero, suc, ◌+◌, ◌≤◌, List, [], ◌∷◌, length, take, drop, Option, Some, None, Bool, true, false, nat_lt, refl, sym, ap, ◌∙◌, arith, length-drop, if◌then◌else◌}
use Rattle.std.specs.List.{prefix_len}
use Rattle.text_lines.specs.Text.{is_blank, is_name_byte}
use Rattle.session_language.specs.declared.lexer.Symbol.{Symbol}
use Rattle.session_language.specs.Lexer.{Piece, AWord, AQuoted, AStray, word_len, symbol_at, long_symbol, is_quote, quoted_len, quoted_at, piece_at, pieces_in, pieces_of}

symbol_shorter : (o : Option Symbol) (b : ℕ) (bs : List ℕ) → length (symbol_at o b bs).1 ≤ length bs
symbol_shorter (Some s) b bs = omega (arith, length-drop 1 bs)
symbol_shorter None b bs = omega arith

-- what is quoted, or a quotation mark after which there is no other
abbrev pub quoted_by : Bool → List ℕ → Piece × List ℕ
quoted_by v bs = if v then (AQuoted (take (quoted_len bs) bs), drop (suc (quoted_len bs)) bs) else (AStray, bs)

quoted_shorter : (bs : List ℕ) → length (quoted_at bs).1 ≤ length bs
quoted_shorter bs = by_end (nat_lt (quoted_len bs) (length bs))
  where
    by_end : (v : Bool) → length (quoted_by v bs).1 ≤ length bs
    by_end true = omega (arith, length-drop (suc (quoted_len bs)) bs)
    by_end false = omega arith

abbrev pub no_word_by : Bool → ℕ → List ℕ → Piece × List ℕ
no_word_by v b bs = if v then quoted_at bs else symbol_at (long_symbol b bs) b bs

no_word_shorter : (v : Bool) (b : ℕ) (bs : List ℕ) → length (no_word_by v b bs).1 ≤ length bs
no_word_shorter true b bs = quoted_shorter bs
no_word_shorter false b bs = symbol_shorter (long_symbol b bs) b bs

by_first : (v : Bool) (b : ℕ) (bs : List ℕ) → is_name_byte b ≡ v → length (piece_at b bs).1 ≤ length bs
by_first true b bs h = rw h (omega (arith, length-drop (1 + prefix_len is_name_byte bs) (b ∷ bs)))
by_first false b bs h = rw h (no_word_shorter (is_quote b) b bs)

pub piece_shorter : (b : ℕ) (bs : List ℕ) → length (piece_at b bs).1 ≤ length bs
piece_shorter b bs = by_first (is_name_byte b) b bs refl

-- any fuel that is enough gives the same
pub enough : (m n : ℕ) (bs : List ℕ) → length bs ≤ m → length bs ≤ n → pieces_in m bs ≡ pieces_in n bs
enough zero zero bs h k = refl
enough zero (suc n) [] h k = refl
enough zero (suc n) (b ∷ bs) h k = absurd (omega arith)
enough (suc m) zero [] h k = refl
enough (suc m) zero (b ∷ bs) h k = absurd (omega arith)
enough (suc m) (suc n) [] h k = refl
enough (suc m) (suc n) (b ∷ bs) h k =
    let shorter = piece_shorter b bs in
    by_blank (is_blank b) (enough m n bs (omega arith) (omega arith)) (enough m n (piece_at b bs).1 (omega arith) (omega arith))
  where
    by_blank : (v : Bool) → pieces_in m bs ≡ pieces_in n bs → pieces_in m (piece_at b bs).1 ≡ pieces_in n (piece_at b bs).1
        → (if v then pieces_in m bs else (piece_at b bs).0 ∷ pieces_in m (piece_at b bs).1) ≡ (if v then pieces_in n bs else (piece_at b bs).0 ∷ pieces_in n (piece_at b bs).1)
    by_blank true e f = e
    by_blank false e f = ap (λ ps. (piece_at b bs).0 ∷ ps) f

pub pieces_of-nil : pieces_of [] ≡ []
unfolding pieces_of
pieces_of-nil = refl

pub pieces_of-blank : (b : ℕ) (bs : List ℕ) → is_blank b ≡ true → pieces_of (b ∷ bs) ≡ pieces_of bs
unfolding pieces_of
pieces_of-blank b bs h = rw h refl

pub pieces_of-piece : (b : ℕ) (bs : List ℕ) → is_blank b ≡ false → pieces_of (b ∷ bs) ≡ (piece_at b bs).0 ∷ pieces_of (piece_at b bs).1
unfolding pieces_of
pieces_of-piece b bs h =
    let e = enough (length bs) (length (piece_at b bs).1) (piece_at b bs).1 (piece_shorter b bs) (omega arith) in
    rw h (ap (λ ps. (piece_at b bs).0 ∷ ps) e)

-- what is left of a line, past a blank and at a piece
pub past_blank : (rest : List ℕ) (b : ℕ) (bs : List ℕ) (all : List Piece) → rest ≡ b ∷ bs → is_blank b ≡ true → pieces_of rest ≡ all → pieces_of bs ≡ all
past_blank rest b bs all is blank so_far = sym (ap pieces_of is ∙ pieces_of-blank b bs blank) ∙ so_far

pub at_piece : (rest : List ℕ) (b : ℕ) (bs : List ℕ) (all : List Piece) (p : Piece) (left : List ℕ) → rest ≡ b ∷ bs → is_blank b ≡ false → (p, left) ≡ piece_at b bs → pieces_of rest ≡ all → all ≡ p ∷ pieces_of left
at_piece rest b bs all p left is blank found so_far =
    let one : pieces_of rest ≡ p ∷ pieces_of left = ap pieces_of is ∙ pieces_of-piece b bs blank ∙ ap (λ (x : Piece × List ℕ). x.0 ∷ pieces_of x.1) (sym found) in
    sym so_far ∙ one

pub at_end : (rest : List ℕ) (all : List Piece) → length rest ≡ 0 → pieces_of rest ≡ all → all ≡ []
at_end [] all h so_far = sym so_far ∙ pieces_of-nil
at_end (b ∷ bs) all h so_far = absurd (omega arith)

-- the word at the front
pub word_found : (rest : List ℕ) (b : ℕ) (bs : List ℕ) (k : ℕ) (front back : List ℕ) → rest ≡ b ∷ bs → is_name_byte b ≡ true → k ≡ word_len bs → front ≡ take (1 + k) rest → back ≡ drop (1 + k) rest → (AWord front, back) ≡ piece_at b bs
word_found rest b bs k front back is name count f g =
    rw (f, g, is, name) (ap (λ n. (AWord (take (1 + n) (b ∷ bs)), drop (1 + n) (b ∷ bs))) count)
