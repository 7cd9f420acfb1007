-- The canonical text of an expression, cut into words and symbols, has its canonical tokens.
use Rattle.std.proofs.Common.{◌≡◌, ◌<◌, ◌^◌, ℕ, List, [], ◌∷◌, ◌++◌, length, take, drop, Bool, true, false, Option, Some, None, option_map, if◌then◌else◌, codes, pos, negsuc, refl, sym, ap, ◌∙◌, append_assoc, arith}
use Rattle.std.specs.List.{list_all}
use Rattle.std.proofs.lemmas.List.{append-nil}
use Rattle.std.proofs.lemmas.Bool.{and_parts}
use Rattle.std.proofs.lemmas.Bool.Decides.{nat_tests}
use Rattle.std.specs.Fmt as fmt
use Rattle.text_lines.specs.Text.{is_blank, is_name, is_name_byte}
use Rattle.bottle_values.specs.declared.Value.{Value}
use Rattle.bottle_values.specs.declared.Value.TheVariants.{Number, Text}
use Rattle.bottle_values.specs.Texts.{is_text}
use Rattle.bottle_values.specs.Printed.{quoted}
use Rattle.bottle_values.specs.Versions.{admits}
use Rattle.bottle_values.specs.declared.version.Version.{Version}
use Rattle.bottle_values.specs.declared.version.Version.TheVariants.{One, Two}
use Rattle.session_meaning.specs.declared.node.Operator.TheVariants as op
use Rattle.session_programs.specs.declared.rank.Rank.{Rank}
use Rattle.session_programs.specs.declared.rank.Rank.TheVariants.{Factor, Product, Sum}
use Rattle.session_language.specs.declared.lexer.Symbol.{Symbol}
use Rattle.session_language.specs.declared.lexer.Symbol.TheVariants as symbol
use Rattle.session_meaning.specs.Tree.{Term, Constant, Var, ReadOf, Neg, Bin}
use Rattle.session_language.specs.Spelling.{Operand, ANumber, AText, AVariable, ARecord, Token, Leaf, Plus, Minus, Times, Open, Close}
use Rattle.session_language.specs.Lexer.{Piece, AWord, ASymbol, AQuoted, word_len, begins_equals, two_bytes, long_symbol, symbol_at, is_quote, quoted_at, piece_at, pieces_of}
use Rattle.session_language.specs.Phrase.{Run, run, stop_at, with_token, with_operand, with_record, operand_in, is_read, phrase_of, phrase_in, phrase_at}
use Rattle.session_language.specs.Parse.{read_part}
use Rattle.session_programs.specs.Text.{Words, literal, variable_name, read_text, in_parentheses, factor_text, product_text, rank_of, term_text}
use Rattle.session_programs.specs.WellFormed.{IsLiteral, IsOver, depth}
use Rattle.session_language.proofs.Pieces.{pieces_of-blank, pieces_of-piece}
use Rattle.session_language.proofs.Quotes.{quoted_is, text_has_none}
use Rattle.session_language.proofs.canonical.Lexemes.{IsWord, number_is_word, number_operand, name_bytes, name_operand, name_again}
use Rattle.session_language.proofs.canonical.Tokens.{enclose, factor_tokens, product_tokens, tokens, said, spelled, phrase, is_spelled}
use Rattle.session_language.proofs.expressions.ParserComplete.{expression_read}
use Rattle.session_language.proofs.session_reading.ProgramsFit.{term_within}

-- no byte that would make a word longer comes first
abbrev pub Fresh : List ℕ → Type 0
Fresh [] = Unit {0}
Fresh (b ∷ bs) = is_name_byte b ≡ false

-- words
name_not_blank : (b : ℕ) → is_name_byte b ≡ true → is_blank b ≡ false
name_not_blank b h = grind (arith, nat_tests)

word_len_is : (w rest : List ℕ) → list_all is_name_byte w ≡ true → Fresh rest → word_len (w ++ rest) ≡ length w
word_len_is [] [] a f = refl
word_len_is [] (b ∷ bs) a f = rw f refl
word_len_is (b ∷ w) rest a f = let h = and_parts (is_name_byte b) (list_all is_name_byte w) a in rw (h.0, word_len_is w rest h.1 f) (omega arith)

pub took : (w rest : List ℕ) → take (length w) (w ++ rest) ≡ w
took [] rest = refl
took (b ∷ w) rest = ap (λ x. b ∷ x) (took w rest)

dropped : (w rest : List ℕ) → drop (length w) (w ++ rest) ≡ rest
dropped [] rest = refl
dropped (b ∷ w) rest = dropped w rest

abbrev cut : ℕ → List ℕ → List Piece
cut k bs = AWord (take k bs) ∷ pieces_of (drop k bs)

named_at : (b : ℕ) (bs : List ℕ) → is_name_byte b ≡ true → piece_at b bs ≡ (AWord (take (word_len (b ∷ bs)) (b ∷ bs)), drop (word_len (b ∷ bs)) (b ∷ bs))
named_at b bs h = ap (λ t. if t then (AWord (take (word_len (b ∷ bs)) (b ∷ bs)), drop (word_len (b ∷ bs)) (b ∷ bs)) else if is_quote b then quoted_at bs else symbol_at (long_symbol b bs) b bs) h

pub word_lexed : (w rest : List ℕ) → IsWord w → Fresh rest → pieces_of (w ++ rest) ≡ AWord w ∷ pieces_of rest
word_lexed [] rest i f = let s = i.some in absurd (omega arith)
word_lexed (b ∷ w) rest i f =
    let is : is_name_byte b ≡ true = (and_parts (is_name_byte b) (list_all is_name_byte w) i.bytes).0 in
    let len : word_len (b ∷ (w ++ rest)) ≡ length (b ∷ w) = word_len_is (b ∷ w) rest i.bytes f in
    pieces_of-piece b (w ++ rest) (name_not_blank b is)
    ∙ ap (λ (x : Piece × List ℕ). x.0 ∷ pieces_of x.1) (named_at b (w ++ rest) is)
    ∙ ap (λ k. cut k (b ∷ (w ++ rest))) len
    ∙ ap (λ (x : List ℕ). AWord x ∷ pieces_of (drop (length (b ∷ w)) (b ∷ (w ++ rest)))) (took (b ∷ w) rest)
    ∙ ap (λ (x : List ℕ). AWord (b ∷ w) ∷ pieces_of x) (dropped (b ∷ w) rest)

pub space_lexed : (rest : List ℕ) → pieces_of (32 ∷ rest) ≡ pieces_of rest
space_lexed rest = pieces_of-blank 32 rest refl

-- symbols
no_long : (b : ℕ) (rest : List ℕ) → two_bytes b ≡ None → long_symbol b rest ≡ None
no_long b rest h = by_test (begins_equals rest)
  where
    by_test : (t : Bool) → (if t then two_bytes b else None) ≡ None
    by_test true = h
    by_test false = refl

abbrev SymbolLexed : ℕ → Symbol → Type 0
SymbolLexed b s = (rest : List ℕ) → pieces_of (b ∷ rest) ≡ ASymbol s ∷ pieces_of rest

short_symbol : (b : ℕ) (s : Symbol) (rest : List ℕ) → is_blank b ≡ false → two_bytes b ≡ None → piece_at b rest ≡ symbol_at (long_symbol b rest) b rest → symbol_at None b rest ≡ (ASymbol s, rest) → pieces_of (b ∷ rest) ≡ ASymbol s ∷ pieces_of rest
short_symbol b s rest blank none here is =
    pieces_of-piece b rest blank
    ∙ ap (λ (x : Piece × List ℕ). x.0 ∷ pieces_of x.1) (here ∙ ap (λ o. symbol_at o b rest) (no_long b rest none) ∙ is)

pub open_lexed : SymbolLexed 40 symbol.Open
open_lexed rest = short_symbol 40 symbol.Open rest refl refl refl refl

pub close_lexed : SymbolLexed 41 symbol.Close
close_lexed rest = short_symbol 41 symbol.Close rest refl refl refl refl

pub times_lexed : SymbolLexed 42 symbol.Times
times_lexed rest = short_symbol 42 symbol.Times rest refl refl refl refl

pub plus_lexed : SymbolLexed 43 symbol.Plus
plus_lexed rest = short_symbol 43 symbol.Plus rest refl refl refl refl

pub minus_lexed : SymbolLexed 45 symbol.Minus
minus_lexed rest = short_symbol 45 symbol.Minus rest refl refl refl refl

-- the tokens that are read from here on
abbrev pub reading : (v : Version) → List ℕ → Option Run
reading v bs = run v false (pieces_of bs)

abbrev pub prepend : List Token → Option Run → Option Run
prepend ts = option_map (λ r. record { tokens = ts ++ r.tokens; rest = r.rest })

prepend-append : (ts us : List Token) (o : Option Run) → prepend (ts ++ us) o ≡ prepend ts (prepend us o)
prepend-append ts us None = refl
prepend-append ts us (Some r) = ap (λ (vs : List Token). Some (record { tokens = vs; rest = r.rest })) (append_assoc ts us r.tokens)

-- these bytes are these tokens, whatever comes after them
abbrev pub Spells : (v : Version) → List ℕ → List Token → Type 0
Spells v bs ts = (rest : List ℕ) → Fresh rest → reading v (bs ++ rest) ≡ prepend ts (reading v rest)

operand_spelled : (v : Version) (w : List ℕ) (x : Operand) → IsWord w → is_read w ≡ false → operand_in w ≡ Some x → Spells v w (Leaf x ∷ [])
operand_spelled v w x i unread is rest f =
    ap (run v false) (word_lexed w rest i f)
    ∙ ap (λ b. if b then run v true (pieces_of rest) else with_operand (operand_in w) (AWord w ∷ pieces_of rest) (reading v rest)) unread
    ∙ ap (λ o. with_operand o (AWord w ∷ pieces_of rest) (reading v rest)) is

number_spelled : (v : Version) (n : ℕ) → n < 2 ^ 63 → Spells v (fmt.decimal n) (Leaf (ANumber n) ∷ [])
number_spelled v n h = let o = number_operand n h in operand_spelled v (fmt.decimal n) (ANumber n) (number_is_word n h) o.0 o.1

variable_spelled : (v : Version) (w : List ℕ) → is_name w ≡ true → Spells v w (Leaf (AVariable w) ∷ [])
variable_spelled v w h = let o = name_operand w h in operand_spelled v w (AVariable w) (name_bytes w h).word o.0 o.1

read_is_word : IsWord (codes "read")
read_is_word = record { some = omega arith; bytes = refl }

record_spelled : (v : Version) (w : List ℕ) → is_name w ≡ true → Spells v (read_text w) (Leaf (ARecord w) ∷ [])
record_spelled v w h rest f =
    ap (run v false) (word_lexed (codes "read") (32 ∷ (w ++ rest)) read_is_word refl)
    ∙ ap (run v true) (space_lexed (w ++ rest) ∙ word_lexed w rest (name_bytes w h).word f)
    ∙ ap (λ o. with_record o (reading v rest)) (name_again w h)

minus_spelled : (v : Version) (bs : List ℕ) (ts : List Token) → Spells v bs ts → Spells v (45 ∷ bs) (Minus ∷ ts)
minus_spelled v bs ts h rest f = ap (run v false) (minus_lexed (bs ++ rest)) ∙ ap (with_token Minus) (h rest f) ∙ sym (prepend-append (Minus ∷ []) ts (reading v rest))

enclosed_spelled : (v : Version) (bs : List ℕ) (ts : List Token) → Spells v bs ts → Spells v (in_parentheses bs) (enclose ts)
enclosed_spelled v bs ts h rest f =
    ap (run v false) (open_lexed ((bs ++ 41 ∷ []) ++ rest))
    ∙ ap (λ (cs : List ℕ). with_token Open (reading v cs)) (append_assoc bs (41 ∷ []) rest)
    ∙ ap (with_token Open) (h (41 ∷ rest) refl)
    ∙ ap (λ (ps : List Piece). with_token Open (prepend ts (run v false ps))) (close_lexed rest)
    ∙ ap (with_token Open) (sym (prepend-append ts (Close ∷ []) (reading v rest)))
    ∙ sym (prepend-append (Open ∷ []) (ts ++ Close ∷ []) (reading v rest))

factor_spelled : (v : Version) (r : Rank) (bs : List ℕ) (ts : List Token) → Spells v bs ts → Spells v (factor_text r bs) (factor_tokens r ts)
factor_spelled v Factor bs ts h = h
factor_spelled v Product bs ts h = enclosed_spelled v bs ts h
factor_spelled v Sum bs ts h = enclosed_spelled v bs ts h

product_spelled : (v : Version) (r : Rank) (bs : List ℕ) (ts : List Token) → Spells v bs ts → Spells v (product_text r bs) (product_tokens r ts)
product_spelled v Factor bs ts h = h
product_spelled v Product bs ts h = h
product_spelled v Sum bs ts h = enclosed_spelled v bs ts h

-- two operands, and a sign with its spaces between them
joined_spelled : (v : Version) (b : ℕ) (s : Symbol) (t : Token) (ls bs : List ℕ) (us vs : List Token) → SymbolLexed b s → ((ps : List Piece) → run v false (ASymbol s ∷ ps) ≡ with_token t (run v false ps)) → Spells v ls us → Spells v bs vs → is_name_byte b ≡ false
    → Spells v (ls ++ (32 ∷ b ∷ 32 ∷ bs)) (us ++ t ∷ vs)
joined_spelled v b s t ls bs us vs lexed taken left right sign rest f =
    ap (reading v) (append_assoc ls (32 ∷ b ∷ 32 ∷ bs) rest)
    ∙ left (32 ∷ b ∷ 32 ∷ (bs ++ rest)) refl
    ∙ ap (λ (ps : List Piece). prepend us (run v false ps)) (space_lexed (b ∷ 32 ∷ (bs ++ rest)) ∙ lexed (32 ∷ (bs ++ rest)) ∙ ap (λ (ps : List Piece). ASymbol s ∷ ps) (space_lexed (bs ++ rest)))
    ∙ ap (prepend us) (taken (pieces_of (bs ++ rest)) ∙ ap (with_token t) (right rest f) ∙ sym (prepend-append (t ∷ []) vs (reading v rest)))
    ∙ sym (prepend-append us (t ∷ vs) (reading v rest))

-- a text, where there are texts
text_lexed : (t rest : List ℕ) → is_text t ≡ true → pieces_of (quoted t ++ rest) ≡ AQuoted t ∷ pieces_of rest
text_lexed t rest h =
    pieces_of-piece 34 ((t ++ 34 ∷ []) ++ rest) refl
    ∙ ap (λ (x : Piece × List ℕ). x.0 ∷ pieces_of x.1) (ap quoted_at (append_assoc t (34 ∷ []) rest) ∙ quoted_is t rest (text_has_none t h))

text_spelled : (t : List ℕ) → is_text t ≡ true → Spells Two (quoted t) (Leaf (AText t) ∷ [])
text_spelled t h rest f =
    ap (run Two false) (text_lexed t rest h)
    ∙ ap (λ b. with_operand (if b then Some (AText t) else None) (AQuoted t ∷ pieces_of rest) (reading Two rest)) h

literal_spelled : (v : Version) (c : Value) → IsLiteral c → admits v c ≡ true → Spells v (literal c) (Leaf (said c) ∷ [])
literal_spelled v (Number (pos n)) h g = number_spelled v n h
literal_spelled v (Number (negsuc n)) h g = absurd h
literal_spelled One (Text t) h g = absurd (cc)
literal_spelled Two (Text t) h g = text_spelled t h

-- where the words are names, the text of an expression spells its tokens
module _ (v : Version) (w : Words) (known : ℕ) (ok : ℕ → Bool) (variables : (k : ℕ) → k < known → is_name (variable_name w k) ≡ true) (records : (r : ℕ) → ok r ≡ true → is_name (w.record_name r) ≡ true) where
  pub term_spelled : (e : Term) → IsOver known e → term_within v ok e ≡ true → Spells v (term_text w e) (tokens w e)
  term_spelled (Constant c) h g = literal_spelled v c h g
  term_spelled (Var k) h g = variable_spelled v (variable_name w k) (variables k h)
  term_spelled (ReadOf r) h g = record_spelled v (w.record_name r) (records r g)
  term_spelled (Neg e) h g = minus_spelled v _ _ (factor_spelled v (rank_of e) _ _ (term_spelled e h g))
  term_spelled (Bin op.Times a b) h g =
      let parts = and_parts (term_within v ok a) (term_within v ok b) g in
      joined_spelled v 42 symbol.Times Times _ _ _ _ times_lexed (λ ps. refl) (product_spelled v (rank_of a) _ _ (term_spelled a h.0 parts.0)) (factor_spelled v (rank_of b) _ _ (term_spelled b h.1 parts.1)) refl
  term_spelled (Bin op.Plus a b) h g =
      let parts = and_parts (term_within v ok a) (term_within v ok b) g in
      joined_spelled v 43 symbol.Plus Plus _ _ _ _ plus_lexed (λ ps. refl) (term_spelled a h.0 parts.0) (product_spelled v (rank_of b) _ _ (term_spelled b h.1 parts.1)) refl
  term_spelled (Bin op.Minus a b) h g =
      let parts = and_parts (term_within v ok a) (term_within v ok b) g in
      joined_spelled v 45 symbol.Minus Minus _ _ _ _ minus_lexed (λ ps. refl) (term_spelled a h.0 parts.0) (product_spelled v (rank_of b) _ _ (term_spelled b h.1 parts.1)) refl

-- no token of an expression comes first
pub record Stops (v : Version) (rest : List ℕ) : Type 0 where
  pub fresh : Fresh rest
  pub stops : reading v rest ≡ stop_at (pieces_of rest)

-- a text that spells the tokens of an expression is read as that expression
pub phrase_read : (v : Version) (w : Words) (e : Term) (bs rest : List ℕ) → Spells v bs (tokens w e) → Stops v rest → phrase_at v (pieces_of (bs ++ rest)) ≡ Some (phrase w e, pieces_of rest)
unfolding phrase_at
phrase_read v w e bs rest h st =
    ap phrase_in (h rest st.fresh ∙ ap (prepend (tokens w e)) st.stops)
    ∙ ap (λ (ts : List Token). phrase_of ts (pieces_of rest) (read_part ts)) (append-nil (tokens w e))
    ∙ ap (phrase_of (tokens w e) (pieces_of rest)) (expression_read (tokens w e) (spelled w e) (depth e) (is_spelled w e))
