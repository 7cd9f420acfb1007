-- The numbers, names and codes of a line are in their ranges.
use Rattle.std.proofs.Common.{◌≡◌, ◌<◌, ◌≤◌, ◌^◌, ℕ, List, [], ◌∷◌, length, Bool, true, false, ◌&&◌, nat_lt, nat_le, Option, Some, None, IfSome, if◌then◌else◌, codes, refl, ap, ◌∙◌, arith}
use Rattle.std.specs.List.{list_all}
use Rattle.std.specs.Str.{bytes_eq}
use Rattle.std.specs.Char.{is_ascii_digit}
use Rattle.std.proofs.lemmas.Bool.{and_parts}
use Rattle.std.proofs.lemmas.Bool.Decides.{nat_tests}
use Rattle.text_lines.specs.Text.{is_name, name_of, number_of, decimal}
use Rattle.bottle_values.specs.declared.Value.TheVariants.{Text}
use Rattle.bottle_values.specs.Texts.{is_text}
use Rattle.bottle_values.specs.Versions.{admits}
use Rattle.bottle_values.specs.declared.version.Version.{Version}
use Rattle.bottle_values.specs.declared.version.Version.TheVariants.{One, Two}
use Rattle.session_language.specs.declared.lexer.Symbol.{Symbol}
use Rattle.session_language.specs.declared.lexer.Symbol.TheVariants as symbol
use Rattle.session_language.specs.Lexer.{Piece, AWord, ASymbol, AQuoted, AStray}
use Rattle.session_language.specs.Spelling.{Operand, ANumber, AText, AVariable, ARecord, Token, Leaf, Plus, Minus, Times, Open, Close}
use Rattle.session_language.specs.Phrase.{Run, run, is_read, with_token, with_symbol, with_operand, with_record, operand_in, or_variable, text_in, expression_symbol}
use Rattle.session_language.specs.Form.{small_code, else_code, few_turns, count_alone}

-- a literal is a number, or a text where there are texts
abbrev pub operand_fits : (v : Version) → Operand → Bool
operand_fits v (ANumber n) = nat_lt n (2 ^ 63)
operand_fits v (AText t) = is_text t && admits v (Text t)
operand_fits v (AVariable name) = true
operand_fits v (ARecord name) = true

abbrev pub token_fits : (v : Version) → Token → Bool
token_fits v (Leaf x) = operand_fits v x
token_fits v Plus = true
token_fits v Minus = true
token_fits v Times = true
token_fits v Open = true
token_fits v Close = true

abbrev pub tokens_fit : (v : Version) → List Token → Type 0
tokens_fit v ts = list_all (token_fits v) ts ≡ true

-- a number has a value below 2 ^ 63, and a word that is taken for a name is one
number_by : (b : Bool) (n : ℕ) → ((b ≡ true) → nat_lt n (2 ^ 63) ≡ true) → IfSome (if b then Some n else None) (λ m. nat_lt m (2 ^ 63) ≡ true)
number_by true n h = h refl
number_by false n h = tt

number_fits : (w : List ℕ) → IfSome (number_of w) (λ n. nat_lt n (2 ^ 63) ≡ true)
number_fits w =
    number_by ((nat_lt 0 (length w) && nat_le (length w) 19) && (list_all is_ascii_digit w && nat_lt (decimal w) (2 ^ 63))) (decimal w)
    (λ e. (and_parts (list_all is_ascii_digit w) _ (and_parts (nat_lt 0 (length w) && nat_le (length w) 19) _ e).1).1)

name_by : (b : Bool) (w : List ℕ) → is_name w ≡ b → IfSome (if b then Some w else None) (λ n. is_name n ≡ true)
name_by true w h = h
name_by false w h = tt

pub name_fits : (w : List ℕ) → IfSome (name_of w) (λ n. is_name n ≡ true)
name_fits w = name_by (is_name w) w refl

operand_by : (v : Version) (n : Option ℕ) (name : Option (List ℕ)) → IfSome n (λ m. nat_lt m (2 ^ 63) ≡ true) → IfSome (or_variable n name) (λ x. operand_fits v x ≡ true)
operand_by v (Some n) name h = h
operand_by v None (Some name) h = refl
operand_by v None None h = tt

text_by : (t : List ℕ) (b : Bool) → is_text t ≡ b → IfSome (if b then Some (AText t) else None) (λ x. operand_fits Two x ≡ true)
text_by t true h = ap (λ x. x && true) h
text_by t false h = tt

text_fits : (v : Version) (bytes : List ℕ) → IfSome (text_in v bytes) (λ x. operand_fits v x ≡ true)
text_fits One bytes = tt
text_fits Two bytes = text_by bytes (is_text bytes) refl

abbrev RunFits : (v : Version) → Option Run → Type 0
RunFits v o = IfSome o (λ r. tokens_fit v r.tokens)

token_more : (v : Version) (t : Token) (o : Option Run) → token_fits v t ≡ true → RunFits v o → RunFits v (with_token t o)
token_more v t None h g = tt
token_more v t (Some r) h g = ap (λ b. b && list_all (token_fits v) r.tokens) h ∙ g

operand_more : (v : Version) (x : Option Operand) (here : List Piece) (further : Option Run) → IfSome x (λ y. operand_fits v y ≡ true) → RunFits v further → RunFits v (with_operand x here further)
operand_more v (Some x) here further h g = token_more v (Leaf x) further h g
operand_more v None here further h g = refl

record_more : (v : Version) (n : Option (List ℕ)) (further : Option Run) → RunFits v further → RunFits v (with_record n further)
record_more v (Some name) further g = token_more v (Leaf (ARecord name)) further refl g
record_more v None further g = tt

symbol_more : (v : Version) (s : Symbol) (here : List Piece) (further : Option Run) → RunFits v further → RunFits v (with_symbol (expression_symbol s) here further)
symbol_more v symbol.Plus here further g = token_more v Plus further refl g
symbol_more v symbol.Minus here further g = token_more v Minus further refl g
symbol_more v symbol.Times here further g = token_more v Times further refl g
symbol_more v symbol.Open here further g = token_more v Open further refl g
symbol_more v symbol.Close here further g = token_more v Close further refl g
symbol_more v symbol.Assign here further g = refl
symbol_more v symbol.Equal here further g = refl
symbol_more v symbol.NotEqual here further g = refl
symbol_more v symbol.Less here further g = refl
symbol_more v symbol.AtMost here further g = refl
symbol_more v symbol.Greater here further g = refl
symbol_more v symbol.AtLeast here further g = refl

word_more : (v : Version) (b : Bool) (w : List ℕ) (ps : List Piece) → RunFits v (run v true ps) → RunFits v (run v false ps) → RunFits v (if b then run v true ps else with_operand (operand_in w) (AWord w ∷ ps) (run v false ps))
word_more v true w ps h g = h
word_more v false w ps h g = operand_more v (operand_in w) (AWord w ∷ ps) (run v false ps) (operand_by v (number_of w) (name_of w) (number_fits w)) g

pub run_fits : (v : Version) (b : Bool) (ps : List Piece) → RunFits v (run v b ps)
run_fits v false [] = refl
run_fits v true [] = tt
run_fits v false (AWord w ∷ ps) = word_more v (is_read w) w ps (run_fits v true ps) (run_fits v false ps)
run_fits v true (AWord w ∷ ps) = record_more v (name_of w) (run v false ps) (run_fits v false ps)
run_fits v false (ASymbol s ∷ ps) = symbol_more v s (ASymbol s ∷ ps) (run v false ps) (run_fits v false ps)
run_fits v true (ASymbol s ∷ ps) = tt
run_fits v false (AQuoted bytes ∷ ps) = operand_more v (text_in v bytes) (AQuoted bytes ∷ ps) (run v false ps) (text_fits v bytes) (run_fits v false ps)
run_fits v true (AQuoted bytes ∷ ps) = tt
run_fits v false (AStray ∷ ps) = refl
run_fits v true (AStray ∷ ps) = tt

-- a code is below 65536
abbrev CodeFits : Option ℕ → Type 0
CodeFits o = IfSome o (λ n. n < 65536)

small_by : (b : Bool) (n : ℕ) → nat_lt n 65536 ≡ b → CodeFits (if b then Some n else None)
small_by true n h = grind (h, arith, nat_tests)
small_by false n h = tt

small_fits : (o : Option ℕ) → CodeFits (small_code o)
small_fits None = tt
small_fits (Some n) = small_by (nat_lt n 65536) n refl

code_by : (b : Bool) (o : Option ℕ) → CodeFits (small_code o) → CodeFits (if b then small_code o else None)
code_by true o h = h
code_by false o h = tt

pub code_fits : (ps : List Piece) → CodeFits (else_code ps)
code_fits [] = tt
code_fits (AWord w ∷ []) = tt
code_fits (AWord w ∷ AWord code ∷ []) = code_by (bytes_eq w (codes "else")) (number_of code) (small_fits (number_of code))
code_fits (AWord w ∷ AWord code ∷ p ∷ ps) = tt
code_fits (AWord w ∷ ASymbol s ∷ ps) = tt
code_fits (AWord w ∷ AQuoted bytes ∷ ps) = tt
code_fits (AWord w ∷ AStray ∷ ps) = tt
code_fits (ASymbol s ∷ ps) = tt
code_fits (AQuoted bytes ∷ ps) = tt
code_fits (AStray ∷ ps) = tt

-- a count of turns is at most 10000
abbrev CountFits : Option ℕ → Type 0
CountFits o = IfSome o (λ n. n ≤ 10000)

few_by : (b : Bool) (n : ℕ) → nat_le n 10000 ≡ b → CountFits (if b then Some n else None)
few_by true n h = grind (h, arith, nat_tests)
few_by false n h = tt

few_fit : (o : Option ℕ) → CountFits (few_turns o)
few_fit None = tt
few_fit (Some n) = few_by (nat_le n 10000) n refl

pub count_fits : (ps : List Piece) → CountFits (count_alone ps)
count_fits [] = tt
count_fits (AWord w ∷ []) = few_fit (number_of w)
count_fits (AWord w ∷ p ∷ ps) = tt
count_fits (ASymbol s ∷ ps) = tt
count_fits (AQuoted bytes ∷ ps) = tt
count_fits (AStray ∷ ps) = tt
